-- The way of choosing by sizes.
use Rattle.std.specs.Prelude.{Bool, not, ◌&&◌, ℕ, zero, suc, ◌+◌, ◌-◌, ℤ}
use Rattle.std.specs.Int.Signed.{lt_z}
use Rattle.bits.specs.Bits.{Word, when◌then◌else◌}
use Rattle.rules.specs.Codes.{Code, bits}
use Rattle.rules.specs.Checks.{excess}
use Rattle.rules.specs.Flipping.{Next, quiet, stuck, flip, Way, by_excess}

-- Of two bits, the later one only if it is marked and smaller.
abbrev pub smaller_of : (ℕ → ℕ → Bool) → (ℕ → Bool) → ℕ → ℕ → ℕ
smaller_of less marked earlier later = when marked later && less later earlier then later else earlier

-- Of a bit and those of the n bits from `first` on that are marked, the smallest; of several, the one that comes first.
unfoldable pub smallest : (ℕ → ℕ → Bool) → (ℕ → Bool) → ℕ → ℕ → ℕ → ℕ
smallest less marked bit first zero = bit
smallest less marked bit first (suc n) = smaller_of less marked (smallest less marked bit first n) (first + n)

-- The bits whose excess is not below e.
abbrev pub reaching : Code → Word → ℤ → ℕ → Bool
reaching c x e n = not (lt_z (excess c x n) e)

-- In place of the bit that is to be flipped, another one.
abbrev pub instead : (ℕ → ℤ → ℕ) → Next → Next
instead f quiet = quiet
instead f (stuck n e) = stuck n e
instead f (flip n e) = flip (f n e) e

-- Of the bits with equal greatest excess, of which n is the lowest, the smallest; of several, the lowest number.
unfoldable pub smallest_sent : (ℕ → ℕ → Bool) → Code → Word → ℕ → ℤ → ℕ
smallest_sent less c x n e = smallest less (reaching c x e) n c.unsent (bits c - c.unsent)

-- The way of choosing by sizes: it flips that one. `less` says which of two bits is smaller.
unfoldable pub by_size : (ℕ → ℕ → Bool) → Code → Way
by_size less c x = instead (smallest_sent less c x) (by_excess c x)
