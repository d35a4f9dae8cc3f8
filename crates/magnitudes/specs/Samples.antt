-- Samples: the bit of each, its magnitude, and whether it is a finite number.
use Rattle.std.specs.Prelude.{Bool, true, false, List, ℕ, Float, length, get_or}
use Rattle.std.specs.Float.{nan, inf, fin, binary32}
use Rattle.std.specs.Float.Ieee.{lt, neg, of_bits}
use Rattle.bits.specs.Bits.{Word, below, when◌then◌else◌}

-- The bit is 1 if the sample is below 0, so both zeros read as 0.
abbrev pub is_one : Float → Bool
is_one s = lt s (of_bits binary32 0)

-- One receiver gives a sample per bit. Past the last sample every bit is 0.
abbrev pub sample_of : List Float → ℕ → Float
sample_of samples n = get_or samples n nan

unfoldable pub read : List Float → Word
read samples n = is_one (sample_of samples n)

-- A sample's magnitude, by comparison and negation only.
abbrev pub magnitude : Float → Float
magnitude s = when is_one s then neg s else s

-- Whether bit n's sample has a smaller magnitude than bit k's.
unfoldable pub smaller : List Float → ℕ → ℕ → Bool
smaller samples n k = lt (magnitude (sample_of samples n)) (magnitude (sample_of samples k))

-- A sample is finite if it is neither infinite nor not a number.
abbrev pub is_finite : Float → Bool
is_finite nan = false
is_finite (inf negative) = false
is_finite (fin negative digits exponent) = true

unfoldable pub all_finite : List Float → Bool
all_finite samples = below (length samples) (λ n. is_finite (sample_of samples n))
