-- Computed for each table: the steps, read backwards from a check of the parity blocks, leave the row of that check alone.
use mathlib.Core.Path.{◌≡◌, refl}
use mathlib.Core.Bool.{not, ◌&&◌}
use mathlib.Core.List.{List, []}
use Prim.Native.Nat.{ℕ, zero, suc, ◌+◌, ◌*◌, ◌%◌, ◌<◌}
use native.Mathlib.Omega.{arith}
use lib.Dec.{eqb}
use lib.ListN.{get_or}
use Rattle.bits.specs.Bits.{Word, number, over}
use Rattle.rules.specs.Tables.{parity16, parity32, parity64, parity511}
use Rattle.encoder.specs.steps.Steps.{steps16, steps32, steps64, steps511}
use Rattle.encoder.proofs.steps.Walk.{numbers, backs_numbers}

below_four : (P : ℕ → Type 0) → P 0 → P 1 → P 2 → P 3 → (r : ℕ) → r < 4 → P r
below_four P a b c d zero h = a
below_four P a b c d (suc zero) h = b
below_four P a b c d (suc (suc zero)) h = c
below_four P a b c d (suc (suc (suc zero))) h = d
below_four P a b c d (suc (suc (suc (suc r)))) h = absurd (omega arith)

-- The shifts of the parity blocks of a check row, which follow J information blocks, as weights of R = q + 1 rows:
-- parity block a has its weights in row (a + first) mod R.
abbrev pub checked : ℕ → ℕ → ℕ → List (List ℕ) → ℕ → Word
checked q first J row r k = over (get_or row (J + (r + first * q) % suc q) []) (λ s. eqb k s)

-- The weights e in row r₀, no others.
abbrev pub alone : ℕ → Word → ℕ → Word
alone r₀ e r k = eqb r r₀ && e k

-- Read backwards from check row r, the steps leave the weights e in row r alone.
abbrev pub Solves : ℕ → ℕ → ℕ → ℕ → Word → List (List (List ℕ)) → List (List ℕ) → ℕ → Type 0
Solves m q first J e H steps r = backs_numbers m steps 15 (numbers (suc m) (suc q) (checked q first J (get_or H r []))) ≡ numbers (suc m)
    (suc q) (alone r e)

-- The row itself; and the row with the sum of all its bits added to each of them.
abbrev pub itself : Word
itself k = eqb k 0

abbrev pub others : Word
others k = not (eqb k 0)

pub facts16 : (r : ℕ) → r < 4 → Solves 15 3 1 4 itself parity16 steps16 r
unfolding parity16 backs_numbers number
facts16 = below_four (Solves 15 3 1 4 itself parity16 steps16) refl refl refl refl

pub facts32 : (r : ℕ) → r < 4 → Solves 31 3 1 4 itself parity32 steps32 r
unfolding parity32 backs_numbers number
facts32 = below_four (Solves 31 3 1 4 itself parity32 steps32) refl refl refl refl

pub facts64 : (r : ℕ) → r < 4 → Solves 63 3 1 4 itself parity64 steps64 r
unfolding parity64 backs_numbers number
facts64 = below_four (Solves 63 3 1 4 itself parity64 steps64) refl refl refl refl

first511 : Solves 510 1 0 14 others parity511 steps511 0
unfolding parity511 backs_numbers number
first511 = refl

second511 : Solves 510 1 0 14 others parity511 steps511 1
unfolding parity511 backs_numbers number
second511 = refl

pub facts511 : (r : ℕ) → r < 2 → Solves 510 1 0 14 others parity511 steps511 r
facts511 zero h = first511
facts511 (suc zero) h = second511
facts511 (suc (suc r)) h = absurd (omega arith)
