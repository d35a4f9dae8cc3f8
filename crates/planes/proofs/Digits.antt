-- The bits of a number, once over the width.
-- Assumes nothing.
use mathlib.Core.Path.{◌≡◌, refl, ap, ◌∙◌}
use mathlib.Core.Bool.{Bool, true, false, ◌&&◌}
use Prim.Native.Nat.{ℕ, suc, ◌+◌, ◌-◌, ◌*◌, ◌/◌, ◌%◌, ◌^◌, ◌<◌}
use native.Mathlib.Nat.{pow-suc}
use native.Mathlib.Omega.{arith}
use lib.Dec.{eqb, eqb→eq}
use lib.Pow.{pow_pos, high, ones_lt, ones_split}
use Rattle.bits.specs.Bits.{digit, tally, ◌⊕◌}
use Rattle.bits.proofs.Sums.{below_at}

pub half : (a x : Bool) → tally (a ⊕ x) + 2 * tally (a && x) ≡ tally a + tally x
half true true = refl
half true false = refl
half false true = refl
half false false = refl

-- All 64 bits of the greatest number are ones.
pub ones_at : (w i : ℕ) → i < w → digit w (2 ^ w - 1) i ≡ true
ones_at w i hi =
    let k = w - suc i in
    let u : w ≡ suc i + k = omega arith in
    ap (λ (n : ℕ). eqb (n % 2) 1)
    (ap (λ (n : ℕ). (2 ^ n - 1) / 2 ^ k) u ∙ ap (λ (n : ℕ). n / 2 ^ k) (ones_split (suc i) k) ∙ high (2 ^ suc i - 1) k (ones_lt k))
    ∙ ap (λ (n : ℕ). eqb n 1) (odd_ones i)
  where
    odd_ones : (i : ℕ) → (2 ^ suc i - 1) % 2 ≡ 1
    odd_ones i = omega (arith, pow-suc 2 i, pow_pos i)

-- A number below 8, by its three bits.
bits_of : ℕ → ℕ
bits_of v = tally (eqb (v % 2) 1) + 2 * tally (eqb (v / 2 % 2) 1) + 4 * tally (eqb (v / 4 % 2) 1)

pub three_bits : (v : ℕ) → v < 8 → tally (eqb (v % 2) 1) + 2 * tally (eqb (v / 2 % 2) 1) + 4 * tally (eqb (v / 4 % 2) 1) ≡ v
unfolding bits_of
three_bits v h = eqb→eq (bits_of v) v (below_at 8 (λ n. eqb (bits_of n) n) tt v h)
