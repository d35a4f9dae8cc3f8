-- The words that are tried differ from the published ones in one digit, and that digit is each of the other 15.
use mathlib.Core.Path.{◌≡◌, refl, sym, ap, ap₂, ◌∙◌}
use mathlib.Core.Bool.{true, not, ◌&&◌, ◌||◌}
use Prim.Native.Nat.{ℕ, ◌+◌, ◌*◌, ◌^◌, ◌<◌}
use native.Mathlib.Nat.{add-zero, zero-mul, zero-add}
use lib.Bits.{bit_xor, xor_block, xor_zero_r}
use lib.Dec.{eqb, ltb}
use lib.Pow.{pow_pos}
use Rattle.bits.specs.Bits.{below}

-- A word is what is in front of a digit, the digit, and what is behind it.
pub another_digit : (k front digit behind x : ℕ) → digit < 2 ^ 4 → x < 2 ^ 4 → behind < 2 ^ k
    → bit_xor ((front * 2 ^ 4 + digit) * 2 ^ k + behind) (x * 2 ^ k) ≡ (front * 2 ^ 4 + bit_xor digit x) * 2 ^ k + behind
another_digit k front digit behind x hd hx hb =
    ap (bit_xor ((front * 2 ^ 4 + digit) * 2 ^ k + behind)) (sym (add-zero (x * 2 ^ k)))
    ∙ xor_block k (front * 2 ^ 4 + digit) x behind 0 hb (pow_pos k)
    ∙ ap₂ (λ (y z : ℕ). y * 2 ^ k + z)
    (ap (bit_xor (front * 2 ^ 4 + digit)) (sym (ap (λ (n : ℕ). n + x) (zero-mul (2 ^ 4)) ∙ zero-add x))
    ∙ xor_block 4 front 0 digit x hd hx
    ∙ ap (λ (n : ℕ). n * 2 ^ 4 + bit_xor digit x) (xor_zero_r front))
    (xor_zero_r behind)

-- From any digit to any other there is such an x from 1 to 15, and only to another one.
pub every_other : below 16
    (λ d. below 16 (λ e. eqb d e || (ltb 0 (bit_xor d e) && ltb (bit_xor d e) 16 && eqb (bit_xor d (bit_xor d e)) e)))
    ≡ true
every_other = refl

pub only_others : below 16 (λ d. below 15 (λ x. ltb (bit_xor d (x + 1)) 16 && not (eqb (bit_xor d (x + 1)) d))) ≡ true
only_others = refl
