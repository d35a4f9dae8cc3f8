-- Digits of numbers: two numbers added digit by digit, and a number of 16 digits as two of eight.
use mathlib.Core.Path.{◌≡◌, refl, sym, ap, ap₂, ◌∙◌}
use mathlib.Core.Bool.{Bool, true, false}
use Prim.Native.Nat.{ℕ, zero, suc, ◌+◌, ◌-◌, ◌*◌, ◌/◌, ◌%◌, ◌^◌, ◌<◌}
use mathlib.Core.List.{List, ◌∷◌}
use native.Mathlib.Nat.{add-div_left, add-mod_left, div-eq_of_lt, mod-eq_of_lt, mod-lt, zero-lt-suc, mul_assoc, pow-suc, mul-mod_left}
use native.Mathlib.Nat.{le_step, lt-suc_self}
use native.Mathlib.Numerals.{add-one}
use native.Mathlib.Omega.{arith}
use lib.Dec.{eqb}
use lib.ListN.{get_or}
use lib.Pow.{shr-shr, shl-shr, field, mod-mod-pow, pow-add}
use lib.Bits.{bit_xor, differ, xor_step, xor_shr}
use Rattle.bits.specs.Bits.{Word, digit, bit, tally, number, ◌⊕◌}

tally_of : (p : ℕ) → p < 2 → p ≡ tally (eqb p 1)
tally_of zero h = refl
tally_of (suc zero) h = refl
tally_of (suc (suc p)) h = absurd (omega arith)

tally_odd : (b : Bool) → eqb (tally b % 2) 1 ≡ b
tally_odd true = refl
tally_odd false = refl

four : (p q : Bool) → differ (tally p) (tally q) ≡ tally (p ⊕ q)
four true true = refl
four true false = refl
four false true = refl
four false false = refl

odd_xor : (a b : ℕ) → eqb (bit_xor a b % 2) 1 ≡ eqb (a % 2) 1 ⊕ eqb (b % 2) 1
odd_xor a b =
    let e = xor_step a b in
    let odd : bit_xor a b % 2 ≡ differ (a % 2) (b % 2) % 2 = omega arith in
    let known : differ (a % 2) (b % 2) ≡ tally (eqb (a % 2) 1 ⊕ eqb (b % 2) 1) =
    ap₂ differ (tally_of (a % 2) (mod-lt a (zero-lt-suc 1))) (tally_of (b % 2) (mod-lt b (zero-lt-suc 1)))
    ∙ four (eqb (a % 2) 1) (eqb (b % 2) 1) in
    ap (λ (n : ℕ). eqb n 1) (odd ∙ ap (λ (n : ℕ). n % 2) known) ∙ tally_odd (eqb (a % 2) 1 ⊕ eqb (b % 2) 1)

pub digit_xor : (w a b k : ℕ) → digit w (bit_xor a b) k ≡ digit w a k ⊕ digit w b k
digit_xor w a b k =
    let j = w - suc k in
    ap (λ (n : ℕ). eqb (n % 2) 1) (xor_shr a b j) ∙ odd_xor (a / 2 ^ j) (b / 2 ^ j)

-- the first eight of 16 digits are those of the number by 256
pub digit_high : (r k : ℕ) → k < 8 → digit 8 (r / 256) k ≡ digit 16 r k
digit_high r k h =
    ap (λ (n : ℕ). eqb (n % 2) 1)
    (shr-shr r 8 (8 - suc k) ∙ ap (λ z. r / 2 ^ z) (omega arith))

-- the last eight are those of what is left
pub digit_low_of : (r k : ℕ) → k < 8 → digit 8 (r % 256) k ≡ digit 16 r (8 + k)
digit_low_of r k h =
    let m = 7 - k in
    let e : 8 - suc k ≡ m = omega arith in
    let f : 8 ≡ k + 1 + m = omega arith in
    let g : m ≡ 16 - suc (8 + k) = omega arith in
    ap (λ (z : ℕ). eqb (r % 256 / 2 ^ z % 2) 1) e
    ∙ ap (λ (z : ℕ). eqb (r % 2 ^ z / 2 ^ m % 2) 1) f
    ∙ ap (λ (n : ℕ). eqb (n % 2) 1) (field r (k + 1) m)
    ∙ ap (λ (n : ℕ). eqb n 1) (mod-mod-pow (r / 2 ^ m) k 1)
    ∙ ap (λ (z : ℕ). eqb (r / 2 ^ z % 2) 1) g

-- and stand in front where they are moved there
pub digit_low : (r k : ℕ) → k < 8 → digit 16 ((r % 256) * 256) k ≡ digit 16 r (8 + k)
digit_low r k h =
    let e : 16 - suc k ≡ 8 + (8 - suc k) = omega arith in
    ap (λ (z : ℕ). eqb ((r % 256) * 256 / 2 ^ z % 2) 1) e
    ∙ ap (λ (n : ℕ). eqb (n % 2) 1)
    (sym (shr-shr ((r % 256) * 256) 8 (8 - suc k)) ∙ ap (λ (n : ℕ). n / 2 ^ (8 - suc k)) (shl-shr (r % 256) 8))
    ∙ digit_low_of r k h

-- and zeros behind them
pub digit_none : (r k : ℕ) → k < 8 → digit 16 ((r % 256) * 256) (8 + k) ≡ false
digit_none r k h =
    let m = 7 - k in
    let e : 16 - suc (8 + k) ≡ m = omega arith in
    let f : 8 ≡ suc k + m = omega arith in
    let v = r % 256 in
    ap (λ (z : ℕ). eqb (v * 256 / 2 ^ z % 2) 1) e
    ∙ ap (λ (n : ℕ). eqb (v * n / 2 ^ m % 2) 1) (ap (λ (n : ℕ). 2 ^ n) f ∙ pow-add 2 (suc k) m)
    ∙ ap (λ (n : ℕ). eqb (n / 2 ^ m % 2) 1) (sym (mul_assoc v (2 ^ suc k) (2 ^ m)))
    ∙ ap (λ (n : ℕ). eqb (n % 2) 1) (shl-shr (v * 2 ^ suc k) m ∙ ap (λ (n : ℕ). v * n) (pow-suc 2 k) ∙ sym (mul_assoc v (2 ^ k) 2))
    ∙ ap (λ (n : ℕ). eqb n 1) (mul-mod_left (v * 2 ^ k) 2)

pub number_same : (w : ℕ) (x y : Word) → ((k : ℕ) → k < w → x k ≡ y k) → number w x ≡ number w y
unfolding number
number_same zero x y h = refl
number_same (suc w) x y h = ap₂ (λ a b. 2 * a + tally b) (number_same w x y (λ k l. h k (le_step l))) (h w (lt-suc_self w))

-- ---- the bits of octets, the first one apart

pub next_octet : (o : List ℕ) (b k : ℕ) → bit (b ∷ o) (8 + k) ≡ bit o k
next_octet o b k = ap₂ (λ q r. digit 8 (get_or (b ∷ o) q 0) r) (add-div_left k (zero-lt-suc 7) ∙ add-one (k / 8)) (add-mod_left 8 k)

pub this_octet : (o : List ℕ) (b k : ℕ) → k < 8 → bit (b ∷ o) k ≡ digit 8 b k
this_octet o b k h = ap₂ (λ q r. digit 8 (get_or (b ∷ o) q 0) r) (div-eq_of_lt h) (mod-eq_of_lt h)
