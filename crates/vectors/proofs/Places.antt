-- The binary digits of a number by their places, 0 the least; and by their numbers in a width, 0 the most significant. Assumes nothing.
use mathlib.Core.Path.{◌≡◌, refl, sym, ap, ap₂, ◌∙◌}
use mathlib.Core.Bool.{Bool, true, false, ◌&&◌, ◌||◌}
use mathlib.Core.Logic.{⊎_elim}
use Prim.Native.Nat.{ℕ, zero, suc, min, max, ◌+◌, ◌-◌, ◌*◌, ◌/◌, ◌%◌, ◌^◌, ◌≤◌, ◌<◌}
use native.Mathlib.Nat.{mod-lt, div-eq_of_lt, div_self, div-one, zero-div, zero-lt-suc, pow-suc, mul-mod_left, lt_of_lt_of_le, mul_assoc}
use native.Mathlib.Omega.{arith}
use lib.Dec.{eqb}
use lib.Arith.{lt-one}
use lib.Pow.{pow_pos, pow_mono, pow-lt, pow-add, shr-shr, shl-shr, field, mod-mod-pow}
use lib.Bits.{bit_xor, bit_and, bit_or, differ, xor_step, and_step, or_step, xor_shr, and_shr, or_shr, or_shifted}
use borrow.Author.Tests.{eq-eqb, ne_eqb}
use Rattle.bits.specs.Bits.{digit, tally, ◌⊕◌}
use Rattle.bits.proofs.Orders.{le-or-lt, eq_or_not}
use Rattle.bits.proofs.Sums.{eqb_iff}
use Rattle.bits.proofs.Octets.{digit_half}

pub or-none : (p : Bool) → (p || false) ≡ p
or-none true = refl
or-none false = refl

pub and_none : (p : Bool) → (p && false) ≡ false
and_none true = refl
and_none false = refl

pub xor_none : (p : Bool) → p ⊕ false ≡ p
xor_none true = refl
xor_none false = refl

pub xor_same : (p : Bool) → p ⊕ p ≡ false
xor_same true = refl
xor_same false = refl

-- The digit of a number that counts 2 ^ j.
abbrev pub place : ℕ → ℕ → Bool
place v j = eqb (v / 2 ^ j % 2) 1

-- ---- two numbers digit by digit

pub tally_of : (p : ℕ) → p < 2 → p ≡ tally (eqb p 1)
tally_of zero h = refl
tally_of (suc zero) h = refl
tally_of (suc (suc p)) h = absurd (omega arith)

pub tally_odd : (b : Bool) → eqb (tally b % 2) 1 ≡ b
tally_odd true = refl
tally_odd false = refl

-- An operation that goes by last digits and halves, from its four sums.
module _ (on : ℕ → ℕ → ℕ) (of : Bool → Bool → Bool) (four : (p q : Bool) → on (tally p) (tally q) ≡ tally (of p q)) where
  last_digit : (a b r h : ℕ) → r ≡ h * 2 + on (a % 2) (b % 2) → eqb (r % 2) 1 ≡ of (eqb (a % 2) 1) (eqb (b % 2) 1)
  last_digit a b r h e =
      let p = a % 2 in
      let q = b % 2 in
      let odd : r % 2 ≡ on p q % 2 = omega arith in
      let known : on p q ≡ tally (of (eqb p 1) (eqb q 1)) =
      ap₂ on (tally_of p (mod-lt a (zero-lt-suc 1))) (tally_of q (mod-lt b (zero-lt-suc 1))) ∙ four (eqb p 1) (eqb q 1) in
      ap (λ (n : ℕ). eqb n 1) (odd ∙ ap (λ (n : ℕ). n % 2) known) ∙ tally_odd (of (eqb p 1) (eqb q 1))

four_xor : (p q : Bool) → differ (tally p) (tally q) ≡ tally (p ⊕ q)
four_xor true true = refl
four_xor true false = refl
four_xor false true = refl
four_xor false false = refl

four_or : (p q : Bool) → max (tally p) (tally q) ≡ tally (p || q)
four_or true true = refl
four_or true false = refl
four_or false true = refl
four_or false false = refl

four_and : (p q : Bool) → min (tally p) (tally q) ≡ tally (p && q)
four_and true true = refl
four_and true false = refl
four_and false true = refl
four_and false false = refl

module _ (a b j : ℕ) where
  abbrev x : ℕ
  x = a / 2 ^ j

  abbrev y : ℕ
  y = b / 2 ^ j

  pub place_xor : place (bit_xor a b) j ≡ place a j ⊕ place b j
  place_xor = ap (λ (n : ℕ). eqb (n % 2) 1) (xor_shr a b j) ∙ last_digit differ ◌⊕◌ four_xor x y (bit_xor x y) (bit_xor (x / 2) (y / 2))
      (xor_step x y)

  pub place_or : place (bit_or a b) j ≡ (place a j || place b j)
  place_or = ap (λ (n : ℕ). eqb (n % 2) 1) (or_shr a b j) ∙ last_digit max ◌||◌ four_or x y (bit_or x y) (bit_or (x / 2) (y / 2))
      (or_step x y)

  pub place_and : place (bit_and a b) j ≡ (place a j && place b j)
  place_and = ap (λ (n : ℕ). eqb (n % 2) 1) (and_shr a b j) ∙ last_digit min ◌&&◌ four_and x y (bit_and x y) (bit_and (x / 2) (y / 2))
      (and_step x y)

-- ---- numbers moved by places

pub place_zero : (j : ℕ) → place 0 j ≡ false
place_zero j = ap (λ (n : ℕ). eqb (n % 2) 1) (zero-div (2 ^ j))

-- No digit stands at or above the width.
pub place_above : (v w j : ℕ) → v < 2 ^ w → w ≤ j → place v j ≡ false
place_above v w j h l = ap (λ (n : ℕ). eqb (n % 2) 1) (div-eq_of_lt (lt_of_lt_of_le h (pow_mono l)))

pub place_down : (v k j : ℕ) → place (v / 2 ^ k) j ≡ place v (k + j)
place_down v k j = ap (λ (n : ℕ). eqb (n % 2) 1) (shr-shr v k j)

pub place_up : (v k j : ℕ) → place (v * 2 ^ k) (k + j) ≡ place v j
place_up v k j = sym (place_down (v * 2 ^ k) k j) ∙ ap (λ (n : ℕ). place n j) (shl-shr v k)

pub place_below : (v k j : ℕ) → j < k → place (v * 2 ^ k) j ≡ false
place_below v k j h =
    let d = k - suc j in
    let e : k ≡ suc d + j = omega arith in
    ap (λ (n : ℕ). place (v * n) j) (ap (λ (n : ℕ). 2 ^ n) e ∙ pow-add 2 (suc d) j)
    ∙ ap (λ (n : ℕ). place n j) (sym (mul_assoc v (2 ^ suc d) (2 ^ j)))
    ∙ ap (λ (n : ℕ). eqb (n % 2) 1) (shl-shr (v * 2 ^ suc d) j ∙ ap (λ (n : ℕ). v * n) (pow-suc 2 d) ∙ sym (mul_assoc v (2 ^ d) 2))
    ∙ ap (λ (n : ℕ). eqb n 1) (mul-mod_left (v * 2 ^ d) 2)

-- What is cut off above the width changes no digit below it.
pub place_cut : (v w j : ℕ) → j < w → place (v % 2 ^ w) j ≡ place v j
place_cut v w j h =
    let d = w - suc j in
    let e : w ≡ d + 1 + j = omega arith in
    ap (λ (n : ℕ). place (v % 2 ^ n) j) e
    ∙ ap (λ (n : ℕ). eqb (n % 2) 1) (field v (d + 1) j)
    ∙ ap (λ (n : ℕ). eqb n 1) (mod-mod-pow (v / 2 ^ j) d 1)

-- The only digit of a power.
pub place_power : (i j : ℕ) → place (2 ^ i) j ≡ eqb i j
place_power i j = ⊎_elim same (λ d. ⊎_elim (over d) (under d) (le-or-lt j i)) (eq_or_not i j)
  where
    one : 1 * 2 ^ i ≡ 2 ^ i
    one = omega arith

    same : i ≡ j → place (2 ^ i) j ≡ eqb i j
    same e = ap (λ (n : ℕ). place (2 ^ n) j) e ∙ ap (λ (n : ℕ). eqb (n % 2) 1) (div_self (pow_pos j)) ∙ sym (eq-eqb i j e)

    under : (i ≡ j → ⊥) → i < j → place (2 ^ i) j ≡ eqb i j
    under d h = ap (λ (n : ℕ). eqb (n % 2) 1) (div-eq_of_lt (pow-lt h)) ∙ sym (ne_eqb i j d)

    over : (i ≡ j → ⊥) → j ≤ i → place (2 ^ i) j ≡ eqb i j
    over d h = ap (λ (n : ℕ). place n j) (sym one) ∙ place_below 1 i j (omega (arith, d)) ∙ sym (ne_eqb i j d)

-- One number in front of another of k digits.
module _ (a b k : ℕ) (small : b < 2 ^ k) where
  joint : (j : ℕ) → place (a * 2 ^ k + b) j ≡ (place (a * 2 ^ k) j || place b j)
  joint j = ap (λ (n : ℕ). place n j) (sym (or_shifted a k b small)) ∙ place_or (a * 2 ^ k) b j

  pub place-front : (j : ℕ) → place (a * 2 ^ k + b) (k + j) ≡ place a j
  place-front j = joint (k + j) ∙ ap₂ ◌||◌ (place_up a k j) (place_above b k (k + j) small (omega arith)) ∙ or-none (place a j)

  pub place_behind : (j : ℕ) → j < k → place (a * 2 ^ k + b) j ≡ place b j
  place_behind j h = joint j ∙ ap (λ (p : Bool). p || place b j) (place_below a k j h)

-- ---- digits by their numbers in a width

module _ (w u v i : ℕ) where
  pub digit_xor : digit w (bit_xor u v) i ≡ digit w u i ⊕ digit w v i
  digit_xor = place_xor u v (w - suc i)

  pub digit_or : digit w (bit_or u v) i ≡ (digit w u i || digit w v i)
  digit_or = place_or u v (w - suc i)

  pub digit_and : digit w (bit_and u v) i ≡ (digit w u i && digit w v i)
  digit_and = place_and u v (w - suc i)

-- Bit k alone.
pub digit_power : (w k i : ℕ) → k < w → i < w → digit w (2 ^ (w - suc k)) i ≡ eqb i k
digit_power w k i hk hi =
    place_power (w - suc k) (w - suc i) ∙ eqb_iff (w - suc k) (w - suc i) i k (λ e. omega arith) (λ e. omega arith)

-- A digit more is the odd one.
pub digit_odd : (w v : ℕ) → v % 2 ≡ tally (digit (suc w) v w)
digit_odd w v =
    let e : 0 ≡ suc w - suc w = omega arith in
    tally_of (v % 2) (mod-lt v (zero-lt-suc 1))
    ∙ ap (λ (n : ℕ). tally (eqb (n % 2) 1)) (sym (div-one v))
    ∙ ap (λ (n : ℕ). tally (place v n)) e

-- A number is known by its digits.
pub same_digits : (w u v : ℕ) → u < 2 ^ w → v < 2 ^ w → ((i : ℕ) → i < w → digit w u i ≡ digit w v i) → u ≡ v
same_digits zero u v hu hv e = lt-one hu ∙ sym (lt-one hv)
same_digits (suc w) u v hu hv e =
    let halves : u / 2 ≡ v / 2 =
    same_digits w (u / 2) (v / 2) (half u hu) (half v hv) (λ i h. sym (digit_half w u i h) ∙ e i (omega arith) ∙ digit_half w v i h) in
    let odds : u % 2 ≡ v % 2 = digit_odd w u ∙ ap tally (e w (omega arith)) ∙ sym (digit_odd w v) in
    omega arith
  where
    half : (n : ℕ) → n < 2 ^ suc w → n / 2 < 2 ^ w
    half n h = omega (arith, pow-suc 2 w)
