-- Octets and their bits, both ways.
use mathlib.Core.Path.{◌≡◌, refl, sym, ap, ap₂, ◌∙◌, fun_ext, subst}
use mathlib.Core.Bool.{Bool, true, false, ◌&&◌}
use mathlib.Core.List.{List, [], ◌∷◌}
use Prim.Native.Nat.{ℕ, zero, suc, ◌+◌, ◌-◌, ◌*◌, ◌/◌, ◌%◌, ◌^◌, ◌≤◌, ◌<◌, zero-le}
use native.Mathlib.Nat.{zero-lt-suc, mod-lt, le_step, lt-suc_self, le_refl, zero-div, div-one, pow-suc, div-lt_iff_lt-mul, add-div_left}
use native.Mathlib.Nat.{add-mod_left, div-eq_of_lt, mod-eq_of_lt, not-suc-le-zero, lt_of_not-le}
use native.Mathlib.Decide.{ℕ_discrete, dec_lt}
use native.Mathlib.Numerals.{add-one, one-add}
use native.Mathlib.Omega.{arith}
use lib.Arith.{lt-one}
use lib.Dec.{eqb, ltb}
use lib.ListN.{length, get_or, replicate}
use lib.Pow.{shr-shr}
use borrow.Author.Tests.{lt-ltb, le-ltb}
use Rattle.bits.specs.Bits.{Word, digit, bit, tally, number, octets}
use Rattle.bits.proofs.Counting.{tally_le}

-- bit 0 is the most significant bit of octet 0
pub first_bit : bit (128 ∷ []) 0 ≡ true
first_bit = refl

-- ---- numbers

number_same : (w : ℕ) (x y : Word) → ((k : ℕ) → k < w → x k ≡ y k) → number w x ≡ number w y
unfolding number
number_same zero x y h = refl
number_same (suc w) x y h = ap₂ (λ a b. 2 * a + tally b) (number_same w x y (λ k l. h k (le_step l))) (h w (lt-suc_self w))

odd : (v : ℕ) (b : Bool) → eqb ((2 * v + tally b) % 2) 1 ≡ b
odd v true = let e : (2 * v + 1) % 2 ≡ 1 = omega arith in ap (λ z. eqb z 1) e
odd v false = let e : (2 * v + 0) % 2 ≡ 0 = omega arith in ap (λ z. eqb z 1) e

-- the bits but the last are those of half the number
pub digit_half : (w v k : ℕ) → k < w → digit (suc w) v k ≡ digit w (v / 2) k
digit_half w v k h =
    ap (λ z. eqb (v / 2 ^ z % 2) 1) (omega arith)
    ∙ ap (λ z. eqb (z % 2) 1) (ap (λ z. v / 2 ^ z) (sym (one-add (w - suc k))) ∙ sym (shr-shr v 1 (w - suc k)))

digit_last : (w v : ℕ) → digit (suc w) v w ≡ eqb (v % 2) 1
digit_last w v =
    let e : suc w - suc w ≡ 0 = omega arith in
    ap (λ z. eqb (v / 2 ^ z % 2) 1) e ∙ ap (λ z. eqb (z % 2) 1) (div-one v)

pub digit_number : (w : ℕ) (x : Word) (k : ℕ) → k < w → digit w (number w x) k ≡ x k
unfolding number
digit_number zero x k h = absurd (not-suc-le-zero h)
digit_number (suc w) x k h = go (ℕ_discrete k w) (digit_number w x k)
  where
    half : (2 * number w x + tally (x w)) / 2 ≡ number w x
    half = omega (arith, tally_le (x w))

    go : Dec (k ≡ w) → (k < w → digit w (number w x) k ≡ x k) → digit (suc w) (2 * number w x + tally (x w)) k ≡ x k
    go (yes e) ih = ap (digit (suc w) (2 * number w x + tally (x w))) e ∙ digit_last w (2 * number w x + tally (x w))
        ∙ odd (number w x) (x w) ∙ ap x (sym e)
    go (no d) ih = digit_half w (2 * number w x + tally (x w)) k (omega arith) ∙ ap (λ z. digit w z k) half ∙ ih (omega arith)

pub number_digit : (w v : ℕ) → v < 2 ^ w → number w (digit w v) ≡ v
unfolding number
number_digit zero v h = sym (lt-one h)
number_digit (suc w) v h =
    ap₂ (λ a b. 2 * a + tally b)
    (number_same w (digit (suc w) v) (digit w (v / 2)) (λ k l. digit_half w v k l)
    ∙ number_digit w (v / 2) ((div-lt_iff_lt-mul (zero-lt-suc 1)).1 (subst (λ z. v < z) (pow-suc 2 w) h)))
    (digit_last w v)
    ∙ whole (v % 2) (mod-lt v (zero-lt-suc 1)) refl
  where
    whole : (r : ℕ) → r < 2 → v % 2 ≡ r → 2 * (v / 2) + tally (eqb (v % 2) 1) ≡ v
    whole zero l e = ap (λ z. 2 * (v / 2) + tally (eqb z 1)) e ∙ omega arith
    whole (suc zero) l e = ap (λ z. 2 * (v / 2) + tally (eqb z 1)) e ∙ omega arith
    whole (suc (suc r)) l e = absurd (omega arith)

pub number_lt : (w : ℕ) (x : Word) → number w x < 2 ^ w
unfolding number
number_lt zero x = le_refl 1
number_lt (suc w) x = omega (arith, number_lt w x, pow-suc 2 w, tally_le (x w))

pub zeros_at : (k i : ℕ) → ◌≡◌ {A = ℕ} (get_or (replicate k 0) i 0) 0
zeros_at zero i = refl
zeros_at (suc k) zero = refl
zeros_at (suc k) (suc i) = zeros_at k i

pub digit_zero : (w k : ℕ) → digit w 0 k ≡ false
digit_zero w k = ap (λ z. eqb (z % 2) 1) (zero-div (2 ^ (w - suc k)))

-- ---- octets

pub length_octets : (n : ℕ) (x : Word) → length (octets n x) ≡ n
unfolding octets
length_octets zero x = refl
length_octets (suc n) x = ap suc (length_octets n (λ k. x (8 + k)))

next_octet : (o : List ℕ) (b k : ℕ) → bit (b ∷ o) (8 + k) ≡ bit o k
next_octet o b k =
    ap₂ (λ q r. digit 8 (get_or (b ∷ o) q 0) r) (add-div_left k (zero-lt-suc 7) ∙ add-one (k / 8)) (add-mod_left 8 k)

this_octet : (o : List ℕ) (b k : ℕ) → k < 8 → bit (b ∷ o) k ≡ digit 8 b k
this_octet o b k h = ap₂ (λ q r. digit 8 (get_or (b ∷ o) q 0) r) (div-eq_of_lt h) (mod-eq_of_lt h)

bit_none : (i : ℕ) → bit [] i ≡ false
bit_none i = digit_zero 8 (i % 8)

-- the octets of a word have its first bits
pub bit_octets : (n : ℕ) (x : Word) (i : ℕ) → bit (octets n x) i ≡ (ltb i (8 * n) && x i)
unfolding octets
bit_octets zero x i = bit_none i ∙ sym (ap (λ z. z && x i) (le-ltb i (8 * 0) zero-le))
bit_octets (suc n) x i = go (dec_lt i 8) (bit_octets n (λ k. x (8 + k)) (i - 8))
  where
    go : Dec (i < 8) → bit (octets n (λ k. x (8 + k))) (i - 8) ≡ (ltb (i - 8) (8 * n) && x (8 + (i - 8)))
        → bit (number 8 x ∷ octets n (λ k. x (8 + k))) i ≡ (ltb i (8 * suc n) && x i)
    go (yes l) ih = this_octet (octets n (λ k. x (8 + k))) (number 8 x) i l ∙ digit_number 8 x i l
        ∙ sym (ap (λ z. z && x i) (lt-ltb i (8 * suc n) (omega arith)))
    go (no g) ih =
        let e : 8 + (i - 8) ≡ i = omega (arith, lt_of_not-le g) in
        ap (bit (number 8 x ∷ octets n (λ k. x (8 + k)))) (sym e) ∙ next_octet (octets n (λ k. x (8 + k))) (number 8 x) (i - 8) ∙ ih
        ∙ ap₂ (λ a b. a && x b) (moved (dec_lt (i - 8) (8 * n))) e
      where
        moved : Dec (i - 8 < 8 * n) → ltb (i - 8) (8 * n) ≡ ltb i (8 * suc n)
        moved (yes l) = lt-ltb (i - 8) (8 * n) l ∙ sym (lt-ltb i (8 * suc n) (omega (arith, lt_of_not-le g)))
        moved (no d) = le-ltb (i - 8) (8 * n) (omega (arith, lt_of_not-le d)) ∙ sym (le-ltb i (8 * suc n) (omega (arith, lt_of_not-le d)))

-- a list of octets: every number is below 256
abbrev pub Octets : List ℕ → Type 0
Octets o = (i : ℕ) → get_or o i 0 < 256

pub octets_same : (n : ℕ) (x y : Word) → ((i : ℕ) → i < 8 * n → x i ≡ y i) → octets n x ≡ octets n y
unfolding octets
octets_same zero x y h = refl
octets_same (suc n) x y h =
    ap₂ (λ a b. a ∷ b) (number_same 8 x y (λ k l. h k (omega arith)))
    (octets_same n (λ k. x (8 + k)) (λ k. y (8 + k)) (λ i l. h (8 + i) (omega arith)))

-- and the octets of a list's bits are the list
pub octets_bit : (o : List ℕ) → Octets o → octets (length o) (bit o) ≡ o
unfolding octets
octets_bit [] h = refl
octets_bit (b ∷ o) h =
    ap₂ (λ a r. a ∷ r)
    (number_same 8 (bit (b ∷ o)) (digit 8 b) (λ k l. this_octet o b k l) ∙ number_digit 8 b (h 0))
    (ap (octets (length o)) (fun_ext (λ k. next_octet o b k)) ∙ octets_bit o (λ i. h (suc i)))

-- past the last octet there is nothing
pub bit_past : (o : List ℕ) (i : ℕ) → 8 * length o ≤ i → bit o i ≡ false
bit_past [] i h = bit_none i
bit_past (b ∷ o) i h =
    let e : 8 + (i - 8) ≡ i = omega arith in
    ap (bit (b ∷ o)) (sym e) ∙ next_octet o b (i - 8) ∙ bit_past o (i - 8) (omega arith)

pub octets_lt : (n : ℕ) (x : Word) → Octets (octets n x)
unfolding octets
octets_lt zero x i = zero-lt-suc 255
octets_lt (suc n) x zero = number_lt 8 x
octets_lt (suc n) x (suc i) = octets_lt n (λ k. x (8 + k)) i
