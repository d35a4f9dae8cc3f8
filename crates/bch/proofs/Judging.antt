-- The answers, case by case, and the bit that was wrong. Assumes nothing.
use mathlib.Core.Path.{◌≡◌, refl, sym, ap, ap₂, ◌∙◌}
use mathlib.Core.Bool.{Bool, true, false, not, ◌&&◌, true≢false}
use mathlib.Core.Logic.{⊎_elim}
use mathlib.Core.List.{List}
use Prim.Native.Nat.{ℕ, zero, suc, ◌^◌, ◌≤◌, ◌<◌}
use native.Mathlib.Omega.{arith}
use lib.Bits.{bit_xor}
use lib.Dec.{eqb, ltb, lit<}
use lib.ListN.{length}
use borrow.Author.Tests.{lt-ltb, le-ltb, eq-eqb, ne_eqb}
use Rattle.bits.specs.Bits.{Word, digit, bit, octets, ◌⊕◌, flipped, when◌then◌else◌}
use Rattle.bits.proofs.Orders.{le-or-lt, eq_or_not}
use Rattle.bits.proofs.Octets.{octets_same, digit_zero}
use Rattle.vectors.specs.Vectors.{Holds}
use Rattle.vectors.proofs.Places.{digit_xor, same_digits}
use Rattle.bch.specs.Bch.{encoded, codeword, lowest, wrong_bit, written, bch_encode_answer, Mended, refused, judged, bch_check_answer}
use Rattle.bch.specs.Answers.{alone}
use Rattle.bch.proofs.Codewords.{left, encoded_fill, codeword_flipped, wrong_once}

-- ---- tests of lengths

long : {A : Type 0} (o : List ℕ) (n : ℕ) (a r : A) → length o ≡ n → (when not (eqb (length o) n) then a else r) ≡ r
long o n a r e = ap (λ b. when not b then a else r) (eq-eqb (length o) n e)

other : {A : Type 0} (o : List ℕ) (n : ℕ) (a r : A) → (length o ≡ n → ⊥) → (when not (eqb (length o) n) then a else r) ≡ a
other o n a r d = ap (λ b. when not b then a else r) (ne_eqb (length o) n d)

-- ---- encode

module _ (information out : List ℕ) where
  pub encode_two : (length information ≡ 7 → ⊥) → bch_encode_answer information out ≡ record { number = 2; out = out }
  unfolding bch_encode_answer
  encode_two d = other information 7 (record { number = 2; out = out }) _ d

  pub encode_three : length information ≡ 7 → (length out ≡ 8 → ⊥) → bch_encode_answer information out ≡ record { number = 3; out = out }
  unfolding bch_encode_answer
  encode_three e d = long information 7 (record { number = 2; out = out }) _ e ∙ other out 8 (record { number = 3; out = out }) _ d

  pub encode_done : length information ≡ 7 → length out ≡ 8
      → bch_encode_answer information out ≡ record { number = 0; out = octets 8 (encoded (bit information)) }
  unfolding bch_encode_answer
  encode_done e f = long information 7 (record { number = 2; out = out }) _ e ∙ long out 8 (record { number = 3; out = out }) _ f

-- what is encoded has the fill bit 0 already
pub written_encoded : (x : Word) → written (encoded x) ≡ octets 8 (encoded x)
written_encoded x =
    octets_same 8 (λ k. ltb k 63 && encoded x k) (encoded x) (λ k l.
    ⊎_elim
    (λ (h : 63 ≤ k).
    let e : k ≡ 63 = omega arith in
    ap (λ p. p && encoded x k) (le-ltb k 63 h) ∙ sym (ap (encoded x) e ∙ encoded_fill x))
    (λ (h : k < 63). ap (λ p. p && encoded x k) (lt-ltb k 63 h))
    (le-or-lt 63 k))

-- ---- check

module _ (d : Bool) (word out : List ℕ) where
  pub check_two : (length word ≡ 8 → ⊥) → bch_check_answer d word out ≡ refused 2 out
  unfolding bch_check_answer
  check_two n = other word 8 (refused 2 out) _ n

  pub check_three : length word ≡ 8 → (length out ≡ 8 → ⊥) → bch_check_answer d word out ≡ refused 3 out
  unfolding bch_check_answer
  check_three e n = long word 8 (refused 2 out) _ e ∙ other out 8 (refused 3 out) _ n

  pub check_taken : length word ≡ 8 → length out ≡ 8 → bch_check_answer d word out ≡ judged d (bit word) out
  unfolding bch_check_answer
  check_taken e f = long word 8 (refused 2 out) _ e ∙ long out 8 (refused 3 out) _ f

module _ (x : Word) (out : List ℕ) where
  abbrev whole : Mended
  whole = record { number = 0; mended = 0; out = written x }

  abbrev mended : Mended
  mended = record { number = 0; mended = 1; out = written (flipped x (wrong_bit x)) }

  pub judged_codeword : (d : Bool) → codeword x ≡ true → judged d x out ≡ whole
  unfolding judged
  judged_codeword d e = ap (λ b. when b then whole else when d then refused 13 out else when ltb
      (wrong_bit x) 63 then mended else refused 13 out)
      e

  pub judged_detected : (d : Bool) → d ≡ true → codeword x ≡ false → judged d x out ≡ refused 13 out
  unfolding judged
  judged_detected d t e = ap₂ (λ b c. when b then whole else when c then refused 13 out else when ltb
      (wrong_bit x) 63 then mended else refused 13
      out) e t

  pub judged_mended : (d : Bool) → d ≡ false → codeword x ≡ false → wrong_bit x < 63 → judged d x out ≡ mended
  unfolding judged
  judged_mended d t e l =
      ap₂ (λ b c. when b then whole else when c then refused 13 out else when ltb (wrong_bit x) 63 then mended else refused 13 out) e t
      ∙ ap (λ b. when b then mended else refused 13 out) (lt-ltb (wrong_bit x) 63 l)

  pub judged_far : (d : Bool) → codeword x ≡ false → 63 ≤ wrong_bit x → judged d x out ≡ refused 13 out
  unfolding judged
  judged_far d e l =
      ap₂ (λ b c. when b then whole else when d then refused 13 out else when c then mended else refused 13 out) e
      (le-ltb (wrong_bit x) 63 l)
      ∙ either d
    where
      either : (b : Bool) → (when b then refused 13 out else refused 13 out) ≡ refused 13 out
      either true = refl
      either false = refl

-- ---- the lowest number of which something holds

pub lowest_holds : (n : ℕ) (f : ℕ → Bool) → lowest n f < n → f (lowest n f) ≡ true
unfolding lowest
lowest_holds zero f l = absurd (omega arith)
lowest_holds (suc n) f l = go (f 0) refl l (lowest_holds n (λ k. f (suc k)))
  where
    later : ℕ
    later = lowest n (λ k. f (suc k))

    go : (b : Bool) → f 0 ≡ b → (when b then 0 else suc later) < suc n → (later < n → f (suc later) ≡ true)
        → f (when b then 0 else suc later) ≡ true
    go true e h ih = e
    go false e h ih = ih (omega arith)

pub lowest_none : (n : ℕ) (f : ℕ → Bool) → n ≤ lowest n f → (i : ℕ) → i < n → f i ≡ false
unfolding lowest
lowest_none zero f l i h = absurd (omega arith)
lowest_none (suc n) f l i h = go (f 0) refl l (lowest_none n (λ k. f (suc k))) i h
  where
    later : ℕ
    later = lowest n (λ k. f (suc k))

    go : (b : Bool) → f 0 ≡ b → suc n ≤ (when b then 0 else suc later) → (n ≤ later → (i : ℕ) → i < n → f (suc i) ≡ false) → (i : ℕ)
        → i < suc n → f i ≡ false
    go true e k ih i h = absurd (omega arith)
    go false e k ih zero h = e
    go false e k ih (suc i) h = ih (omega arith) i (omega arith)

-- ---- the wrong bit

module _ (x : Word) where
  pub wrong_mends : wrong_bit x < 63 → codeword (flipped x (wrong_bit x)) ≡ true
  wrong_mends l = lowest_holds 63 (λ i. codeword (flipped x i)) l

  pub wrong_none : 63 ≤ wrong_bit x → (i : ℕ) → i < 63 → codeword (flipped x i) ≡ false
  wrong_none l = lowest_none 63 (λ i. codeword (flipped x i)) l

  -- it is any bit that mends
  pub wrong_is : (i : ℕ) → i < 63 → codeword (flipped x i) ≡ true → wrong_bit x ≡ i
  wrong_is i h e =
      ⊎_elim
      (λ (l : 63 ≤ wrong_bit x). absurd (true≢false (sym e ∙ wrong_none l i h)))
      (λ (l : wrong_bit x < 63). wrong_once x (wrong_bit x) i l h (wrong_mends l) e)
      (le-or-lt 63 (wrong_bit x))

-- the bits that alone leave what the word leaves: the wrong bit, or none
module _ (x : Word) (v r m : ℕ) (small : m < 2 ^ 64) (h : Holds v x) (e : r ≡ left x) (k : Holds m (λ i. ltb i 63 && eqb r (alone i))) where
  mends : (i : ℕ) → i < 64 → digit 64 m i ≡ (ltb i 63 && codeword (flipped x i))
  mends i l = k i l ∙ ap (λ p. ltb i 63 && p) (ap (λ z. eqb z (alone i)) e ∙ sym (codeword_flipped x i))

  pub none_near : m ≡ 0 → 63 ≤ wrong_bit x
  none_near z = ⊎_elim (λ l. l) (λ l. absurd (true≢false (sym (set l) ∙ ap (λ n. digit 64 n (wrong_bit x)) z
      ∙ digit_zero 64 (wrong_bit x))))
      (le-or-lt 63 (wrong_bit x))
    where
      set : wrong_bit x < 63 → digit 64 m (wrong_bit x) ≡ true
      set l = mends (wrong_bit x) (omega arith) ∙ ap₂ (λ p q. p && q) (lt-ltb (wrong_bit x) 63 l) (wrong_mends x l)

  pub one_near : (m ≡ 0 → ⊥) → wrong_bit x < 63
  one_near d = ⊎_elim (λ l. absurd (d (nothing l))) (λ l. l) (le-or-lt 63 (wrong_bit x))
    where
      nothing : 63 ≤ wrong_bit x → m ≡ 0
      nothing l = same_digits 64 m 0 small (lit< tt) (λ i hi. mends i hi ∙ ⊎_elim (fill i) (sent i) (le-or-lt 63 i) ∙ sym (digit_zero 64 i))
        where
          fill : (i : ℕ) → 63 ≤ i → (ltb i 63 && codeword (flipped x i)) ≡ false
          fill i g = ap (λ p. p && codeword (flipped x i)) (le-ltb i 63 g)

          sent : (i : ℕ) → i < 63 → (ltb i 63 && codeword (flipped x i)) ≡ false
          sent i g = ap₂ (λ p q. p && q) (lt-ltb i 63 g) (wrong_none x l i g)

  pub mended_word : wrong_bit x < 63 → Holds (bit_xor v m) (flipped x (wrong_bit x))
  mended_word l i hi =
      digit_xor 64 v m i
      ∙ ap₂ (λ p q. p ⊕ q) (h i hi) (mends i hi ∙ ⊎_elim same apart (eq_or_not i (wrong_bit x)))
    where
      same : i ≡ wrong_bit x → (ltb i 63 && codeword (flipped x i)) ≡ eqb i (wrong_bit x)
      same q =
          ap₂ (λ a b. a && b) (lt-ltb i 63 (omega arith)) (ap (λ n. codeword (flipped x n)) q ∙ wrong_mends x l)
          ∙ sym (eq-eqb i (wrong_bit x) q)

      apart : (i ≡ wrong_bit x → ⊥) → (ltb i 63 && codeword (flipped x i)) ≡ eqb i (wrong_bit x)
      apart d = ⊎_elim (λ g. ap (λ p. p && codeword (flipped x i)) (le-ltb i 63 g)) sent (le-or-lt 63 i) ∙ sym (ne_eqb i (wrong_bit x) d)
        where
          sent : i < 63 → (ltb i 63 && codeword (flipped x i)) ≡ false
          sent g = ap (λ p. p && codeword (flipped x i)) (lt-ltb i 63 g) ∙ none (codeword (flipped x i)) refl
            where
              none : (b : Bool) → codeword (flipped x i) ≡ b → b ≡ false
              none true t = absurd (d (sym (wrong_is x i g t)))
              none false t = refl
