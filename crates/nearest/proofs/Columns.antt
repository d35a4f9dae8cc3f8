-- How far codewords of code 1 are apart: one to five flips never lead from one to another. Assumes nothing.
use mathlib.Core.Path.{◌≡◌, refl, sym, ap, ◌∙◌, fun_ext}
use mathlib.Core.Bool.{Bool, true, false, ◌&&◌, and_comm, and-true, true≢false}
use mathlib.Core.Logic.{⊎_elim}
use Prim.Native.Nat.{ℕ, zero, suc, ◌+◌, ◌%◌, ◌≤◌, ◌<◌, zero-le}
use native.Mathlib.Nat.{le_step, lt-suc_self}
use native.Mathlib.Omega.{arith}
use lib.Dec.{eqb, ltb}
use borrow.Author.Tests.{eq-eqb, ne_eqb, lt-ltb}
use Rattle.bits.proofs.Orders.{le-or-lt}
use Rattle.bits.specs.Bits.{Word, ◌⊕◌, tally, sum, count, flipped, when◌then◌else◌}
use Rattle.bits.proofs.Sums.{⊕-eq, ⊕-comm, ⊕-assoc, sum_linear, sum_same, sum_none, swap, into, pick}
use Rattle.bits.proofs.Counting.{count_none, count_same}
use Rattle.rules.specs.Codes.{code, code1, bits, checks, information}
use Rattle.rules.specs.Tables.{generator16}
use Rattle.rules.specs.Checks.{covers, check, degree_of}
use Rattle.rules.specs.Encoding.{codeword}
use Rattle.rules.proofs.Flips.{check_flip}
use Rattle.rules.proofs.Ways.{shared}
use Rattle.rules.proofs.Degrees.{bit_degree}
use Rattle.rules.proofs.Codewords.{encoded_same}
use Rattle.rules.proofs.Numbers.{published, met_encoded}
use Rattle.word.proofs.ownparity.Words.{count_odd}
use Rattle.nearest.proofs.Quiet.{bits_are, checks_are, codeword_broken, codeword_met}

inside : (n : ℕ) → n < 128 → n < bits (code 1)
inside n h = omega (arith, bits_are)

-- ---- the checks after flips of a codeword are those that cover the bits

module _ (w : Word) (is : codeword (code 1) w ≡ true) where
  one_checks : (b : ℕ) → b < 128 → (k : ℕ) → k < 64 → check (code 1) (flipped w b) k ≡ covers (code 1) k b
  one_checks b hb k l = check_flip (code 1) w b (inside b hb) k ∙ ap (λ p. p ⊕ covers (code 1) k b) (codeword_met w is k l)

  two_checks : (b d : ℕ) → b < 128 → d < 128 → (k : ℕ) → k < 64
      → check (code 1) (flipped (flipped w b) d) k ≡ covers (code 1) k b ⊕ covers (code 1) k d
  two_checks b d hb hd k l = check_flip (code 1) (flipped w b) d (inside d hd) k ∙ ap (λ p. p ⊕ covers (code 1) k d) (one_checks b hb k l)

  -- a bit lies in three checks at least
  pub flip_one : (b : ℕ) → b < 128 → codeword (code 1) (flipped w b) ≡ true → ⊥
  unfolding degree_of
  flip_one b hb e =
      let none : degree_of (code 1) b ≡ 0 =
      count_none (checks (code 1)) (λ k. covers (code 1) k b) (λ k l.
      sym (one_checks b hb k (omega (arith, checks_are))) ∙ codeword_met (flipped w b) e k (omega (arith, checks_are))) in
      omega (arith, none, (published 1 tt).girth.many b (inside b hb))

  -- and two bits share one check at most
  pub flip_two : (b d : ℕ) → b < 128 → d < 128 → (b ≡ d → ⊥) → codeword (code 1) (flipped (flipped w b) d) ≡ true → ⊥
  unfolding degree_of shared
  flip_two b d hb hd apart e =
      let all : shared (code 1) b d ≡ degree_of (code 1) b =
      count_same (checks (code 1)) (λ k. covers (code 1) k b && covers (code 1) k d) (λ k. covers (code 1) k b) (λ k l.
      ap (λ p. covers (code 1) k b && p)
      (sym (⊕-eq (covers (code 1) k b) (covers (code 1) k d)
      (sym (two_checks b d hb hd k (omega (arith, checks_are))) ∙ codeword_met (flipped (flipped w b) d) e k (omega (arith, checks_are)))))
      ∙ self (covers (code 1) k b)) in
      omega (arith, all, (published 1 tt).girth.many b (inside b hb), (published 1 tt).girth.few b d (inside b hb) (inside d hd) apart)
    where
      self : (p : Bool) → (p && p) ≡ p
      self true = refl
      self false = refl

-- ---- every codeword has an even number of ones, since each bit lies in an odd number of checks

lies_odd : (n : ℕ) → n < 128 → sum 64 (λ k. covers (code 1) k n) ≡ true
unfolding degree_of
lies_odd n h = set (sum 64 (λ k. covers (code 1) k n))
    (sym (count_odd 64 (λ k. covers (code 1) k n))
    ∙ ap (λ m. m % 2) (ap (λ m. count m (λ k. covers (code 1) k n)) (sym checks_are) ∙ bit_degree 1 tt n (inside n h))
    ∙ odd (ltb n (information (code 1))))
  where
    odd : (b : Bool) → (when b then 5 else 3) % 2 ≡ 1
    odd true = refl
    odd false = refl

    set : (b : Bool) → tally b ≡ 1 → b ≡ true
    set true e = refl
    set false e = absurd (omega arith)

pub codeword_even : (x : Word) → codeword (code 1) x ≡ true → sum 128 x ≡ false
unfolding check
codeword_even x is =
    sym (sum_same 128 (λ n. sum 64 (λ k. covers (code 1) k n && x n)) x (λ n l.
    ap (sum 64) (fun_ext (λ k. and_comm (covers (code 1) k n) (x n)))
    ∙ into (sum 64) (sum_linear 64) (x n) (λ k. covers (code 1) k n)
    ∙ ap (λ p. x n && p) (lies_odd n l) ∙ and-true (x n)))
    ∙ ap (λ m. sum m (λ n. sum 64 (λ k. covers (code 1) k n && x n))) (sym bits_are)
    ∙ sym (swap (sum 64) (sum_linear 64) (bits (code 1)) (λ k n. covers (code 1) k n && x n))
    ∙ sum_none 64 (λ k. check (code 1) x k) (λ k l. codeword_met x is k l)

flip_odd : (x : Word) (n : ℕ) → n < 128 → sum 128 (flipped x n) ≡ sum 128 x ⊕ true
flip_odd x n h = (sum_linear 128).plus x (λ i. eqb i n) ∙ ap (λ p. sum 128 x ⊕ p) (pick 128 n (λ i. true) h)

odd_three : (w : Word) → codeword (code 1) w ≡ true → (b d e : ℕ) → b < 128 → d < 128 → e < 128
    → sum 128 (flipped (flipped (flipped w b) d) e) ≡ true
odd_three w is b d e hb hd he =
    flip_odd (flipped (flipped w b) d) e he
    ∙ ap (λ p. p ⊕ true) (flip_odd (flipped w b) d hd ∙ ap (λ p. p ⊕ true) (flip_odd w b hb ∙ ap (λ p. p ⊕ true) (codeword_even w is)))

pub flip_three : (w : Word) → codeword (code 1) w ≡ true → (b d e : ℕ) → b < 128 → d < 128 → e < 128
    → codeword (code 1) (flipped (flipped (flipped w b) d) e) ≡ true → ⊥
flip_three w is b d e hb hd he t =
    true≢false (sym (odd_three w is b d e hb hd he) ∙ codeword_even (flipped (flipped (flipped w b) d) e) t)

pub flip_five : (w : Word) → codeword (code 1) w ≡ true → (b d e f g : ℕ) → b < 128 → d < 128 → e < 128 → f < 128 → g < 128
    → codeword (code 1) (flipped (flipped (flipped (flipped (flipped w b) d) e) f) g) ≡ true → ⊥
flip_five w is b d e f g hb hd he hf hg t =
    let x = flipped (flipped (flipped w b) d) e in
    true≢false (sym (flip_odd (flipped x f) g hg
    ∙ ap (λ p. p ⊕ true) (flip_odd x f hf ∙ ap (λ p. p ⊕ true) (odd_three w is b d e hb hd he)))
    ∙ codeword_even (flipped (flipped x f) g) t)

-- ---- four flips: each bit would have all its checks in common with the three others, which are three at most; so all four would be
-- parity bits, and those follow from the information bits

information_are : information (code 1) ≡ 64
unfolding code code1 generator16
information_are = refl

count_within : (n : ℕ) (f g h i : ℕ → Bool) → ((k : ℕ) → k < n → tally (f k) ≤ tally (g k) + tally (h k) + tally (i k))
    → count n f ≤ count n g + count n h + count n i
unfolding count
count_within zero f g h i t = zero-le
count_within (suc n) f g h i t = omega (arith, count_within n f g h i (λ k l. t k (le_step l)), t n (lt-suc_self n))

-- the bits of a sum of four that is 0
covered : (p q r s : Bool) → p ⊕ q ⊕ r ⊕ s ≡ false → tally p ≤ tally (p && q) + tally (p && r) + tally (p && s)
covered false q r s e = zero-le
covered true true r s e = omega arith
covered true false true s e = omega arith
covered true false false true e = omega arith
covered true false false false e = absurd (true≢false e)

parity_bit_lem : (b d e f : ℕ) → b < 128 → d < 128 → e < 128 → f < 128 → (b ≡ d → ⊥) → (b ≡ e → ⊥) → (b ≡ f → ⊥)
    → ((k : ℕ) → k < 64 → covers (code 1) k b ⊕ covers (code 1) k d ⊕ covers (code 1) k e ⊕ covers (code 1) k f ≡ false) → 64 ≤ b
unfolding degree_of shared
parity_bit_lem b d e f hb hd he hf bd be bf zero_sum = ⊎_elim (λ l. l) informs (le-or-lt 64 b)
  where
    most : degree_of (code 1) b ≤ shared (code 1) b d + shared (code 1) b e + shared (code 1) b f
    most =
        count_within (checks (code 1)) (λ k. covers (code 1) k b) (λ k. covers (code 1) k b && covers (code 1) k d)
        (λ k. covers (code 1) k b && covers (code 1) k e) (λ k. covers (code 1) k b && covers (code 1) k f)
        (λ k l. covered (covers (code 1) k b) (covers (code 1) k d) (covers (code 1) k e) (covers (code 1) k f)
        (zero_sum k (omega (arith, checks_are))))

    informs : b < 64 → 64 ≤ b
    informs l =
        let five : degree_of (code 1) b ≡ 5 =
        bit_degree 1 tt b (inside b hb)
        ∙ ap (λ t. when t then 5 else 3) (lt-ltb b (information (code 1)) (omega (arith, information_are))) in
        absurd (omega (
          arith,
          five,
          most,
          (published 1 tt).girth.few b d (inside b hb) (inside d hd) bd,
          (published 1 tt).girth.few b e (inside b hb) (inside e he) be,
          (published 1 tt).girth.few b f (inside b hb) (inside f hf) bf,
        ))

-- two codewords that have the same information bits are the same
same_information : (x y : Word) → codeword (code 1) x ≡ true → codeword (code 1) y ≡ true
    → ((i : ℕ) → i < 64 → x i ≡ y i) → (i : ℕ) → i < 128 → x i ≡ y i
same_information x y isx isy same i h =
    sym (met_encoded 1 tt x (codeword_broken x isx) i (inside i h))
    ∙ ap (λ (z : Word). z i) (encoded_same (code 1) x y (λ n l. same n (omega (arith, information_are))))
    ∙ met_encoded 1 tt y (codeword_broken y isy) i (inside i h)

module _ (w : Word) (is : codeword (code 1) w ≡ true) (b d e f : ℕ) (hb : b < 128) (hd : d < 128) (he : e < 128) (hf : f < 128)
    (bd : b ≡ d → ⊥) (be : b ≡ e → ⊥) (bf : b ≡ f → ⊥) (de : d ≡ e → ⊥) (df : d ≡ f → ⊥) (ef : e ≡ f → ⊥) where
  abbrev far : Word
  far = flipped (flipped (flipped (flipped w b) d) e) f

  pub flip_four : codeword (code 1) far ≡ true → ⊥
  flip_four t = other (w b) (here ∙ sym (same_information w far is t front b hb))
    where
      zero_sum : (k : ℕ) → k < 64 → covers (code 1) k b ⊕ covers (code 1) k d ⊕ covers (code 1) k e ⊕ covers (code 1) k f ≡ false
      zero_sum k l =
          sym (check_flip (code 1) (flipped (flipped (flipped w b) d) e) f (inside f hf) k
          ∙ ap (λ p. p ⊕ covers (code 1) k f) (check_flip (code 1) (flipped (flipped w b) d) e (inside e he) k
          ∙ ap (λ p. p ⊕ covers (code 1) k e) (two_checks w is b d hb hd k l)))
          ∙ codeword_met far t k l

      second : (p q r s : Bool) → p ⊕ q ⊕ r ⊕ s ≡ false → q ⊕ p ⊕ r ⊕ s ≡ false
      second p q r s z = ap (λ u. u ⊕ r ⊕ s) (⊕-comm q p) ∙ z

      third : (p q r s : Bool) → p ⊕ q ⊕ r ⊕ s ≡ false → r ⊕ p ⊕ q ⊕ s ≡ false
      third p q r s z = ap (λ u. u ⊕ s) (⊕-assoc r p q ∙ ⊕-comm r (p ⊕ q)) ∙ z

      fourth : (p q r s : Bool) → p ⊕ q ⊕ r ⊕ s ≡ false → s ⊕ p ⊕ q ⊕ r ≡ false
      fourth p q r s z = ap (λ u. u ⊕ r) (⊕-assoc s p q) ∙ ⊕-assoc s (p ⊕ q) r ∙ ⊕-comm s (p ⊕ q ⊕ r) ∙ z

      other_way : {m n : ℕ} → (m ≡ n → ⊥) → n ≡ m → ⊥
      other_way h q = h (sym q)

      after_b : 64 ≤ b
      after_b = parity_bit_lem b d e f hb hd he hf bd be bf zero_sum

      after_d : 64 ≤ d
      after_d = parity_bit_lem d b e f hd hb he hf (other_way bd) de df (λ k l.
          second (covers (code 1) k b) (covers (code 1) k d) (covers (code 1) k e) (covers (code 1) k f) (zero_sum k l))

      after_e : 64 ≤ e
      after_e = parity_bit_lem e b d f he hb hd hf (other_way be) (other_way de) ef (λ k l.
          third (covers (code 1) k b) (covers (code 1) k d) (covers (code 1) k e) (covers (code 1) k f) (zero_sum k l))

      after_f : 64 ≤ f
      after_f = parity_bit_lem f b d e hf hb hd he (other_way bf) (other_way df) (other_way ef) (λ k l.
          fourth (covers (code 1) k b) (covers (code 1) k d) (covers (code 1) k e) (covers (code 1) k f) (zero_sum k l))

      kept : (x : Word) (n i : ℕ) → (i ≡ n → ⊥) → flipped x n i ≡ x i
      kept x n i h = ap (λ p. x i ⊕ p) (ne_eqb i n h) ∙ plain (x i)
        where
          plain : (p : Bool) → p ⊕ false ≡ p
          plain true = refl
          plain false = refl

      front : (i : ℕ) → i < 64 → w i ≡ far i
      front i l =
          sym (kept (flipped (flipped (flipped w b) d) e) f i (λ q. omega (arith, after_f))
          ∙ kept (flipped (flipped w b) d) e i (λ q. omega (arith, after_e))
          ∙ kept (flipped w b) d i (λ q. omega (arith, after_d)) ∙ kept w b i (λ q. omega (arith, after_b)))

      here : w b ⊕ true ≡ far b
      here = sym (kept (flipped (flipped (flipped w b) d) e) f b bf
          ∙ kept (flipped (flipped w b) d) e b be ∙ kept (flipped w b) d b bd ∙ ap (λ p. w b ⊕ p) (eq-eqb b b refl))

      other : (p : Bool) → p ⊕ true ≡ p → ⊥
      other true q = true≢false (sym q)
      other false q = true≢false q
