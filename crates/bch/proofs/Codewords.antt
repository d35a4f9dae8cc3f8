-- Codewords by what the division leaves of them: of the word, of the word with a bit flipped, and with two. Assumes nothing.
use mathlib.Core.Path.{◌≡◌, refl, sym, ap, ap₂, ◌∙◌, subst}
use mathlib.Core.Bool.{Bool, true, false, not, ◌&&◌, true≢false}
use mathlib.Core.Logic.{⊎_elim}
use Prim.Native.Nat.{ℕ, suc, ◌+◌, ◌-◌, ◌^◌, ◌≤◌, ◌<◌}
use native.Mathlib.Omega.{arith}
use lib.Dec.{eqb, leb, ltb, lit<}
use borrow.Author.Tests.{lt-ltb, le-ltb, le-leb, lt-leb, eq-eqb, ne_eqb, eqb-true}
use Rattle.bits.specs.Bits.{Word, digit, ◌⊕◌, sum, flipped, when◌then◌else◌}
use Rattle.bits.proofs.Orders.{le-or-lt}
use Rattle.bits.proofs.Sums.{⊕-self, ⊕-eq, ⊕-assoc, ⊕-comm, sum_same, sum_linear, pick}
use Rattle.bits.proofs.Octets.{digit_zero}
use Rattle.rules.proofs.Codewords.{agree_all, all_agree}
use Rattle.vectors.proofs.Places.{same_digits}
use Rattle.bch.specs.Bch.{remainder, raised, parity_bit, encoded, codeword}
use Rattle.bch.specs.Answers.{upright, alone}
use Rattle.bch.proofs.Division.{remainder_linear, remainder_same, remainder_sum, remainder_lt}
use Rattle.bch.proofs.Columns.{alone_some, alone_apart, alone_odd, alone_parity}

-- what is left of a word whose parity bits are inverted once more
abbrev pub left : Word → ℕ
left x = remainder 63 (upright x)

-- a bit inverted
pub inverted : (b : Bool) → b ⊕ true ≡ not b
inverted true = refl
inverted false = refl

-- ---- the information's part and the parity bits' own

abbrev last : Word → Word
last x k = leb 56 k && not (x k)

two_parts : (x : Word) (k : ℕ) → k < 63 → upright x k ≡ raised x k ⊕ last x k
two_parts x k h = ⊎_elim behind front (le-or-lt 56 k)
  where
    behind : 56 ≤ k → upright x k ≡ raised x k ⊕ last x k
    behind l =
        ap₂ (λ p q. x k ⊕ (p && q)) (le-leb 56 k l) (lt-ltb k 63 h) ∙ inverted (x k)
        ∙ sym (ap₂ (λ p q. (p && x k) ⊕ (q && not (x k))) (le-ltb k 56 l) (le-leb 56 k l))

    front : k < 56 → upright x k ≡ raised x k ⊕ last x k
    front l =
        ap (λ p. x k ⊕ (p && ltb k 63)) (lt-leb 56 k l)
        ∙ sym (ap₂ (λ p q. (p && x k) ⊕ (q && not (x k))) (lt-ltb k 56 l) (lt-leb 56 k l))

-- the parity bits are below the generator: the division leaves them as they are
last_left : (x : Word) (j : ℕ) → j < 7 → digit 7 (remainder 63 (last x)) j ≡ not (x (56 + j))
last_left x j h =
    remainder_sum 63 (7 - suc j) (last x)
    ∙ sum_same 63 _ (λ i. last x i && eqb i (56 + j)) (λ i l. ⊎_elim (behind i l) (front i) (le-or-lt 56 i))
    ∙ pick 63 (56 + j) (last x) (omega arith)
    ∙ ap (λ p. p && not (x (56 + j))) (le-leb 56 (56 + j) (omega arith))
  where
    front : (i : ℕ) → i < 56 → (last x i && digit 7 (alone i) j) ≡ (last x i && eqb i (56 + j))
    front i l = ap (λ p. (p && not (x i)) && digit 7 (alone i) j) (lt-leb 56 i l)
        ∙ sym (ap (λ p. (p && not (x i)) && eqb i (56 + j)) (lt-leb 56 i l))

    behind : (i : ℕ) → i < 63 → 56 ≤ i → (last x i && digit 7 (alone i) j) ≡ (last x i && eqb i (56 + j))
    behind i l g =
        let e : 56 + (i - 56) ≡ i = omega arith in
        ap (λ p. last x i && p) (subst (λ n. digit 7 (alone n) j ≡ eqb n (56 + j)) e (alone_parity (i - 56) j (omega arith) h))

pub left_parity : (x : Word) (j : ℕ) → j < 7 → digit 7 (left x) j ≡ parity_bit x j ⊕ not (x (56 + j))
left_parity x j h =
    ap (λ z. digit 7 z j) (remainder_same 63 (upright x) (λ k. raised x k ⊕ last x k) (two_parts x))
    ∙ (remainder_linear 63 (7 - suc j)).plus (raised x) (last x)
    ∙ ap (λ p. parity_bit x j ⊕ p) (last_left x j h)

-- ---- a codeword leaves nothing

pub encoded_front : (x : Word) (k : ℕ) → k < 56 → encoded x k ≡ x k
unfolding encoded
encoded_front x k l = ap (λ p. when p then x k else when ltb k 63 then not (parity_bit x (k - 56)) else false) (lt-ltb k 56 l)

pub encoded_parity : (x : Word) (j : ℕ) → j < 7 → encoded x (56 + j) ≡ not (parity_bit x j)
unfolding encoded
encoded_parity x j h =
    let e : 56 + j - 56 ≡ j = omega arith in
    ap₂ (λ p q. when p then x (56 + j) else when q then not (parity_bit x (56 + j - 56)) else false) (le-ltb (56 + j) 56 (omega arith))
    (lt-ltb (56 + j) 63 (omega arith))
    ∙ ap (λ n. not (parity_bit x n)) e

pub encoded_fill : (x : Word) → encoded x 63 ≡ false
unfolding encoded
encoded_fill x = refl

cancelled : (p q : Bool) → q ≡ not p → p ⊕ not q ≡ false
cancelled true q e = ap (λ z. not (not z)) e
cancelled false q e = ap not e

inverse : (p q : Bool) → p ⊕ not q ≡ false → q ≡ not p
inverse true true e = absurd (true≢false e)
inverse true false e = refl
inverse false true e = refl
inverse false false e = absurd (true≢false e)

codeword_none : (x : Word) → codeword x ≡ true → left x ≡ 0
unfolding codeword
codeword_none x is =
    same_digits 7 (left x) 0 (remainder_lt 63 (upright x)) (lit< tt) (λ j h.
    left_parity x j h
    ∙ cancelled (parity_bit x j) (x (56 + j)) (all_agree 63 x (encoded x) is (56 + j) (omega arith) ∙ encoded_parity x j h)
    ∙ sym (digit_zero 7 j))

none_codeword : (x : Word) → left x ≡ 0 → codeword x ≡ true
unfolding codeword
none_codeword x e = agree_all 63 x (encoded x) (λ k l. ⊎_elim (behind k l) (λ g. sym (encoded_front x k g)) (le-or-lt 56 k))
  where
    own : (j : ℕ) → j < 7 → x (56 + j) ≡ encoded x (56 + j)
    own j h =
        inverse (parity_bit x j) (x (56 + j)) (sym (left_parity x j h) ∙ ap (λ z. digit 7 z j) e ∙ digit_zero 7 j)
        ∙ sym (encoded_parity x j h)

    behind : (k : ℕ) → k < 63 → 56 ≤ k → x k ≡ encoded x k
    behind k l g =
        let d : 56 + (k - 56) ≡ k = omega arith in
        subst (λ n. x n ≡ encoded x n) d (own (k - 56) (omega arith))

-- a test that holds just where two numbers are equal
decided : (b : Bool) (m n : ℕ) → (b ≡ true → m ≡ n) → (m ≡ n → b ≡ true) → b ≡ eqb m n
decided true m n f g = sym (eq-eqb m n (f refl))
decided false m n f g = sym (ne_eqb m n (λ e. true≢false (sym (g e))))

pub codeword_left : (x : Word) → codeword x ≡ eqb (left x) 0
codeword_left x = decided (codeword x) (left x) 0 (codeword_none x) (none_codeword x)

-- ---- a bit flipped

pub left_flipped : (x : Word) (i j : ℕ) → digit 7 (left (flipped x i)) j ≡ digit 7 (left x) j ⊕ digit 7 (alone i) j
left_flipped x i j =
    ap (λ z. digit 7 z j) (remainder_same 63 (upright (flipped x i)) (λ k. upright x k ⊕ eqb k i) (λ k l.
    later (x k) (eqb k i) (leb 56 k && ltb k 63)))
    ∙ (remainder_linear 63 (7 - suc j)).plus (upright x) (λ k. eqb k i)
  where
    later : (a b c : Bool) → a ⊕ b ⊕ c ≡ a ⊕ c ⊕ b
    later a b c = ⊕-assoc a b c ∙ ap (λ z. a ⊕ z) (⊕-comm b c) ∙ sym (⊕-assoc a c b)

alone_lt : (i : ℕ) → alone i < 2 ^ 7
alone_lt i = remainder_lt 63 (λ k. eqb k i)

-- with bit i flipped it is a codeword just if it left what bit i alone leaves
pub codeword_flipped : (x : Word) (i : ℕ) → codeword (flipped x i) ≡ eqb (left x) (alone i)
codeword_flipped x i =
    codeword_left (flipped x i)
    ∙ sym (decided (eqb (left x) (alone i)) (left (flipped x i)) 0 (λ e. none (eqb-true (left x) (alone i) e))
    (λ e. eq-eqb (left x) (alone i) (same e)))
  where
    same : left (flipped x i) ≡ 0 → left x ≡ alone i
    same e =
        same_digits 7 (left x) (alone i) (remainder_lt 63 (upright x)) (alone_lt i) (λ j h.
        ⊕-eq (digit 7 (left x) j) (digit 7 (alone i) j) (sym (left_flipped x i j) ∙ ap (λ z. digit 7 z j) e ∙ digit_zero 7 j))

    none : left x ≡ alone i → left (flipped x i) ≡ 0
    none e =
        same_digits 7 (left (flipped x i)) 0 (remainder_lt 63 (upright (flipped x i))) (lit< tt) (λ j h.
        left_flipped x i j ∙ ap (λ z. digit 7 z j ⊕ digit 7 (alone i) j) e ∙ ⊕-self (digit 7 (alone i) j) ∙ sym (digit_zero 7 j))

-- ---- distances

-- no codeword lies one bit from another
pub codeword_alone : (x : Word) → codeword x ≡ true → (i : ℕ) → i < 63 → codeword (flipped x i) ≡ false
codeword_alone x is i h =
    codeword_flipped x i ∙ ne_eqb (left x) (alone i) (λ e. alone_some i h (sym e ∙ codeword_none x is))

-- no two codewords lie one bit from a word
pub wrong_once : (x : Word) (i k : ℕ) → i < 63 → k < 63 → codeword (flipped x i) ≡ true → codeword (flipped x k) ≡ true → i ≡ k
wrong_once x i k hi hk p q =
    alone_apart i k hi hk (sym (eqb-true (left x) (alone i) (sym (codeword_flipped x i) ∙ p))
    ∙ eqb-true (left x) (alone k) (sym (codeword_flipped x k) ∙ q))

-- what one wrong bit leaves
pub left_once : (x : Word) → codeword x ≡ true → (i : ℕ) → left (flipped x i) ≡ alone i
left_once x is i =
    same_digits 7 (left (flipped x i)) (alone i) (remainder_lt 63 (upright (flipped x i))) (alone_lt i) (λ j h.
    left_flipped x i j ∙ ap (λ z. digit 7 z j ⊕ digit 7 (alone i) j) (codeword_none x is)
    ∙ ap (λ p. p ⊕ digit 7 (alone i) j) (digit_zero 7 j))

-- two wrong bits leave an even number of coefficients, and not none
module _ (x : Word) (is : codeword x ≡ true) (i k : ℕ) (hi : i < 63) (hk : k < 63) (d : i ≡ k → ⊥) where
  pub twice_none : codeword (flipped (flipped x i) k) ≡ false
  twice_none =
      codeword_flipped (flipped x i) k
      ∙ ne_eqb (left (flipped x i)) (alone k) (λ e. d (alone_apart i k hi hk (sym (left_once x is i) ∙ e)))

  twice_even : sum 7 (digit 7 (left (flipped (flipped x i) k))) ≡ false
  twice_even =
      sum_same 7 _ (λ j. digit 7 (alone i) j ⊕ digit 7 (alone k) j) (λ j h.
      left_flipped (flipped x i) k j ∙ ap (λ z. digit 7 z j ⊕ digit 7 (alone k) j) (left_once x is i))
      ∙ (sum_linear 7).plus (digit 7 (alone i)) (digit 7 (alone k))
      ∙ ap₂ (λ p q. p ⊕ q) (alone_odd i hi) (alone_odd k hk)

  pub twice_near : (l : ℕ) → l < 63 → codeword (flipped (flipped (flipped x i) k) l) ≡ false
  twice_near l hl =
      codeword_flipped (flipped (flipped x i) k) l
      ∙ ne_eqb (left (flipped (flipped x i) k)) (alone l) (λ e.
      true≢false (sym (alone_odd l hl) ∙ ap (λ z. sum 7 (digit 7 z)) (sym e) ∙ twice_even))
