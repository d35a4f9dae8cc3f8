-- Words of 64 bits as the functions hold them. Assumes nothing.
use mathlib.Core.Path.{◌≡◌, refl, sym, ap, ap₂, ◌∙◌, fun_ext, subst}
use mathlib.Core.Bool.{Bool, true, false, not, ◌&&◌, and_comm, and-false, and-true, true≢false}
use mathlib.Core.Logic.{⊎_elim}
use mathlib.Core.List.{List}
use Prim.Native.Nat.{ℕ, suc, ◌+◌, ◌-◌, ◌*◌, ◌^◌, ◌≤◌, ◌<◌}
use native.Mathlib.Numerals.{add-one}
use native.Mathlib.Omega.{arith}
use lib.Bits.{bit_xor, bit_and}
use lib.Dec.{T, eqb, leb, ltb, lit<}
use lib.ListN.{get_or, length}
use borrow.Author.Tests.{lt-ltb, le-ltb, le-leb, lt-leb, eq-eqb, ne_eqb}
use Rattle.bits.specs.Bits.{Word, digit, bit, octets, tally, ◌⊕◌, sum, below, agree}
use Rattle.bits.proofs.Orders.{le-or-lt}
use Rattle.bits.proofs.Sums.{⊕-false, ⊕-eq, sum_same, below_at, not-true}
use Rattle.bits.proofs.Octets.{octets_same, bit_past}
use Rattle.rules.proofs.Codewords.{agree_all, all_agree}
use Rattle.vectors.specs.Vectors.{wbit, Holds, from}
use Rattle.vectors.proofs.Places.{place, place_up, place_below, place_above, digit_xor, digit_and, same_digits}
use Rattle.vectors.proofs.Filling.{word_at}
use Rattle.bch.specs.Bch.{remainder, raised, encoded, written}
use Rattle.bch.specs.Answers.{upright, alone}
use Rattle.bch.proofs.Division.{remainder_same, remainder_sum, remainder_lt}
use Rattle.bch.proofs.Columns.{rows, row_alone, row_fill}
use Rattle.bch.proofs.Codewords.{inverted, encoded_front, encoded_parity, encoded_fill}

-- ---- constants, bit by bit

same_test : (n : ℕ) (x y : Word) → T (below n (λ i. not (x i ⊕ y i))) → (i : ℕ) → i < n → x i ≡ y i
same_test n x y t i h = ⊕-eq (x i) (y i) (not-true (x i ⊕ y i) (below_at n (λ i. not (x i ⊕ y i)) t i h))

pub all_bits : (i : ℕ) → i < 64 → digit 64 0xFFFFFFFFFFFFFFFF i ≡ true
all_bits = same_test 64 (digit 64 0xFFFFFFFFFFFFFFFF) (λ i. true) tt

pub sent_bits : (i : ℕ) → i < 64 → digit 64 0xFFFFFFFFFFFFFFFE i ≡ ltb i 63
sent_bits = same_test 64 (digit 64 0xFFFFFFFFFFFFFFFE) (λ i. ltb i 63) tt

pub parity_bits : (i : ℕ) → i < 64 → digit 64 0xFE i ≡ (leb 56 i && ltb i 63)
parity_bits = same_test 64 (digit 64 0xFE) (λ i. leb 56 i && ltb i 63) tt

-- ---- a row's sum is a coefficient

row_sum : (j v : ℕ) → j < 7 → sum 64 (digit 64 (bit_and (get_or rows j 0) v)) ≡ digit 7 (remainder 63 (digit 64 v)) j
unfolding sum
row_sum j v h =
    ap (sum 64) (fun_ext (λ i. digit_and 64 (get_or rows j 0) v i))
    ∙ ap (λ p. sum 63 (λ i. digit 64 (get_or rows j 0) i && digit 64 v i) ⊕ (p && digit 64 v 63)) (row_fill j h)
    ∙ ⊕-false (sum 63 (λ i. digit 64 (get_or rows j 0) i && digit 64 v i))
    ∙ sum_same 63 _ (λ i. digit 64 v i && digit 7 (alone i) j) (λ i l.
    and_comm (digit 64 (get_or rows j 0) i) (digit 64 v i) ∙ ap (λ p. digit 64 v i && p) (sym (row_alone i j l h)))
    ∙ sym (remainder_sum 63 (7 - suc j) (digit 64 v))

pub row_odd : (j v r : ℕ) → r ≡ tally (sum 64 (digit 64 (bit_and (get_or rows j 0) v))) → j < 7
    → r ≡ tally (digit 7 (remainder 63 (digit 64 v)) j)
row_odd j v r e h = e ∙ ap tally (row_sum j v h)

-- ---- the bits that alone leave r

-- those whose first j coefficients are r's
abbrev pub Like : ℕ → ℕ → ℕ → Type 0
Like r j m = Holds m (λ i. ltb i 63 && agree j (digit 7 r) (digit 7 (alone i)))

pub like_start : (r : ℕ) → Like r 0 0xFFFFFFFFFFFFFFFE
unfolding agree
like_start r i h = sent_bits i h ∙ sym (and-true (ltb i 63))

module _ (r j m w : ℕ) (k : Like r j m) (row : (i : ℕ) → i < 63 → digit 64 w i ≡ not (digit 7 r j ⊕ digit 7 (alone i) j)) where
  pub like_more : Like r (j + 1) (bit_and m w)
  unfolding agree
  like_more i h =
      digit_and 64 m w i ∙ ap (λ p. p && digit 64 w i) (k i h) ∙ ⊎_elim fill sent (le-or-lt 63 i)
      ∙ ap (λ n. ltb i 63 && agree n (digit 7 r) (digit 7 (alone i))) (sym (add-one j))
    where
      so_far : Bool
      so_far = agree j (digit 7 r) (digit 7 (alone i))

      fill : 63 ≤ i → ((ltb i 63 && so_far) && digit 64 w i) ≡ (ltb i 63 && agree (suc j) (digit 7 r) (digit 7 (alone i)))
      fill l = ap (λ p. (p && so_far) && digit 64 w i) (le-ltb i 63 l)
          ∙ sym (ap (λ p. p && agree (suc j) (digit 7 r) (digit 7 (alone i))) (le-ltb i 63 l))

      sent : i < 63 → ((ltb i 63 && so_far) && digit 64 w i) ≡ (ltb i 63 && agree (suc j) (digit 7 r) (digit 7 (alone i)))
      sent l =
          ap₂ (λ p q. (p && so_far) && q) (lt-ltb i 63 l) (row i l)
          ∙ sym (ap (λ p. p && agree (suc j) (digit 7 r) (digit 7 (alone i))) (lt-ltb i 63 l))

pub like_set : (r j m n : ℕ) → n ≡ bit_and m (get_or rows j 0) → j < 7 → digit 7 r j ≡ true → Like r j m → Like r (j + 1) n
like_set r j m n q h e k =
    subst (Like r (j + 1)) (sym q)
    (like_more r j m (get_or rows j 0) k (λ i l. sym (row_alone i j l h) ∙ sym (twice (digit 7 (alone i) j))
    ∙ ap (λ p. not (p ⊕ digit 7 (alone i) j)) (sym e)))
  where
    twice : (b : Bool) → not (not b) ≡ b
    twice true = refl
    twice false = refl

-- the row with every bit flipped
pub like_clear : (r j m n : ℕ) → n ≡ bit_and m (bit_xor (get_or rows j 0) 0xFFFFFFFFFFFFFFFF) → j < 7 → digit 7 r j ≡ false → Like r j m
    → Like r (j + 1) n
like_clear r j m n q h e k =
    subst (Like r (j + 1)) (sym q)
    (like_more r j m (bit_xor (get_or rows j 0) 0xFFFFFFFFFFFFFFFF) k (λ i l.
    digit_xor 64 (get_or rows j 0) 0xFFFFFFFFFFFFFFFF i
    ∙ ap₂ (λ p q. p ⊕ q) (sym (row_alone i j l h)) (all_bits i (omega arith))
    ∙ inverted (digit 7 (alone i) j)
    ∙ ap (λ p. not (p ⊕ digit 7 (alone i) j)) (sym e)))

-- all seven
pub like_all : (r j m : ℕ) → r < 2 ^ 7 → j ≡ 7 → Like r j m → Holds m (λ i. ltb i 63 && eqb r (alone i))
like_all r j m hr e k i h =
    k i h
    ∙ ap (λ p. ltb i 63 && p) (ap (λ n. agree n (digit 7 r) (digit 7 (alone i))) e ∙ whole (agree 7 (digit 7 r) (digit 7 (alone i))) refl)
  where
    whole : (b : Bool) → agree 7 (digit 7 r) (digit 7 (alone i)) ≡ b → b ≡ eqb r (alone i)
    whole true t =
        sym (eq-eqb r (alone i) (same_digits 7 r (alone i) hr (remainder_lt 63 (λ k. eqb k i))
        (all_agree 7 (digit 7 r) (digit 7 (alone i)) t)))
    whole false t =
        sym (ne_eqb r (alone i) (λ q. true≢false (sym (agree_all 7 (digit 7 r) (digit 7 (alone i)) (λ j l. ap (λ z. digit 7 z j) q)) ∙ t)))

-- ---- octets in and out

pub first_word : (ys o : List ℕ) → wbit ys ≡ bit o → Holds (get_or ys 0 0) (bit o)
first_word ys o e i h = sym (word_at ys i 0 i h (omega arith)) ∙ ap (λ (z : Word). z i) e

pub written_first : (ys : List ℕ) (v n : ℕ) (x : Word) → n ≡ 8 → get_or ys 0 0 ≡ bit_and v 0xFFFFFFFFFFFFFFFE → Holds v x
    → octets n (from 0 (wbit ys)) ≡ written x
written_first ys v n x e first h =
    ap (λ z. octets z (from 0 (wbit ys))) e
    ∙ octets_same 8 (from 0 (wbit ys)) (λ k. ltb k 63 && x k) (λ i l.
    word_at ys (0 + i) 0 i l (omega arith)
    ∙ ap (λ z. digit 64 z i) first
    ∙ digit_and 64 v 0xFFFFFFFFFFFFFFFE i
    ∙ ap₂ (λ p q. p && q) (h i l) (sent_bits i l)
    ∙ and_comm (x i) (ltb i 63))

-- ---- a word with its parity

pub upright_word : (v : ℕ) (x : Word) → Holds v x → Holds (bit_xor v 0xFE) (upright x)
upright_word v x h i l = digit_xor 64 v 0xFE i ∙ ap₂ (λ p q. p ⊕ q) (h i l) (parity_bits i l)

module _ (o : List ℕ) (v r : ℕ) (seven : length o ≡ 7) (h : Holds v (bit o)) (e : r ≡ remainder 63 (bit o)) where
  abbrev x : Word
  x = bit o

  raised_all : (i : ℕ) → raised x i ≡ x i
  raised_all i =
      ⊎_elim
      (λ (l : 56 ≤ i). ap (λ p. p && x i) (le-ltb i 56 l) ∙ sym (bit_past o i (omega arith)))
      (λ (l : i < 56). ap (λ p. p && x i) (lt-ltb i 56 l))
      (le-or-lt 56 i)

  own : r ≡ remainder 63 (raised x)
  own = e ∙ remainder_same 63 x (raised x) (λ i l. sym (raised_all i))

  pub encoded_word : Holds (bit_xor (bit_xor v (r * 2)) 0xFE) (encoded x)
  encoded_word i l =
      digit_xor 64 (bit_xor v (r * 2)) 0xFE i
      ∙ ap₂ (λ p q. p ⊕ q) (digit_xor 64 v (r * 2) i ∙ ap (λ p. p ⊕ digit 64 (r * 2) i) (h i l)) (parity_bits i l)
      ∙ ⊎_elim (λ g. ⊎_elim (fill g) (parity g) (le-or-lt 63 i)) front (le-or-lt 56 i)
    where
      front : i < 56 → x i ⊕ digit 64 (r * 2) i ⊕ (leb 56 i && ltb i 63) ≡ encoded x i
      front g =
          ap₂ (λ p q. x i ⊕ p ⊕ (q && ltb i 63)) (place_above (r * 2) 8 (64 - suc i) (omega (arith, own, remainder_lt 63 (raised x)))
          (omega arith)) (lt-leb 56 i g)
          ∙ ⊕-false (x i ⊕ false) ∙ ⊕-false (x i) ∙ sym (encoded_front x i g)

      past : 56 ≤ i → x i ≡ false
      past g = bit_past o i (omega arith)

      parity : 56 ≤ i → i < 63 → x i ⊕ digit 64 (r * 2) i ⊕ (leb 56 i && ltb i 63) ≡ encoded x i
      parity g k =
          let j = i - 56 in
          let d : 64 - suc i ≡ 1 + (7 - suc j) = omega arith in
          let n : 56 + j ≡ i = omega arith in
          ap₂ (λ p q. p ⊕ digit 64 (r * 2) i ⊕ q) (past g) (ap₂ (λ p q. p && q) (le-leb 56 i g) (lt-ltb i 63 k))
          ∙ inverted (digit 64 (r * 2) i)
          ∙ ap not (ap (place (r * 2)) d ∙ place_up r 1 (7 - suc j) ∙ ap (λ z. digit 7 z j) own)
          ∙ sym (encoded_parity x j (omega arith))
          ∙ ap (encoded x) n

      fill : 56 ≤ i → 63 ≤ i → x i ⊕ digit 64 (r * 2) i ⊕ (leb 56 i && ltb i 63) ≡ encoded x i
      fill g k =
          let n : i ≡ 63 = omega arith in
          let d : 64 - suc i ≡ 0 = omega arith in
          ap₂ (λ p q. p ⊕ digit 64 (r * 2) i ⊕ (leb 56 i && q)) (past g) (le-ltb i 63 k)
          ∙ ap (λ p. digit 64 (r * 2) i ⊕ p) (and-false (leb 56 i)) ∙ ⊕-false (digit 64 (r * 2) i)
          ∙ ap (place (r * 2)) d ∙ place_below r 1 0 (lit< tt)
          ∙ sym (ap (encoded x) n ∙ encoded_fill x)
