-- Randomising, over any generator.
use mathlib.Core.Path.{◌≡◌, refl, sym, ap, ap₂, ◌∙◌, subst}
use mathlib.Core.Bool.{Bool, ◌&&◌}
use mathlib.Core.List.{List, [], ◌∷◌, ◌++◌}
use Prim.Native.Nat.{ℕ, zero, suc, ◌+◌, ◌*◌, ◌/◌, ◌%◌, ◌<◌}
use native.Mathlib.Nat.{add-zero, add-suc, suc-add, zero-lt-suc, mod-lt, div-add-mod'}
use native.Mathlib.Omega.{arith}
use lib.Bits.{bit_xor, xor_lt}
use lib.Dec.{eqb}
use lib.ListN.{length, get_or, take, drop, set}
use lib.Seq.{length-take-le, drop-cons, take-suc, get_or_at, set_at, append_snoc}
use native.Mathlib.Numerals.{add-one}
use borrow.Author.Tests.{lt-ltb}
use Rattle.bits.specs.Bits.{Word, digit, bit, number, octets, ◌⊕◌, flipped}
use Rattle.bits.proofs.Sums.{⊕-assoc, ⊕-comm, ⊕-self, ⊕-false}
use Rattle.bits.proofs.Octets.{Octets, digit_number, number_digit, number_lt, bit_octets, octets_same, length_octets, octets_bit}
use Rattle.vectors.proofs.Places.{digit_xor, same_digits}
use Rattle.randomiser.specs.Randomiser.{Generator, register, sequence, sequence_octet, randomised, telecommand}
use Rattle.randomiser.proofs.Sequences.{number_same}

-- the sequence is added, and added again: an octet and the first one of the sequence, FF
pub added_first : (randomised telecommand 0 (0x55 ∷ []) ≡ 0xAA ∷ []) × (randomised telecommand 0 (0xAA ∷ []) ≡ 0x55 ∷ [])
unfolding randomised register telecommand number
added_first = (refl, refl)

⊕-twice : (a b : Bool) → a ⊕ b ⊕ b ≡ a
⊕-twice a b = ⊕-assoc a b b ∙ ap (λ z. a ⊕ z) (⊕-self b) ∙ ⊕-false a

-- an octet randomised is the octet and that of the sequence, added bit by bit
pub added_octet : (g : Generator) (n octet : ℕ) → octet < 256 → number 8 (λ k. digit 8 octet k ⊕ sequence g (8 * n + k)) ≡ bit_xor octet
    (sequence_octet g n)
added_octet g n octet h =
    same_digits 8 (number 8 (λ k. digit 8 octet k ⊕ sequence g (8 * n + k))) (bit_xor octet (sequence_octet g n))
    (number_lt 8 (λ k. digit 8 octet k ⊕ sequence g (8 * n + k)))
    (xor_lt 8 octet (sequence_octet g n) h (number_lt 8 (λ k. sequence g (8 * n + k))))
    (λ i l. digit_number 8 (λ k. digit 8 octet k ⊕ sequence g (8 * n + k)) i l
    ∙ sym (digit_xor 8 octet (sequence_octet g n) i ∙ ap (λ z. digit 8 octet i ⊕ z) (digit_number 8 (λ k. sequence g (8 * n + k)) i l)))

module _ (g : Generator) where
  pub length_randomised : (n : ℕ) (o : List ℕ) → length (randomised g n o) ≡ length o
  unfolding randomised
  length_randomised n [] = refl
  length_randomised n (octet ∷ o) = ap suc (length_randomised (suc n) o)

  pub randomised_octets : (n : ℕ) (o : List ℕ) → Octets (randomised g n o)
  unfolding randomised
  randomised_octets n [] i = zero-lt-suc 255
  randomised_octets n (octet ∷ o) zero = number_lt 8 (λ k. digit 8 octet k ⊕ sequence g (8 * n + k))
  randomised_octets n (octet ∷ o) (suc i) = randomised_octets (suc n) o i

  -- octets in two parts: the second goes on where the first ended
  pub randomised_append : (n : ℕ) (a b : List ℕ) → randomised g n (a ++ b) ≡ randomised g n a ++ randomised g (n + length a) b
  unfolding randomised
  randomised_append n [] b = ap (λ z. randomised g z b) (sym (add-zero n))
  randomised_append n (octet ∷ a) b =
      ap (λ r. number 8 (λ k. digit 8 octet k ⊕ sequence g (8 * n + k)) ∷ r)
      (randomised_append (suc n) a b ∙ ap (λ z. randomised g (suc n) a ++ randomised g z b) (suc-add n (length a)
      ∙ sym (add-suc n (length a))))

  -- randomising twice gives the octets back
  pub randomised_twice : (n : ℕ) (o : List ℕ) → Octets o → randomised g n (randomised g n o) ≡ o
  unfolding randomised
  randomised_twice n [] h = refl
  randomised_twice n (octet ∷ o) h =
      ap₂ (λ a r. a ∷ r)
      (number_same 8 (λ k. digit 8 (number 8 (λ k. digit 8 octet k ⊕ sequence g (8 * n + k))) k ⊕ sequence g (8 * n + k)) (digit 8 octet)
      (λ k l.
      ap (λ z. z ⊕ sequence g (8 * n + k)) (digit_number 8 (λ k. digit 8 octet k ⊕ sequence g (8 * n + k)) k l)
      ∙ ⊕-twice (digit 8 octet k) (sequence g (8 * n + k)))
      ∙ number_digit 8 octet (h 0))
      (randomised_twice (suc n) o (λ i. h (suc i)))

  octet_at : (n : ℕ) (o : List ℕ) (j : ℕ) → j < length o
      → get_or (randomised g n o) j 0 ≡ number 8 (λ k. digit 8 (get_or o j 0) k ⊕ sequence g (8 * (n + j) + k))
  unfolding randomised
  octet_at n [] j h = absurd (omega arith)
  octet_at n (octet ∷ o) zero h = ap (λ z. number 8 (λ k. digit 8 octet k ⊕ sequence g (8 * z + k))) (sym (add-zero n))
  octet_at n (octet ∷ o) (suc j) h =
      octet_at (suc n) o j (omega arith)
      ∙ ap (λ z. number 8 (λ k. digit 8 (get_or o j 0) k ⊕ sequence g (8 * z + k))) (suc-add n j ∙ sym (add-suc n j))

  -- each bit has the sequence's added
  pub bit_randomised : (n : ℕ) (o : List ℕ) (i : ℕ) → i < 8 * length o → bit (randomised g n o) i ≡ bit o i ⊕ sequence g (8 * n + i)
  bit_randomised n o i h =
      let e : 8 * (n + i / 8) + i % 8 ≡ 8 * n + i = omega (arith, div-add-mod' i 8) in
      ap (λ z. digit 8 z (i % 8)) (octet_at n o (i / 8) (omega (arith, div-add-mod' i 8)))
      ∙ digit_number 8 (λ k. digit 8 (get_or o (i / 8) 0) k ⊕ sequence g (8 * (n + i / 8) + k)) (i % 8) (mod-lt i (zero-lt-suc 7))
      ∙ ap (λ z. bit o i ⊕ sequence g z) e

  -- octets that have the sequence's bits added are the octets randomised
  pub by_bits : (n : ℕ) (o : List ℕ) (x : Word) → ((i : ℕ) → i < 8 * length o → x i ≡ bit o i ⊕ sequence g (8 * n + i))
      → octets (length o) x ≡ randomised g n o
  by_bits n o x h =
      octets_same (length o) x (bit (randomised g n o)) (λ i l. h i l ∙ sym (bit_randomised n o i l))
      ∙ ap (λ z. octets z (bit (randomised g n o))) (sym (length_randomised n o))
      ∙ octets_bit (randomised g n o) (randomised_octets n o)

  -- a wrong bit stays where it is
  pub randomised_flip : (n : ℕ) (o : List ℕ) (b : ℕ)
      → randomised g n (octets (length o) (flipped (bit o) b)) ≡ octets (length o) (flipped (bit (randomised g n o)) b)
  randomised_flip n o b =
      let wrong : List ℕ = octets (length o) (flipped (bit o) b) in
      let long : length (randomised g n wrong) ≡ length o = length_randomised n wrong ∙ length_octets (length o) (flipped (bit o) b) in
      sym (octets_bit (randomised g n wrong) (randomised_octets n wrong))
      ∙ ap (λ z. octets z (bit (randomised g n wrong))) long
      ∙ octets_same (length o) (bit (randomised g n wrong)) (flipped (bit (randomised g n o)) b) (λ i l.
      bit_randomised n wrong i (omega (arith, length_octets (length o) (flipped (bit o) b)))
      ∙ ap (λ z. z ⊕ sequence g (8 * n + i)) (bit_octets (length o) (flipped (bit o) b) i
      ∙ ap (λ z. z && flipped (bit o) b i) (lt-ltb i (8 * length o) l))
      ∙ ⊕-assoc (bit o i) (eqb i b) (sequence g (8 * n + i)) ∙ ap (λ z. bit o i ⊕ z) (⊕-comm (eqb i b) (sequence g (8 * n + i)))
      ∙ sym (⊕-assoc (bit o i) (sequence g (8 * n + i)) (eqb i b))
      ∙ ap (λ z. z ⊕ eqb i b) (sym (bit_randomised n o i l)))

  -- one octet more in place
  pub randomised_more : (n : ℕ) (o out : List ℕ) (i v : ℕ) → i < length o → get_or out i 0 < 256
      → out ≡ randomised g n (take i o) ++ drop i o → v ≡ sequence_octet g (n + i)
      → set out i (bit_xor (get_or out i 0) v) ≡ randomised g n (take (i + 1) o) ++ drop (i + 1) o
  unfolding randomised
  randomised_more n o out i v h low e ev =
      let P : List ℕ = randomised g n (take i o) in
      let y : ℕ = get_or o i 0 in
      let ys : List ℕ = drop (suc i) o in
      let long : length (take i o) ≡ i = length-take-le i o (omega arith) in
      let long' : length P ≡ i = length_randomised n (take i o) ∙ long in
      let split : out ≡ P ++ (y ∷ ys) = e ∙ ap (λ z. P ++ z) (drop-cons o i 0 h) in
      let here : get_or out i 0 ≡ y = ap (λ z. get_or z i 0) split ∙ get_or_at P y ys 0 i long' in
      let more : randomised g n (take (i + 1) o) ≡ P ++ (bit_xor y v ∷ []) =
      ap (randomised g n) (ap (λ z. take z o) (add-one i) ∙ take-suc o i 0 h) ∙ randomised_append n (take i o) (y ∷ [])
      ∙ ap (λ z. P ++ randomised g (n + z) (y ∷ [])) long
      ∙ ap (λ z. P ++ (z ∷ [])) (added_octet g (n + i) y (subst (λ z. z < 256) here low) ∙ ap (bit_xor y) (sym ev)) in
      ap₂ (λ a b. set a i (bit_xor b v)) split here ∙ set_at P y ys (bit_xor y v) i long'
      ∙ sym (append_snoc P (bit_xor y v) ys) ∙ ap₂ (λ a b. a ++ drop b o) (sym more) (sym (add-one i))

-- a bit of a table that holds octets of a sequence
pub table_bit : (g : Generator) (table : List ℕ) (from n i : ℕ) → get_or table (from + i / 8) 0 ≡ sequence_octet g (n + i / 8)
    → bit table (8 * from + i) ≡ sequence g (8 * n + i)
table_bit g table from n i known =
    let q : (8 * from + i) / 8 ≡ from + i / 8 = omega arith in
    let t : (8 * from + i) % 8 ≡ i % 8 = omega arith in
    let e : 8 * (n + i / 8) + i % 8 ≡ 8 * n + i = omega arith in
    ap₂ (λ a b. digit 8 (get_or table a 0) b) q t
    ∙ ap (λ z. digit 8 z (i % 8)) known
    ∙ digit_number 8 (λ k. sequence g (8 * (n + i / 8) + k)) (i % 8) (mod-lt i (zero-lt-suc 7))
    ∙ ap (sequence g) e
