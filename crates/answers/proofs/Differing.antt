-- In how many bits words differ, and what a flip does to it.
use mathlib.Core.Path.{◌≡◌, refl, sym, ap, ap₂, ◌∙◌}
use mathlib.Core.Bool.{Bool, true, false, ◌&&◌}
use Prim.Native.Nat.{ℕ, ◌+◌, ◌*◌, ◌<◌}
use native.Mathlib.Omega.{arith}
use lib.Dec.{eqb}
use borrow.Author.Tests.{ne_eqb}
use Rattle.bits.specs.Bits.{Word, ◌⊕◌, count, tally, flipped}
use Rattle.rules.specs.Codes.{Code, bits}
use Rattle.answers.specs.Calls.{differing}
use Rattle.bits.proofs.Sums.{⊕-assoc, ⊕-comm, ⊕-self}
use Rattle.bits.proofs.Counting.{count_none, count_same, count_xor, count_pick}

-- one bit of many
count_one : (m n : ℕ) → n < m → count m (λ i. eqb i n) ≡ 1
count_one m n h = count_same m (λ i. eqb i n) (λ i. eqb i n && true) (λ i l. and-true (eqb i n)) ∙ count_pick m n (λ i. true) h
  where
    and-true : (b : Bool) → b ≡ (b && true)
    and-true true = refl
    and-true false = refl

back : (p q : Bool) → ((p ⊕ q) ⊕ p) ≡ q
back true true = refl
back true false = refl
back false true = refl
back false false = refl

back_two : (p q r : Bool) → (((p ⊕ q) ⊕ r) ⊕ p) ≡ (q ⊕ r)
back_two true true true = refl
back_two true true false = refl
back_two true false true = refl
back_two true false false = refl
back_two false true true = refl
back_two false true false = refl
back_two false false true = refl
back_two false false false = refl

last_two : (p q r : Bool) → ((p ⊕ q) ⊕ r) ≡ ((p ⊕ r) ⊕ q)
last_two p q r = ⊕-assoc p q r ∙ ap (λ z. p ⊕ z) (⊕-comm q r) ∙ sym (⊕-assoc p r q)

module _ (c : Code) where
  pub differ_self : (x : Word) → differing c x x ≡ 0
  differ_self x = count_none (bits c) (λ i. x i ⊕ x i) (λ i l. ⊕-self (x i))

  pub differ_one : (x : Word) (n : ℕ) → n < bits c → differing c (flipped x n) x ≡ 1
  differ_one x n h = count_same (bits c) (λ i. flipped x n i ⊕ x i) (λ i. eqb i n) (λ i l. back (x i) (eqb i n)) ∙ count_one (bits c) n h

  pub differ_two : (x : Word) (b d : ℕ) → b < bits c → d < bits c → (b ≡ d → ⊥) → differing c (flipped (flipped x b) d) x ≡ 2
  differ_two x b d hb hd apart =
      let a : differing c (flipped (flipped x b) d) x ≡ count (bits c) (λ i. eqb i b ⊕ eqb i d) =
      count_same (bits c) (λ i. flipped (flipped x b) d i ⊕ x i) (λ i. eqb i b ⊕ eqb i d) (λ i l. back_two (x i) (eqb i b) (eqb i d)) in
      omega (
        arith,
        a,
        count_xor (bits c) (λ i. eqb i b) (λ i. eqb i d),
        count_pick (bits c) d (λ i. eqb i b) hd,
        count_one (bits c) b hb,
        count_one (bits c) d hd,
        ap tally (ne_eqb d b (λ q. apart (sym q))),
      )

  -- a third flip: one bit more
  pub differ_three : (x : Word) (b d e : ℕ) → b < bits c → d < bits c → e < bits c → (b ≡ d → ⊥) → (b ≡ e → ⊥) → (d ≡ e → ⊥)
      → differing c (flipped (flipped (flipped x b) d) e) x ≡ 3
  differ_three x b d e hb hd he bd be de =
      let a : differing c (flipped (flipped (flipped x b) d) e) x ≡ count (bits c) (λ i. (flipped (flipped x b) d i ⊕ x i) ⊕ eqb i e) =
      count_same (bits c) (λ i. flipped (flipped (flipped x b) d) e i ⊕ x i) (λ i. (flipped (flipped x b) d i ⊕ x i) ⊕ eqb i e)
      (λ i l. last_two (flipped (flipped x b) d i) (eqb i e) (x i)) in
      let at : (flipped (flipped x b) d e ⊕ x e) ≡ false = back_two (x e) (eqb e b) (eqb e d)
      ∙ ap₂ ◌⊕◌ (ne_eqb e b (λ q. be (sym q))) (ne_eqb e d (λ q. de (sym q))) in
      omega (
        arith,
        a,
        differ_two x b d hb hd bd,
        count_xor (bits c) (λ i. flipped (flipped x b) d i ⊕ x i) (λ i. eqb i e),
        count_pick (bits c) e (λ i. flipped (flipped x b) d i ⊕ x i) he,
        count_one (bits c) e he,
        ap tally at,
      )

  -- a flip adds one bit that differs, or takes one
  pub differ_flip : (x y : Word) (n : ℕ) → n < bits c → differing c x (flipped y n) + 2 * tally (x n ⊕ y n) ≡ differing c x y + 1
  differ_flip x y n h =
      let a : differing c x (flipped y n) ≡ count (bits c) (λ i. (x i ⊕ y i) ⊕ eqb i n) =
      count_same (bits c) (λ i. x i ⊕ flipped y n i) (λ i. (x i ⊕ y i) ⊕ eqb i n) (λ i l. sym (⊕-assoc (x i) (y i) (eqb i n))) in
      omega (arith, a, count_xor (bits c) (λ i. x i ⊕ y i) (λ i. eqb i n), count_pick (bits c) n (λ i. x i ⊕ y i) h, count_one (bits c) n h)
