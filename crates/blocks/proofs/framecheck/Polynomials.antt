-- Polynomials modulo 2: sums, and the coefficients that are a word's bits.
use mathlib.Core.Path.{◌≡◌, refl, sym, ap, ap₂, ◌∙◌, fun_ext}
use mathlib.Core.Bool.{Bool, false}
use mathlib.Core.List.{List, [], ◌∷◌, ◌++◌}
use Prim.Native.Nat.{ℕ, zero, suc, ◌+◌, ◌≤◌, ◌<◌, zero-le, suc-le-suc}
use native.Mathlib.Nat.{le_of_suc-le-suc, not-suc-le-zero, suc-add, zero-lt-suc, zero-add, le_refl}
use native.Mathlib.Omega.{arith}
use lib.ListN.{length, get_or, replicate}
use Rattle.bits.specs.Bits.{Word, ◌⊕◌}
use Rattle.bits.proofs.Sums.{⊕-assoc, ⊕-comm, ⊕-self, ⊕-eq}
use Rattle.blocks.specs.framecheck.FrameCheck.{coefficients, plus}

abbrev pub zeros : ℕ → List Bool
zeros n = replicate n false

-- ---- sums

pub plus_nil : (p : List Bool) → plus p [] ≡ p
unfolding plus
plus_nil [] = refl
plus_nil (a ∷ p) = refl

pub plus_comm : (p q : List Bool) → plus p q ≡ plus q p
unfolding plus
plus_comm [] q = sym (plus_nil q)
plus_comm (a ∷ p) [] = refl
plus_comm (a ∷ p) (b ∷ q) = ap₂ (λ x y. x ∷ y) (⊕-comm a b) (plus_comm p q)

pub plus_assoc : (p q r : List Bool) → plus (plus p q) r ≡ plus p (plus q r)
unfolding plus
plus_assoc [] q r = refl
plus_assoc (a ∷ p) [] r = refl
plus_assoc (a ∷ p) (b ∷ q) [] = refl
plus_assoc (a ∷ p) (b ∷ q) (c ∷ r) = ap₂ (λ x y. x ∷ y) (⊕-assoc a b c) (plus_assoc p q r)

pub plus_mid : (p q r s : List Bool) → plus (plus p q) (plus r s) ≡ plus (plus p r) (plus q s)
plus_mid p q r s =
    plus_assoc p q (plus r s)
    ∙ ap (plus p) (sym (plus_assoc q r s) ∙ ap (λ x. plus x s) (plus_comm q r) ∙ plus_assoc r q s)
    ∙ sym (plus_assoc p r (plus q s))

pub plus_self : (p : List Bool) → plus p p ≡ zeros (length p)
unfolding plus
plus_self [] = refl
plus_self (a ∷ p) = ap₂ (λ x y. x ∷ y) (⊕-self a) (plus_self p)

pub plus_zeros : (n : ℕ) (p : List Bool) → n ≤ length p → plus (zeros n) p ≡ p
unfolding plus
plus_zeros zero p h = refl
plus_zeros (suc n) [] h = absurd (not-suc-le-zero h)
plus_zeros (suc n) (a ∷ p) h = ap (λ y. a ∷ y) (plus_zeros n p (le_of_suc-le-suc h))

pub plus_longer : (p q : List Bool) → length p ≤ length q → length (plus p q) ≡ length q
unfolding plus
plus_longer [] q h = refl
plus_longer (a ∷ p) [] h = absurd (not-suc-le-zero h)
plus_longer (a ∷ p) (b ∷ q) h = ap suc (plus_longer p q (le_of_suc-le-suc h))

pub plus_le : (p q : List Bool) → length q ≤ length (plus p q)
unfolding plus
plus_le [] q = le_refl (length q)
plus_le (a ∷ p) [] = zero-le
plus_le (a ∷ p) (b ∷ q) = suc-le-suc (plus_le p q)

pub plus_append : (p q r s : List Bool) → length p ≡ length r → plus (p ++ q) (r ++ s) ≡ plus p r ++ plus q s
unfolding plus
plus_append [] q [] s e = refl
plus_append [] q (c ∷ r) s e = absurd (omega arith)
plus_append (a ∷ p) q [] s e = absurd (omega arith)
plus_append (a ∷ p) q (c ∷ r) s e = ap (λ y. (a ⊕ c) ∷ y) (plus_append p q r s (omega arith))

-- what is laid over the first part alone leaves the second
pub plus_front : (p r s : List Bool) → length p ≤ length r → plus p (r ++ s) ≡ plus p r ++ s
unfolding plus
plus_front [] r s h = refl
plus_front (a ∷ p) [] s h = absurd (not-suc-le-zero h)
plus_front (a ∷ p) (c ∷ r) s h = ap (λ y. (a ⊕ c) ∷ y) (plus_front p r s (le_of_suc-le-suc h))

-- a sum of zeros is of equals
pub plus_equal : (p q : List Bool) → length p ≡ length q → plus p q ≡ zeros (length p) → p ≡ q
unfolding plus
plus_equal [] [] h e = refl
plus_equal [] (b ∷ q) h e = absurd (omega arith)
plus_equal (a ∷ p) [] h e = absurd (omega arith)
plus_equal (a ∷ p) (b ∷ q) h e =
    ap₂ (λ x y. x ∷ y)
    (⊕-eq a b (ap (λ l. get_or l 0 false) e))
    (plus_equal p q (omega arith) (ap rest e))
  where
    rest : List Bool → List Bool
    rest [] = []
    rest (x ∷ l) = l

-- ---- coefficients

pub length_coefficients : (n : ℕ) (x : Word) → length (coefficients n x) ≡ n
unfolding coefficients
length_coefficients zero x = refl
length_coefficients (suc n) x = ap suc (length_coefficients n (λ k. x (suc k)))

pub coefficients_plus : (n : ℕ) (x y : Word) → coefficients n (λ k. x k ⊕ y k) ≡ plus (coefficients n x) (coefficients n y)
unfolding coefficients plus
coefficients_plus zero x y = refl
coefficients_plus (suc n) x y = ap (λ l. (x 0 ⊕ y 0) ∷ l) (coefficients_plus n (λ k. x (suc k)) (λ k. y (suc k)))

pub coefficients_append : (m n : ℕ) (x : Word) → coefficients (m + n) x ≡ coefficients m x ++ coefficients n (λ k. x (m + k))
unfolding coefficients
coefficients_append zero n x = ap (λ z. coefficients z x) (zero-add n) ∙ ap (coefficients n) (fun_ext (λ k. ap x (sym (zero-add k))))
coefficients_append (suc m) n x =
    ap (λ z. coefficients z x) (suc-add m n)
    ∙ ap (λ l. x 0 ∷ l)
    (coefficients_append m n (λ k. x (suc k)) ∙ ap (λ y. coefficients m (λ k. x (suc k)) ++ coefficients n y)
    (fun_ext (λ k. ap x (omega arith))))

pub coefficients_same : (n : ℕ) (x y : Word) → ((k : ℕ) → k < n → x k ≡ y k) → coefficients n x ≡ coefficients n y
unfolding coefficients
coefficients_same zero x y h = refl
coefficients_same (suc n) x y h =
    ap₂ (λ a l. a ∷ l) (h 0 (zero-lt-suc n)) (coefficients_same n (λ k. x (suc k)) (λ k. y (suc k)) (λ k l. h (suc k) (suc-le-suc l)))

pub coefficients_zeros : (n : ℕ) → coefficients n (λ k. false) ≡ zeros n
unfolding coefficients
coefficients_zeros zero = refl
coefficients_zeros (suc n) = ap (λ l. false ∷ l) (coefficients_zeros n)

pub coefficient : (n : ℕ) (x : Word) (k : ℕ) → k < n → get_or (coefficients n x) k false ≡ x k
unfolding coefficients
coefficient zero x k h = absurd (not-suc-le-zero h)
coefficient (suc n) x zero h = refl
coefficient (suc n) x (suc k) h = coefficient n (λ i. x (suc i)) k (le_of_suc-le-suc h)

-- a list is the coefficients of its own elements
pub coefficients_of : (n : ℕ) (p : List Bool) → length p ≡ n → coefficients n (λ k. get_or p k false) ≡ p
unfolding coefficients
coefficients_of zero [] e = refl
coefficients_of zero (a ∷ p) e = absurd (omega arith)
coefficients_of (suc n) [] e = absurd (omega arith)
coefficients_of (suc n) (a ∷ p) e = ap (λ l. a ∷ l) (coefficients_of n p (omega arith))
