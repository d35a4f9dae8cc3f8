-- Long division: linear, place by place, and by octets.
use mathlib.Core.Path.{◌≡◌, refl, sym, ap, ◌∙◌}
use mathlib.Core.Bool.{Bool, true, false}
use mathlib.Core.List.{List, [], ◌∷◌, ◌++◌}
use Prim.Native.Nat.{ℕ, zero, suc, ◌+◌, ◌≤◌}
use native.Mathlib.Nat.{suc-add, zero-add}
use native.Mathlib.Omega.{arith}
use lib.ListN.{length}
use Rattle.blocks.specs.framecheck.FrameCheck.{plus, generator, remainder}
use Rattle.blocks.proofs.framecheck.Polynomials.{zeros, plus_comm, plus_assoc, plus_mid, plus_self, plus_zeros, plus_longer, plus_le}
use Rattle.blocks.proofs.framecheck.Polynomials.{plus_front}

pub remainder_none : (n : ℕ) → remainder n [] ≡ []
unfolding remainder
remainder_none zero = refl
remainder_none (suc n) = refl

pub remainder_zeros : (n : ℕ) (p : List Bool) → remainder n (zeros n ++ p) ≡ p
unfolding remainder
remainder_zeros zero p = refl
remainder_zeros (suc n) p = remainder_zeros n p

-- so many places at once, or in two goes
pub remainder_add : (m n : ℕ) (p : List Bool) → remainder (m + n) p ≡ remainder n (remainder m p)
unfolding remainder
remainder_add zero n p = ap (λ z. remainder z p) (zero-add n)
remainder_add (suc m) n [] = ap (λ z. remainder z []) (suc-add m n) ∙ sym (remainder_none n)
remainder_add (suc m) n (false ∷ p) = ap (λ z. remainder z (false ∷ p)) (suc-add m n) ∙ remainder_add m n p
remainder_add (suc m) n (true ∷ p) = ap (λ z. remainder z (true ∷ p)) (suc-add m n) ∙ remainder_add m n (plus generator p)

pub length_remainder : (n m : ℕ) (p : List Bool) → 16 ≤ m → length p ≡ n + m → length (remainder n p) ≡ m
unfolding remainder
length_remainder zero m p l e = omega arith
length_remainder (suc n) m [] l e = absurd (omega arith)
length_remainder (suc n) m (false ∷ p) l e = length_remainder n m p l (omega arith)
length_remainder (suc n) m (true ∷ p) l e = length_remainder n m (plus generator p) l (omega (arith, plus_longer generator p (omega arith)))

-- the division is linear
pub remainder_plus : (n : ℕ) (p q : List Bool) → n + 16 ≤ length p → n + 16 ≤ length q
    → remainder n (plus p q) ≡ plus (remainder n p) (remainder n q)
unfolding remainder plus
remainder_plus zero p q h k = refl
remainder_plus (suc n) [] q h k = absurd (omega arith)
remainder_plus (suc n) (a ∷ p) [] h k = absurd (omega arith)
remainder_plus (suc n) (false ∷ p) (false ∷ q) h k = remainder_plus n p q (omega arith) (omega arith)
remainder_plus (suc n) (true ∷ p) (false ∷ q) h k =
    ap (remainder n) (sym (plus_assoc generator p q))
    ∙ remainder_plus n (plus generator p) q (omega (arith, plus_le generator p)) (omega arith)
remainder_plus (suc n) (false ∷ p) (true ∷ q) h k =
    ap (remainder n) (sym (plus_assoc generator p q) ∙ ap (λ x. plus x q) (plus_comm generator p) ∙ plus_assoc p generator q)
    ∙ remainder_plus n p (plus generator q) (omega arith) (omega (arith, plus_le generator q))
remainder_plus (suc n) (true ∷ p) (true ∷ q) h k =
    ap (remainder n)
    (sym (plus_zeros 16 (plus p q) (omega (arith, plus_le p q)))
    ∙ ap (λ x. plus x (plus p q)) (sym (plus_self generator))
    ∙ plus_mid generator generator p q)
    ∙ remainder_plus n (plus generator p) (plus generator q) (omega (arith, plus_le generator p)) (omega (arith, plus_le generator q))

-- what stands behind the places that are divided and the 16 after them is not touched
pub remainder_front : (n : ℕ) (p s : List Bool) → n + 16 ≤ length p → remainder n (p ++ s) ≡ remainder n p ++ s
unfolding remainder
remainder_front zero p s h = refl
remainder_front (suc n) [] s h = absurd (omega arith)
remainder_front (suc n) (false ∷ p) s h = remainder_front n p s (omega arith)
remainder_front (suc n) (true ∷ p) s h =
    ap (remainder n) (plus_front generator p s (omega arith))
    ∙ remainder_front n (plus generator p) s (omega (arith, plus_le generator p))
