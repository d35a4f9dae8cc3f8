-- Octets compared.
use mathlib.Core.Path.{◌≡◌, refl, ap₂}
use mathlib.Core.Bool.{true, false, ◌&&◌}
use mathlib.Core.List.{List, [], ◌∷◌, ◌++◌}
use Prim.Native.Nat.{ℕ}
use lib.Dec.{T, eqb, eqb→eq}
use lib.ListN.{replicate}
use borrow.Author.Tests.{eq-eqb}
use Rattle.rules.specs.Codes.{code, code1}
use Rattle.bits.proofs.Sums.{and_l, and_r}
use Rattle.units.specs.unitrules.Units.{start, tail, same, shaped}

pub same_refl : (a : List ℕ) → same a a ≡ true
same_refl [] = refl
same_refl (x ∷ a) = ap₂ (λ p q. p && q) (eq-eqb x x refl) (same_refl a)

pub same_true : (a b : List ℕ) → T (same a b) → a ≡ b
same_true [] [] t = refl
same_true [] (y ∷ b) t = absurd t
same_true (x ∷ a) [] t = absurd t
same_true (x ∷ a) (y ∷ b) t = ap₂ (λ p q. p ∷ q) (eqb→eq x y (and_l (eqb x y) (same a b) t)) (same_true a b (and_r (eqb x y) (same a b) t))

-- a codeblock and no tail behind it, of code 1
tail_demanded : shaped 1 (start ++ replicate 32 0) ≡ false
unfolding code code1 tail shaped
tail_demanded = refl
