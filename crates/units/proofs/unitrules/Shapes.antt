-- Codes 1 and 3: their lengths, and what follows for units.
use mathlib.Core.Path.{◌≡◌, refl, sym, ap, ◌∙◌, subst}
use mathlib.Core.Bool.{true, ◌||◌}
use mathlib.Core.List.{List, [], ◌∷◌}
use Prim.Native.Nat.{ℕ, ◌*◌, ◌≤◌}
use native.Mathlib.Omega.{arith}
use native.Mathlib.Decide.{ℕ_discrete}
use lib.Dec.{T, eqb}
use borrow.Author.Tests.{ne_eqb, eqb-true}
use lib.ListN.{length}
use Rattle.rules.specs.Codes.{code, code1, code3, offered}
use Rattle.units.specs.unitrules.Units.{unit_code, tail}

-- a unit code that is not 1 is 3
three : (n : ℕ) → unit_code n ≡ true → (n ≡ 1 → ⊥) → n ≡ 3
three n e d = eqb-true n 3 (sym (ap (λ b. b || eqb n 3) (ne_eqb n 1 d)) ∙ e)

-- what holds of codes 1 and 3 holds of every unit code
pub both : (P : ℕ → Type 0) → P 1 → P 3 → (n : ℕ) → unit_code n ≡ true → P n
both P p1 p3 n e = go (ℕ_discrete n 1)
  where
    go : Dec (n ≡ 1) → P n
    go (yes q) = subst P (sym q) p1
    go (no d) = subst P (sym (three n e d)) p3

pub unit_offered : (n : ℕ) → unit_code n ≡ true → T (offered n)
unit_offered = both (λ n. T (offered n)) tt tt

pub record Sizes (word information tail : ℕ) : Type 0 where
  pub whole : word ≡ 2 * information
  pub some : 8 ≤ information
  pub few : information ≤ 32
  pub short : tail ≤ 16

pub sizes : (n : ℕ) → unit_code n ≡ true → Sizes (code n).octets_of_word (code n).octets_of_information (length (tail n))
unfolding code code1 code3 tail
sizes = both (λ n. Sizes (code n).octets_of_word (code n).octets_of_information (length (tail n)))
    (record { whole = refl; some = omega arith; few = omega arith; short = omega arith })
    (record { whole = refl; some = omega arith; few = omega arith; short = omega arith })

pub none_long : (l : List ℕ) → length l ≡ 0 → l ≡ []
none_long [] e = refl
none_long (x ∷ l) e = absurd (omega arith)
