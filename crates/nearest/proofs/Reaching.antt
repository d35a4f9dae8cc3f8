-- The answer, case by case. Assumes nothing.
use mathlib.Core.Path.{◌≡◌, refl, sym, ap, ap₂, ◌∙◌, subst, fun_ext}
use mathlib.Core.Bool.{true}
use mathlib.Core.List.{List}
use Prim.Native.Nat.{ℕ, ◌≤◌, ◌<◌}
use native.Mathlib.Nat.{zero-add}
use native.Mathlib.Omega.{arith}
use lib.ListN.{length}
use borrow.Author.Tests.{lt-ltb, le-ltb}
use Rattle.bits.specs.Bits.{Word, bit, when◌then◌else◌}
use Rattle.vectors.specs.Vectors.{from}
use Rattle.answers.specs.Calls.{refusal, unless}
use Rattle.answers.proofs.Answers.{Right, unless_refused, unless_taken, unless_cases, refusal_not, refusal_right}
use Rattle.nearest.specs.Nearest.{Found, none, list, Reached, refused, found, searched, reached, nearest_answer}
use Rattle.std.specs.Prelude.{Some, None}
use Rattle.nearest.specs.Answers.{flips_of, held, HandedOut}
use Rattle.nearest.specs.declared.Flips.{Flips}

-- ---- refused by a length, by the reach, or searched

module _ (word : List ℕ) (reach : ℕ) (out : List ℕ) where
  abbrev by : ℕ → Reached
  by k = unless k (λ number. refused number out) (reached word reach out)

  pub nearest_refused : (k : ℕ) → k ≡ refusal true (length word) 16 (length out) 16 → (k ≡ 0 → ⊥)
      → nearest_answer word reach out ≡ refused k out
  unfolding nearest_answer
  nearest_refused k e d = ap by (sym e) ∙ unless_refused (λ number. refused number out) (reached word reach out) k d

  right : length word ≡ 16 → length out ≡ 16 → nearest_answer word reach out ≡ reached word reach out
  unfolding nearest_answer
  right e f = unless_taken (λ number. refused number out) (reached word reach out) (refusal true (length word) 16 (length out) 16)
      (refusal_not true (length word) 16 (length out) 16 tt e f)

  -- the lengths of a call that is not refused by them
  pub nearest_right : {k : ℕ} → k ≡ refusal true (length word) 16 (length out) 16 → k ≡ 0 → Right true (length word) 16 (length out) 16
  nearest_right e z = refusal_right true (length word) 16 (length out) 16 (sym e ∙ z)

  pub nearest_cases : (P : Reached → Type 0) → ((k : ℕ) → 1 ≤ k → P (refused k out))
      → (length word ≡ 16 → length out ≡ 16 → P (nearest_answer word reach out)) → P (nearest_answer word reach out)
  unfolding nearest_answer
  nearest_cases P p q = unless_cases true (length word) 16 (length out) 16 P (λ number. refused number out) (reached word reach out)
      (p 1 (omega arith)) (p 2 (omega arith)) (p 3 (omega arith)) (λ t e f. subst P (right e f) (q e f))

  pub nearest_eighteen : length word ≡ 16 → length out ≡ 16 → 3 < reach → nearest_answer word reach out ≡ refused 18 out
  nearest_eighteen e f h = right e f ∙ ap (λ b. when b then refused 18 out else searched reach (bit word) out) (lt-ltb 3 reach h)

  pub nearest_searched : length word ≡ 16 → length out ≡ 16 → reach ≤ 3 → nearest_answer word reach out ≡ searched reach (bit word) out
  nearest_searched e f h = right e f ∙ ap (λ b. when b then refused 18 out else searched reach (bit word) out) (le-ltb 3 reach h)

-- ---- what was searched

pub from_first : (y : Word) → from 0 y ≡ y
from_first y = fun_ext (λ n. ap y (zero-add n))

module _ (x : Word) (out : List ℕ) (f : Found) where
  pub found_none : None ≡ held f → refused 17 out ≡ found x out f
  unfolding held found
  found_none is = go f is
    where
      go : (f : Found) → None ≡ held f → refused 17 out ≡ found x out f
      go none q = refl
      go (list bits) q = cc

  pub found_list : (l : Flips) → Some l ≡ held f → (out' : List ℕ) → HandedOut l x out'
      → record { number = 0; least = l.count; bits = l.bits; out = out' } ≡ found x out f
  unfolding held found
  found_list l is out' t = go f is
    where
      go : (f : Found) → Some l ≡ held f → record { number = 0; least = l.count; bits = l.bits; out = out' } ≡ found x out f
      go none q = cc
      go (list bits) q =
          let e : l ≡ flips_of bits = cc in
          ap₂ (λ (z : Flips) o. record { number = 0; least = z.count; bits = z.bits; out = o }) e (t bits e)
