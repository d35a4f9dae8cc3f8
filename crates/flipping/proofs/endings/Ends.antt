-- A run on a received word: what its start asks for, and what is known of the word at its end.
use mathlib.Core.Path.{◌≡◌, ap, ◌∙◌}
use mathlib.Core.List.{List}
use Prim.Native.Nat.{ℕ, ◌<◌}
use lib.ListN.{length}
use native.Mathlib.Omega.{arith}
use Rattle.bits.specs.Bits.{Word}
use Rattle.rules.specs.Codes.{Code, code, bits}
use Rattle.rules.specs.Checks.{broken}
use Rattle.rules.specs.Encoding.{lifted}
use Rattle.rules.specs.Flipping.{by_excess, run}
use Rattle.answers.specs.Calls.{differing}
use Rattle.rules.proofs.Choosing.{by_excess_lem}
use Rattle.rules.proofs.Codewords.{lifted_unsent}
use Rattle.answers.proofs.Refusals.{unsent_stay}
use Rattle.answers.proofs.Differing.{differ_self}
use Rattle.answers.proofs.Unlike.{run_near}
use Rattle.layout.specs.declared.Shape.{Shape}
use Rattle.layout.specs.Lent.{Fit, Lent, laid}
use Rattle.word.specs.measured.Measured.{Measured}
use Rattle.flipping.specs.runs.Passes.{Begins, Beginning}
use Rattle.flipping.specs.endings.Ends.{EndsAt}

-- the word at the end of a run
pub ends_at : (c : Code) → c.unsent < bits c → (received end : Word) (limit flips : ℕ)
    → end ≡ (run (by_excess c) limit (lifted c received)).word
    → flips ≡ length (run (by_excess c) limit (lifted c received)).flips → EndsAt c received end flips
ends_at c some received end limit flips e f =
    let x = lifted c received in
    let near = run_near (by_excess_lem c some) x limit x in
    let d : differing c x end ≡ differing c x (run (by_excess c) limit x).word = ap (differing c x) e in
    record {
      within = omega (arith, near.most, differ_self c x, d, f);
      even = omega (arith, near.even, differ_self c x, d, f);
      unsent = λ k h. ap (λ z. z k) e ∙ unsent_stay c (by_excess_lem c some) limit x (lifted_unsent c received) k h;
    }

module _ (n : ℕ) (word h : List ℕ) (y z : Word) (sh : Shape) (m : Measured n word h y z sh)
    (first : ℕ) (counted : (c : Code) (h : List ℕ) (sh : Shape) (x : Word) → Fit h sh → Lent c h sh → z ≡ laid c sh x
    → first ≡ broken c x) where
  pub begins : (from : ℕ) → (code n).unsent ≡ from → Begins (code n) h sh from first y z
  begins from e = record {
    lent = m.lends.lent;
    unsent = e;
    held = m.held;
    broken = counted (code n) h sh y m.lends.fit
        m.lends.lent m.held;
  }

  pub beginning : (from : ℕ) → (code n).unsent ≡ from → Beginning h sh from first y z
  beginning from e = record { code = code n; begins = begins from e }
