-- `runs::run`: a quiet word is left as it is. Assumes nothing.
use mathlib.Core.Path.{◌≡◌, refl, sym, ◌∙◌}
use native.Mathlib.Omega.{arith}
use borrow.Author.Rules.{rules}
use Rattle.rules.specs.Checks.{broken}
use Rattle.rules.specs.Flipping.{by_excess}
use Rattle.rules.proofs.Choosing.{quiet_next}
use Rattle.vectors.specs.Vectors.{wbit}
use Rattle.layout.specs.Lent.{laid}
use Rattle.flipping.proofs.runs.Passing.{going_start, ends_quiet, runs_as}
use Rattle.flipping.proofs.runs.Sizes.{equal_runs}
use Rattle.flipping.proofs.runs.run.Goals as goal

pub returns-then-first-eq0 : goal.returns-then-first-eq0
returns-then-first-eq0 c k b =
    let a = c.args in
    let y = wbit a.y.now in
    let none : broken k y ≡ 0 = sym b.broken ∙ c.if-first-eq0.true in (
      runs_as _ _ c.at_end.ensures.0 c.at_end.ensures.1
          (ends_quiet (by_excess k) k a.parity.shape a.limit y 0 y (laid k a.parity.shape y)
          (going_start (by_excess k) k a.parity.shape a.limit y (laid k a.parity.shape y) refl) (quiet_next k y none)),
      c.at_end.ensures.2 ∙ sym none,
    )

pub run_narrow-requires : goal.run_narrow-requires
run_narrow-requires c =
    (c.requires.0, c.requires.1, λ some. absurd (omega arith), c.requires.2, search rules)

pub returns-then-parity-eq1 : goal.returns-then-parity-eq1
returns-then-parity-eq1 c k b =
    let to = c.run_narrow.ensures k b in
    (equal_runs to.0, to.1)
