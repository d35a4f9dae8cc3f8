-- `sizing::run`: a quiet word is left as it is. Assumes nothing.
use mathlib.Core.Path.{◌≡◌, refl, sym, ◌∙◌}
use Rattle.rules.specs.Checks.{broken}
use Rattle.answers.proofs.Differing.{differ_self}
use Rattle.vectors.specs.Vectors.{wbit}
use Rattle.layout.specs.Lent.{laid}
use Rattle.flipping.proofs.runs.Passing.{going_start, ends_quiet, runs_as}
use Rattle.flipping.proofs.runs.Sizes.{sized_quiet}
use Rattle.magnitudes.specs.Patterns.{smaller}
use Rattle.magnitudes.specs.Sizes.{by_size}
use Rattle.samples.proofs.sizing.run.Goals as goal

pub returns-then-first-eq0 : goal.returns-then-first-eq0
returns-then-first-eq0 c k w =
    let a = c.args in
    let sh = a.parity.shape in
    let y = wbit a.y.now in
    let way = by_size (smaller a.samples.now) k in
    let e = c.at_end.ensures in
    let none : broken k y ≡ 0 = sym w.broken ∙ c.if-first-eq0.true in
    record {
      runs = runs_as _ _ e.0 e.1
          (ends_quiet way k sh a.limit y 0 y (laid k sh y) (going_start way k sh a.limit y (laid k sh y) refl)
          (sized_quiet (smaller a.samples.now) k y none));
      last = e.2 ∙ sym none;
      differs = e.3 ∙ sym (differ_self k y);
    }
