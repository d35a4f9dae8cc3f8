-- `sizing::run_narrow`: the run, and the words as they were read beside those at its end. Assumes nothing.
use mathlib.Core.Path.{refl, ap, ◌∙◌}
use native.Mathlib.Omega.{arith}
use lib.ListN.{get_or}
use Rattle.std.proofs.lemmas.List.{get_or-take}
use Rattle.vectors.specs.Vectors.{wbit}
use Rattle.flipping.proofs.runs.Passing.{some_sent, runs_as}
use Rattle.magnitudes.specs.Patterns.{smaller}
use Rattle.samples.proofs.sizing.Beside.{narrow_few, differs_words}
use Rattle.samples.proofs.sizing.run_narrow.Goals as goal

pub returns : goal.returns
returns c k e =
    let a = c.args in
    let end = c.ended_narrow.ensures in
    let to = c.run_narrow-end.ensures k e in
    let few = narrow_few a.parity.shape a.parity.fit c.requires.3 c.requires.1 in
    record {
      runs = runs_as _ _ end.0 end.1 to.0;
      last = end.2 ∙ to.1;
      differs = end.3 ∙ differs_words (smaller a.samples.now) k (some_sent e.lent c.requires.0 a.parity.fit.some e.unsent)
          a.limit _ (wbit a.y.now) _ _ a.y.now (omega (arith, e.lent.bits_are, c.requires.1)) (omega (arith, few))
          (λ j l. ap (λ x. get_or x j 0) c.copy_from_slice.ensures.after ∙ get_or-take 16 a.y.now j 0 l) refl to.0.word;
    }
