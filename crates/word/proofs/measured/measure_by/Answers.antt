-- `measured::measure_by`: the word taken, its table and its syndrome. Assumes nothing.
use mathlib.Core.Path.{◌∙◌}
use Rattle.rules.specs.Codes.{code}
use Rattle.catalogue.proofs.offer.Offers.{fixed}
use Rattle.word.proofs.measured.measure_by.Goals as goal

pub returns : goal.returns
returns c n off u e =
    let made = c.checks.ensures n off e in
    (made.0, record { lends = made.1; bits = c.take.ensures (code n) (u ∙ (fixed n off).unsent); held = made.2 })
