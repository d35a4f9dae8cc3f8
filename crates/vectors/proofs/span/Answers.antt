-- `vectors::span` meets its contract: two neighbours hold what the list holds there. Assumes nothing.
use mathlib.Core.Path.{◌∙◌}
use Rattle.vectors.proofs.Spans.{neighbours}
use Rattle.vectors.proofs.span.Goals as goal

pub returns : goal.returns
returns c =
    let a = c.args in
    λ i hi. c.funnel.ensures i hi ∙ neighbours a.y.now a.q a.t i c.requires.1 hi
