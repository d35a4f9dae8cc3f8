-- `vectors::cut` meets its contract: the first k words have the bits, and what is past bit m is cleared at the end. Assumes
-- nothing.
use mathlib.Core.Path.{ap, ◌∙◌}
use native.Mathlib.Omega.{arith}
use Rattle.vectors.specs.Vectors.{wbit, from}
use Rattle.vectors.proofs.Filling.{filled_more}
use Rattle.vectors.proofs.cut.Goals as goal

pub loop-k-preserved : goal.loop-k-preserved
loop-k-preserved c =
    let a = c.args in
    let l = c.loop-k in
    let y = wbit a.y.now in
    filled_more a.v.now (from a.p y) l.v l.k l.invariant c.span.result (omega arith) (λ i hi. c.span.ensures i hi
    ∙ ap y (omega arith))
