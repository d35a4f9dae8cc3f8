-- `codes::check_taken`: the word is measured, and its broken checks are counted. Assumes nothing.
use mathlib.Core.Path.{ap, ap₂, ◌∙◌}
use Rattle.rules.specs.Codes.{code}
use Rattle.rules.specs.Checks.{broken, lowest}
use Rattle.refusals.proofs.Admitted.{fitting}
use Rattle.codes.proofs.check_taken.Goals as goal

pub lowest-requires : goal.lowest-requires
lowest-requires c =
    let k = c.args.received.code.known in
    let w = fitting (c.measure-sh.ensures.1 k.number k.offers k.is).lends.fit in
    (w.0, w.1, w.2, w.3)

pub returns : goal.returns
returns c n off is =
    let e = c.measure-sh.ensures.1 n off is in
    ap₂ (λ z l. record { number = 0; broken = z; lowest = l }) (c.broken.ensures _ _ _ _ e.lends.fit e.lends.lent e.held
    ∙ ap (broken (code n)) e.bits)
    (c.lowest.ensures _ _ _ e.lends.fit e.lends.lent e.held ∙ ap (lowest (code n)) e.bits)
