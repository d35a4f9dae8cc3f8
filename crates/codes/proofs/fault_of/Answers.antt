-- `codes::fault_of`: a measured word is tested. Assumes nothing.
use mathlib.Core.Path.{ap, ◌∙◌}
use Rattle.rules.specs.Codes.{code}
use Rattle.rules.specs.Checks.{lowest}
use Rattle.refusals.proofs.Admitted.{word_long, fitting}
use Rattle.codes.proofs.fault_of.Goals as goal

pub lowest-requires : goal.lowest-requires
lowest-requires c =
    let k = c.args.received.code.known in
    let w = fitting (c.measure-sh.ensures.1 k.number k.offers k.is).lends.fit in
    (w.0, w.1, w.2, w.3)

pub returns : goal.returns
returns c =
    λ n off is.
    let e = c.measure-sh.ensures.1 n off is in (
      c.fault.ensures n off is c.args.received.word.now _ _ (word_long n is off c.args.received.whole) e,
      c.lowest.ensures _ _ _ e.lends.fit e.lends.lent e.held ∙ ap (lowest (code n)) e.bits,
    )
