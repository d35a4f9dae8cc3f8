-- `listing::measured_list`: the word is measured, and its list stands before the first flip. Assumes nothing.
use mathlib.Core.Path.{ap, ◌∙◌}
use Rattle.rules.specs.Codes.{code}
use Rattle.rules.specs.Checks.{broken}
use Rattle.refusals.proofs.Admitted.{fitting}
use Rattle.lists.proofs.listing.Writing.{starts}
use Rattle.lists.proofs.listing.measured_list.Goals as goal

pub lowest-lowest-requires : goal.lowest-lowest-requires
lowest-lowest-requires c =
    let k = c.args.received.code.known in
    fitting (c.measure-sh.ensures.1 k.number k.offers k.is).lends.fit

pub returns : goal.returns
returns c n off is =
    let e = c.measure-sh.ensures.1 n off is in
    let broke = c.broken-first.ensures (code n) _ _ _ e.lends.fit e.lends.lent e.held in
    let low = c.lowest-lowest.ensures (code n) _ _ e.lends.fit e.lends.lent e.held in
    let l = c.begun.ensures in (
      l.2 ∙ broke ∙ ap (broken (code n)) e.bits,
      λ room some. starts n off _ _ is c.args.received.whole _ room _ _ _ _ e c.measure-sh.ensures.0 _ _ broke low some _ l.5 l.4 l.2
          l.3
          l.1,
    )
