-- `Places::gather` meets its contract: after b passes the starts of the first b blocks are there. Assumes nothing.
use mathlib.Core.Path.{◌∙◌}
use native.Mathlib.Omega.{arith}
use borrow.Author.Rules.{rules}
use lib.ListN.{length-set}
use Rattle.flipping.proofs.bounds.Entries.{gathered_more}
use Rattle.flipping.proofs.bounds.Places.gather.Goals as goal

pub loop-b-preserved : goal.loop-b-preserved
loop-b-preserved c =
    let l = c.loop-b in
    let i = l.invariant in
    let a = c.args in
    let g = c.gather in (
      i.0,
      search rules,
      length-set l.self.counts l.b g.result ∙ i.2,
      gathered_more a.parity.places.now a.parity.shape l.self.starts _ l.self.counts l.b g.result
          (omega (arith, a.parity.fit.blocks, i.2)) g.ensures.0 g.ensures.1 g.ensures.2 i.3,
    )
