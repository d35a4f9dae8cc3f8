-- `vectors::funnel` meets its contract. Assumes nothing.
use native.Mathlib.Omega.{arith}
use Rattle.vectors.proofs.Spans.{funnel_none, funnel_holds}
use Rattle.vectors.proofs.funnel.Goals as goal

pub returns-then-t-eq0 : goal.returns-then-t-eq0
returns-then-t-eq0 c =
    funnel_none c.args.a c.args.b c.args.t c.requires c.ranges.b.fits (omega arith)

pub returns : goal.returns
returns c =
    funnel_holds c.args.a c.args.b c.args.t c.requires c.ranges.b.fits
