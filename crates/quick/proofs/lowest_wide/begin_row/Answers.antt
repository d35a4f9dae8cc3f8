-- `quickwide::begin_row`: after k passes the first k beginnings are there. Assumes nothing.
use native.Mathlib.Omega.{arith}
use lib.ListN.{length-set}
use Rattle.quick.proofs.lowest_wide.Doubled.{one_begun}
use Rattle.quick.proofs.lowest_wide.begin_row.Goals as goal

pub loop-k-init : goal.loop-k-init
loop-k-init c = (omega arith, c.requires.1, λ j l. absurd (omega arith))

pub loop-k-preserved : goal.loop-k-preserved
loop-k-preserved c =
    let l = c.loop-k in
    let more = one_begun c.args.parity.shape c.args.parity.places.now c.args.r l.begins l.k (omega arith) l.invariant.2 in
    (omega arith, simp length-set l.invariant.1, more)

pub returns : goal.returns
returns c =
    let l = c.loop-k in
    λ k g. l.invariant.2 k (omega arith)
