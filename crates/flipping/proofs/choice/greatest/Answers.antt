-- `choice::greatest` meets its contract: the greatest bound of the first b blocks. Assumes nothing.
use mathlib.Core.Path.{ap₂, ◌∙◌}
use Prim.Native.Nat.{max}
use native.Mathlib.Omega.{arith}
use Rattle.flipping.proofs.choice.Searches.{highest_none, highest_more}
use Rattle.flipping.proofs.choice.greatest.Goals as goal

pub loop-b-init : goal.loop-b-init
loop-b-init c = highest_none c.args.counts.now c.args.met.now

pub bound_of-requires : goal.bound_of-requires
bound_of-requires c =
    let small = c.requires.2 c.loop-b.b (omega arith) in
    (omega arith, omega arith, small.0, small.1)

pub loop-b-preserved : goal.loop-b-preserved
loop-b-preserved c =
    let l = c.loop-b in
    let a = c.args in
    highest_more a.counts.now a.met.now l.b c.max-top.result (c.max-top.ensures ∙ ap₂ max l.invariant c.bound_of.ensures)
