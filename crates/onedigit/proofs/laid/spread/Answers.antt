-- `onedigit::laid::spread`: place i of the list is the one that it is for. Assumes nothing.
use native.Mathlib.Omega.{arith}
use borrow.Author.Rules.{rules}
use Rattle.catalogue.proofs.tables.Listed.{filled_all}
use Rattle.onedigit.specs.Laid.{threes}
use Rattle.onedigit.proofs.Filling.{filled_more}
use Rattle.onedigit.proofs.laid.spread.Goals as goal

pub loop-i-init : goal.loop-i-init
loop-i-init c = record { below = omega arith; long = search rules; places = λ j l. absurd (omega arith) }

pub loop-i-preserved : goal.loop-i-preserved
loop-i-preserved c =
    let k = c.loop-i in
    filled_more 96 _ k.p k.i k.invariant (omega arith) c.place.ensures

pub returns : goal.returns
unfolding threes
returns c = filled_all 96 _ c.loop-i.p c.loop-i.i c.loop-i.invariant (omega arith)
