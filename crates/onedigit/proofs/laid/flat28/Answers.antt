-- `onedigit::laid::flat28`: word i of the flat list is the one that it is for. Assumes nothing.
use mathlib.Core.Path.{refl}
use native.Mathlib.Omega.{arith}
use borrow.Author.Rules.{rules}
use Rattle.catalogue.proofs.tables.Listed.{filled_all}
use Rattle.onedigit.specs.Laid.{words28}
use Rattle.onedigit.proofs.Filling.{filled_more}
use Rattle.onedigit.proofs.laid.flat28.Goals as goal

pub loop-i-init : goal.loop-i-init
loop-i-init c = record { below = omega arith; long = search rules; places = λ j l. absurd (omega arith) }

pub loop-i-preserved : goal.loop-i-preserved
loop-i-preserved c =
    let k = c.loop-i in
    filled_more 224 _ k.g k.i k.invariant (omega arith) refl

pub returns : goal.returns
unfolding words28
returns c = filled_all 224 _ c.loop-i.g c.loop-i.i c.loop-i.invariant (omega arith)
