-- `vectors::lift` meets its contract: `before` is the word before word k, as it was. Assumes nothing.
use native.Mathlib.Omega.{arith}
use lib.ListN.{get_or}
use Rattle.vectors.specs.Vectors.{wbit, later}
use Rattle.vectors.proofs.Filling.{filled_next, filled_more}
use Rattle.vectors.proofs.Spans.{later_holds, later_next}
use Rattle.vectors.proofs.lift.Goals as goal

pub loop-word-preserved : goal.loop-word-preserved
loop-word-preserved c =
    let a = c.args in
    let l = c.loop-word in
    let y = wbit a.ws.now in
    let x = later a.u y in
    let v = get_or l.ws l.word-index 0 in
    let h = filled_next a.ws.now x l.ws l.word-index l.invariant.1 in (
      later_next v l.word-index y h,
      filled_more a.ws.now x l.ws l.word-index l.invariant.1 c.funnel.result (omega arith)
          (later_holds l.before v l.word-index a.u c.funnel.result y (omega arith) c.requires.0 l.invariant.0 h c.funnel.ensures),
    )
