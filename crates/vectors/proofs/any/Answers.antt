-- `vectors::any` meets its contract: v is 0 just if the words so far are. Assumes nothing.
use Rattle.vectors.proofs.Counts.{seen_none, seen_more}
use Rattle.vectors.proofs.any.Goals as goal

pub loop-word-init : goal.loop-word-init
loop-word-init c = seen_none c.args.ws.now

pub loop-word-preserved : goal.loop-word-preserved
loop-word-preserved c =
    let a = c.args in
    let l = c.loop-word in
    seen_more a.ws.now l.v l.word-index (c.type_inv.ws l.word-index).fits l.invariant
