use Rattle.why.proofs.follow.Goals as goal

pub loop-l-preserved : goal.loop-l-preserved
loop-l-preserved g c = c.next-l.ensures.1 _ _ 511 c.loop-l.invariant
