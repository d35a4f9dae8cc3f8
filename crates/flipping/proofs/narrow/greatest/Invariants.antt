-- `narrow::greatest`: after b passes it is the greatest of the first b scores. Assumes nothing.
use Rattle.flipping.specs.narrow.Weighing.{Greatest, scores_of}
use Rattle.flipping.proofs.narrow.greatest.Given as goal

abbrev pub invariant-loop-b : goal.invariant-loop-b
invariant-loop-b l = Greatest (scores_of l.levels) l.b l.p.score l.p.block
