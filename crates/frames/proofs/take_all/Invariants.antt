-- `frames::take_all`: each call leaves less of the part.
use Rattle.std.proofs.Common.{length}
use Rattle.frames.proofs.take_all.Given as goal

abbrev pub decreases-loop-rest : goal.decreases-loop-rest
decreases-loop-rest g l = length l.rest
