-- `nearest::syndrome` meets its contract: after n passes the checks are summed over the first n bits. Assumes nothing.
use Rattle.vectors.specs.Vectors.{wbit, Holds}
use Rattle.nearest.proofs.Quiet.{Partly}
use Rattle.nearest.proofs.syndrome.Given as goal

abbrev pub invariant-loop-n : goal.invariant-loop-n
invariant-loop-n l = Holds l.z (Partly (wbit l.y) l.n)
