-- `vectors::cut` meets its contract: the first k words have the bits, and what is past bit m is cleared at the end. Assumes
-- nothing.
use Rattle.vectors.specs.Vectors.{wbit, from}
use Rattle.vectors.proofs.Filling.{Filled}
use Rattle.vectors.proofs.cut.Given as goal

abbrev pub invariant-loop-k : goal.invariant-loop-k
invariant-loop-k l = Filled l.initial.v (from l.p (wbit l.y)) l.v l.k
