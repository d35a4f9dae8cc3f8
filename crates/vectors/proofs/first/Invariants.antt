-- `vectors::first` meets its contract: no bit of the words so far is set. Assumes nothing.
use Rattle.vectors.specs.Vectors.{Clear}
use Rattle.vectors.proofs.first.Given as goal

abbrev pub invariant-loop-k : goal.invariant-loop-k
invariant-loop-k l = Clear l.ws l.k
