-- `vectors::skip` meets its contract: no bit of the words so far is set. Assumes nothing.
use Prim.Native.Nat.{◌*◌}
use Rattle.vectors.specs.Vectors.{Clear}
use Rattle.vectors.proofs.skip.Given as goal

abbrev pub invariant-loop-j : goal.invariant-loop-j
invariant-loop-j l = Clear l.ws (4 * l.j)
