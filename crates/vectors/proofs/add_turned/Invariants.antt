-- `vectors::add_turned` meets its contract: the words before word at + j have their sums. Assumes nothing.
use Prim.Native.Nat.{◌+◌, ◌*◌}
use Rattle.vectors.specs.Vectors.{wbit, from, added}
use Rattle.vectors.proofs.Filling.{Filled}
use Rattle.vectors.proofs.add_turned.Given as goal

abbrev pub invariant-loop-j : goal.invariant-loop-j
invariant-loop-j l =
    Filled l.initial.acc (added (wbit l.initial.acc) (64 * l.at) (64 * (l.at + l.w)) (from l.s (wbit l.d))) l.acc (l.at + l.j)
