-- `bounds::row` meets its contract: after k passes the first k words are those of the row, and what is past bit m is cleared at the end.
-- Assumes nothing.
use Prim.Native.Nat.{◌*◌, ◌≤◌}
use Rattle.vectors.specs.Vectors.{wbit, from}
use Rattle.vectors.proofs.Filling.{Filled}
use Rattle.flipping.proofs.bounds.row.Given as goal

abbrev pub invariant-loop-k : goal.invariant-loop-k
invariant-loop-k l = (l.k ≤ l.words) × Filled l.initial.v (from (64 * l.at) (wbit l.z)) l.v l.k
