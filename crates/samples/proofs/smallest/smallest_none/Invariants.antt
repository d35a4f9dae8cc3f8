-- `smallest::smallest_none`: 64 bits more at each pass, all four windows of them at once. Assumes nothing.
use Prim.Native.Nat.{◌+◌, ◌-◌, ◌≤◌}
use Rattle.vectors.specs.Vectors.{wbit}
use Rattle.samples.specs.smallest.Settling.{Lightest}
use Rattle.samples.proofs.smallest.smallest_none.Given as goal

abbrev pub invariant-loop-at : goal.invariant-loop-at
invariant-loop-at l =
    (l.at ≤ l.m + 63) × Lightest l.samples (wbit l.d) l.starts l.from 4 0 l.m l.first l.at l.best

abbrev pub decreases-loop-at : goal.decreases-loop-at
decreases-loop-at l = l.m - l.at
