-- `raising::broken_of`: a check more at each pass. Assumes nothing.
use mathlib.Core.Path.{◌≡◌}
use Prim.Native.Nat.{◌≤◌}
use Rattle.vectors.specs.Vectors.{wbit}
use Rattle.flipping.specs.bounds.Reading.{hits}
use Rattle.samples.proofs.raising.broken_of.Given as goal

abbrev pub invariant-loop-e : goal.invariant-loop-e
invariant-loop-e l = (l.e ≤ l.n) × (l.broken ≤ l.e) × (l.broken ≡ hits (wbit l.d) l.starts l.from l.e l.k)
