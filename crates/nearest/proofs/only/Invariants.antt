-- `nearest::only` meets its contract: no bit before n has the column. Assumes nothing.
use mathlib.Core.Path.{◌≡◌}
use Prim.Native.Nat.{◌-◌}
use Rattle.nearest.specs.Answers.{lowest_from}
use Rattle.nearest.proofs.only.Given as goal

abbrev pub invariant-loop-n : goal.invariant-loop-n
invariant-loop-n l = lowest_from (128 - l.from) l.from l.z ≡ lowest_from (128 - l.n) l.n l.z
