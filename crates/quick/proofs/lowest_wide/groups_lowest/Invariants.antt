-- `quickwide::groups_lowest`: no check of the groups so far is broken. Assumes nothing.
use mathlib.Core.Path.{◌≡◌}
use mathlib.Core.Bool.{false}
use Prim.Native.Nat.{ℕ, ◌*◌, ◌<◌}
use Rattle.vectors.specs.Vectors.{wbit}
use Rattle.quick.specs.groups.Groups.{behind}
use Rattle.quick.proofs.lowest_wide.groups_lowest.Given as goal

abbrev pub invariant-loop-g : goal.invariant-loop-g
invariant-loop-g l = (i : ℕ) → i < 64 * l.g → behind l.begins (wbit l.d) i ≡ false
