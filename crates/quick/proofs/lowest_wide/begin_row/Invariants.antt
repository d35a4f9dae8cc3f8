-- `quickwide::begin_row`: after k passes the first k beginnings are there. Assumes nothing.
use mathlib.Core.Path.{◌≡◌}
use Prim.Native.Nat.{◌*◌, ◌≤◌}
use lib.ListN.{length}
use Rattle.quick.specs.groups.Groups.{Begun}
use Rattle.quick.proofs.lowest_wide.begin_row.Given as goal

abbrev pub invariant-loop-k : goal.invariant-loop-k
invariant-loop-k l =
    let sh = l.parity.shape in
    (l.k ≤ 2 * sh.blocks) × (length l.begins ≡ 2 * sh.blocks) × Begun l.k sh l.parity.places.now l.r l.begins
