-- `quicknarrow::narrow_group`: after b passes the first b blocks were added. Assumes nothing.
use Prim.Native.Nat.{◌*◌, ◌≤◌}
use Rattle.vectors.specs.Vectors.{wbit}
use Rattle.quick.specs.groups.Groups.{Has, group}
use Rattle.quick.proofs.lowest_narrow.narrow_group.Given as goal

abbrev pub invariant-loop-b : goal.invariant-loop-b
invariant-loop-b l =
    let sh = l.parity.shape in
    (l.b ≤ sh.blocks) × Has sh.size l.v (group sh l.parity.places.now (wbit l.y) l.r (2 * l.b))
