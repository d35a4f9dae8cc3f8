-- `quickwide::first_group`: after k passes the first k places were added. Assumes nothing.
use mathlib.Core.Path.{◌≡◌}
use Prim.Native.Nat.{◌*◌, ◌≤◌}
use Rattle.bits.specs.Bits.{bit}
use Rattle.rules.specs.Codes.{Code}
use Rattle.rules.specs.Encoding.{lifted}
use Rattle.quick.specs.groups.Groups.{Has, group}
use Rattle.quick.proofs.lowest_wide.first_group.Given as goal

abbrev pub invariant-loop-k : goal.invariant-loop-k
invariant-loop-k l =
    let sh = l.parity.shape in
    (l.k ≤ 2 * sh.blocks)
    × ((c : Code) → l.sent.unsent ≡ c.unsent → Has 64 l.v (group sh l.parity.places.now (lifted c (bit l.sent.octets.now)) 0 l.k))
