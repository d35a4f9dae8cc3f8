-- `exporting::put_blocks`: the blocks so far are the first ones. Assumes nothing.
use mathlib.Core.Path.{◌≡◌}
use Prim.Native.Nat.{◌≤◌, ◌*◌}
use lib.ListN.{length, take}
use Rattle.blocks.specs.Blocks.{exported}
use Rattle.blocks.proofs.exporting.put_blocks.Given as goal

abbrev pub invariant-loop-k : goal.invariant-loop-k
invariant-loop-k l = (l.k ≤ l.n) × (length l.out ≡ 512 * l.n) × (take (512 * l.k) l.out ≡ exported l.k 0 l.octets)
