-- `importing::first_fault`: the blocks that are left have the first fault of all. Assumes nothing.
use mathlib.Core.Path.{◌≡◌}
use Prim.Native.Nat.{◌≤◌, ◌-◌, ◌*◌}
use lib.ListN.{drop}
use Rattle.blocks.specs.Blocks.{first_fault_of}
use Rattle.blocks.proofs.importing.first_fault.Given as goal

abbrev pub invariant-loop-k : goal.invariant-loop-k
invariant-loop-k l = (l.k ≤ l.n) × (first_fault_of (l.n - l.k) l.k (drop (512 * l.k) l.blocks) ≡ first_fault_of l.n 0 l.blocks)
