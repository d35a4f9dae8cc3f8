-- `importing::take_data`: the data so far is that of the first blocks. Assumes nothing.
use mathlib.Core.Path.{◌≡◌}
use Prim.Native.Nat.{◌≤◌}
use lib.ListN.{length, take}
use Rattle.blocks.specs.Blocks.{imported}
use Rattle.blocks.proofs.importing.take_data.Given as goal

abbrev pub invariant-loop-k : goal.invariant-loop-k
invariant-loop-k l = (l.k ≤ l.n) × (length l.out ≡ length (imported l.n l.blocks)) × (l.end ≡ length (imported l.k l.blocks))
    × (take l.end l.out ≡ imported l.k l.blocks)
