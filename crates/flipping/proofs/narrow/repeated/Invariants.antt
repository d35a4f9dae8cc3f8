-- `narrow::repeated`: in each pass the row stands twice as often. Assumes nothing.
use mathlib.Core.Path.{◌≡◌}
use Prim.Native.Nat.{◌-◌, ◌%◌, ◌^◌, ◌≤◌, ◌<◌}
use Rattle.bits.specs.Bits.{Word}
use Rattle.vectors.specs.Vectors.{Holds, up_to}
use Rattle.flipping.specs.narrow.Weighing.{around}
use Rattle.flipping.proofs.narrow.repeated.Given as goal

abbrev pub invariant-loop-n : goal.invariant-loop-n
invariant-loop-n l =
    (1 ≤ l.n) × (l.n < 128) × (l.n % l.m ≡ 0) × (l.all < 2 ^ 64)
    × ((f : Word) → Holds l.v (up_to l.m f) → Holds l.all (up_to l.n (around l.m f)))

abbrev pub decreases-loop-n : goal.decreases-loop-n
decreases-loop-n l = 128 - l.n
