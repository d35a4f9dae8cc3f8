-- `narrow::smallest_peak`: block after block. Assumes nothing.
use mathlib.Core.Path.{◌≡◌}
use mathlib.Core.Bool.{Bool}
use Prim.Native.Nat.{ℕ, ◌*◌, ◌<◌}
use lib.ListN.{length}
use Rattle.magnitudes.specs.Patterns.{smaller}
use Rattle.magnitudes.specs.Sizes.{smallest}
use Rattle.flipping.specs.narrow.Weighing.{Marks, scores_of, masks_of}
use Rattle.flipping.proofs.narrow.smallest_peak.Given as goal

abbrev pub invariant-loop-b : goal.invariant-loop-b
invariant-loop-b l =
    (l.best < length l.samples)
    × ((marked : ℕ → Bool) → Marks marked l.sh (scores_of l.levels) (masks_of l.levels) l.top
    → l.best ≡ smallest (smaller l.samples) marked l.bit 0 (l.b * l.sh.size))
