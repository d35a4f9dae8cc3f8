-- `magnitudes::smallest_of`: what is left of the mask gives, from the best so far, what all of it gives. Assumes nothing.
use mathlib.Core.Path.{◌≡◌}
use mathlib.Core.Bool.{true}
use Prim.Native.Nat.{ℕ, ◌+◌, ◌-◌, ◌^◌, ◌<◌}
use lib.Count.{count_leading_zeros}
use lib.ListN.{length}
use Rattle.bits.specs.Bits.{digit}
use Rattle.magnitudes.specs.Patterns.{smaller}
use Rattle.magnitudes.specs.Sizes.{smallest}
use Rattle.magnitudes.proofs.Masks.{marks}
use Rattle.magnitudes.proofs.smallest_of.Given as goal

abbrev pub invariant-loop-left : goal.invariant-loop-left
invariant-loop-left l =
    (l.left < 2 ^ 64) × (l.best < length l.samples) × ((i : ℕ) → i < 64 → digit 64 l.left i ≡ true → l.first + i < length l.samples)
    × (smallest (smaller l.samples) (marks l.left l.first) l.best l.first 64 ≡ smallest (smaller l.samples)
    (marks l.mask l.first) l.bit l.first 64)

abbrev pub decreases-loop-left : goal.decreases-loop-left
decreases-loop-left l = 64 - count_leading_zeros 64 l.left
