-- `bounds::raise` meets its contract: the first b numbers are so many fewer. Assumes nothing.
use mathlib.Core.Path.{◌≡◌}
use Prim.Native.Nat.{ℕ, ◌-◌, ◌≤◌, ◌<◌}
use lib.ListN.{length, get_or}
use Rattle.flipping.proofs.bounds.raise.Given as goal

abbrev pub invariant-loop-m : goal.invariant-loop-m
invariant-loop-m l =
    (l.m-index ≤ 16) × (length l.met ≡ 16) × ((i : ℕ) → i < l.m-index → get_or l.met i 0 ≡ get_or l.initial.met i 0 - l.by)
    × ((i : ℕ) → l.m-index ≤ i → get_or l.met i 0 ≡ get_or l.initial.met i 0)
