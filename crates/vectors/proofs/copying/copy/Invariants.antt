-- `copying::copy`: what is copied so far agrees. Assumes nothing.
use mathlib.Core.Path.{◌≡◌}
use Prim.Native.Nat.{◌≤◌, ◌-◌}
use lib.ListN.{length, take}
use Rattle.vectors.proofs.copying.copy.Given as goal

abbrev pub invariant-loop-i : goal.invariant-loop-i
invariant-loop-i l = (l.i ≤ length l.octets) × (length l.out ≡ length l.initial.out) × (take l.i l.out ≡ take l.i l.octets)
