-- `taker::search`: a call on the whole part goes on as a call on the rest. Assumes nothing.
use Prim.Native.Nat.{◌-◌, ◌≤◌, ◌<◌}
use lib.ListN.{length}
use Rattle.telemetry.specs.taker.Taking.{GoesOn}
use Rattle.telemetry.proofs.taker.search.Given as goal

abbrev pub invariant-loop-i : goal.invariant-loop-i
invariant-loop-i l = (l.i ≤ length l.part) × (l.m < 4) × GoesOn l.part 0 l.place l.i l.m

abbrev pub decreases-loop-i : goal.decreases-loop-i
decreases-loop-i l = length l.part - l.i
