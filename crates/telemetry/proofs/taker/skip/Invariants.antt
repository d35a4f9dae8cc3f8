-- `taker::skip`: an octet that begins no marker leaves the taker as it is. Assumes nothing.
use Prim.Native.Nat.{◌≤◌}
use lib.ListN.{length}
use Rattle.telemetry.specs.taker.Taking.{GoesOn}
use Rattle.telemetry.proofs.taker.skip.Given as goal

abbrev pub invariant-loop-i : goal.invariant-loop-i
invariant-loop-i l =
    (l.from ≤ l.i) × (l.i ≤ length l.part) × GoesOn l.part l.from 0 l.i 0
