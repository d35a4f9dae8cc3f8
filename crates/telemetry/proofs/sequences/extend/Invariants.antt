-- `telemetry::extend`: each octet is the sum of two before it. Assumes nothing.
use mathlib.Core.Path.{◌≡◌}
use Prim.Native.Nat.{◌≤◌}
use lib.ListN.{length}
use Rattle.telemetry.specs.sequences.Telemetry.{Begins}
use Rattle.telemetry.proofs.sequences.extend.Given as goal

abbrev pub invariant-loop-i : goal.invariant-loop-i
invariant-loop-i l = (136 ≤ l.i) × (l.i ≤ length l.initial.octets) × (length l.octets ≡ length l.initial.octets) × Begins l.i l.octets
