-- `telemetry::add_first`: what is done so far is randomised, and the rest is as it was. Assumes nothing.
use mathlib.Core.Path.{◌≡◌}
use mathlib.Core.List.{◌++◌}
use Prim.Native.Nat.{◌*◌}
use lib.ListN.{take, drop}
use Rattle.randomiser.specs.Randomiser.{randomised}
use Rattle.telemetry.specs.sequences.Telemetry.{telemetry}
use Rattle.telemetry.proofs.sequences.add_first.Given as goal

abbrev pub invariant-loop-k : goal.invariant-loop-k
invariant-loop-k l = l.word ≡ randomised telemetry 0 (take (255 * l.k) l.initial.word) ++ drop (255 * l.k) l.initial.word
