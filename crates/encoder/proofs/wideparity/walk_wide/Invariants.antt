-- `wideparity::walk_wide` meets its contract: after k passes the first k steps are taken. Assumes nothing.
use mathlib.Core.Path.{◌≡◌}
use Prim.Native.Nat.{ℕ}
use Rattle.bits.specs.Bits.{Word}
use Rattle.vectors.specs.Vectors.{wbit}
use Rattle.encoder.specs.steps.Steps.{walked}
use Rattle.encoder.specs.parityrows.Rows.{held, Kept, steps_of}
use Rattle.encoder.proofs.wideparity.walk_wide.Given as goal

abbrev pub invariant-loop-step : goal.invariant-loop-step
invariant-loop-step l =
    Kept l.sh (wbit l.z) × (steps_of l.sh.size ≡ l.step-items)
    × ((f : ℕ → Word) → wbit l.initial.z ≡ held l.sh f → wbit l.z ≡ held l.sh (walked l.sh.size (steps_of l.sh.size) l.step-index f))
