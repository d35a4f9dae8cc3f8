-- `wideparity::invert_row` meets its contract: the words before word k are inverted. Assumes nothing.
use mathlib.Core.Path.{◌≡◌}
use mathlib.Core.Bool.{Bool}
use Prim.Native.Nat.{◌*◌}
use Rattle.vectors.specs.Vectors.{wbit, Holds, up_to, added}
use Rattle.encoder.proofs.wideparity.invert_row.Given as goal

abbrev pub invariant-loop-k : goal.invariant-loop-k
invariant-loop-k l =
    (b : Bool) → Holds l.v (λ i. b) → wbit l.z ≡ added (wbit l.initial.z) (512 * l.r) (64 * l.k) (up_to 511 (λ i. b))
