-- `magnitudes::read_whole`: after k passes the first k words have the samples' bits. Assumes nothing.
use mathlib.Core.Path.{◌≡◌}
use Prim.Native.Nat.{◌*◌}
use Rattle.bits.specs.Bits.{below}
use Rattle.vectors.proofs.Filling.{Filled}
use Rattle.magnitudes.specs.Patterns.{read, pattern_of, is_finite}
use Rattle.magnitudes.proofs.read_whole.Given as goal

abbrev pub invariant-loop-k : goal.invariant-loop-k
invariant-loop-k l =
    Filled l.initial.y (read l.samples) l.y l.k
    × (l.finite ≡ below (64 * l.k) (λ i. is_finite (pattern_of l.samples i)))
