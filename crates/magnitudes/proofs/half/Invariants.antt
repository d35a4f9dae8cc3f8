-- `magnitudes::half`: the bits of the first i samples are marked, and these are finite or not. Assumes nothing.
use mathlib.Core.Path.{◌≡◌}
use Prim.Native.Nat.{ℕ, ◌+◌, ◌<◌}
use Rattle.bits.specs.Bits.{digit, below}
use Rattle.vectors.specs.Vectors.{up_to, from}
use Rattle.magnitudes.specs.Patterns.{read, pattern_of, is_finite}
use Rattle.magnitudes.proofs.half.Given as goal

abbrev pub invariant-loop-i : goal.invariant-loop-i
invariant-loop-i l =
    ((j : ℕ) → j < 32 → digit 32 l.bits j ≡ up_to l.i (from l.at (read l.samples)) j)
    × (l.finite ≡ below l.i (λ j. is_finite (pattern_of l.samples (l.at + j))))
