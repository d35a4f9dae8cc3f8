-- `samples::load`: a pattern more at each pass. Assumes nothing.
use mathlib.Core.Path.{◌≡◌}
use Prim.Native.Nat.{ℕ, ◌<◌}
use lib.Ieee.{of_bits, binary32}
use lib.ListN.{length}
use Rattle.magnitudes.specs.Samples.{sample_of}
use Rattle.magnitudes.specs.Patterns.{pattern_of}
use Rattle.samples.proofs.load.Given as goal

abbrev pub invariant-loop-i : goal.invariant-loop-i
invariant-loop-i l =
    (length l.patterns ≡ length l.initial.patterns)
    × ((j : ℕ) → j < l.i → of_bits binary32 (pattern_of l.patterns j) ≡ sample_of l.samples j)
