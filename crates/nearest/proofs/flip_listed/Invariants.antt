-- `nearest::flip_listed` meets its contract: the bits from place k on are still to be flipped. Assumes nothing.
use mathlib.Core.Path.{◌≡◌}
use mathlib.Core.List.{List}
use Prim.Native.Nat.{ℕ}
use lib.ListN.{length, drop}
use Rattle.vectors.specs.Vectors.{wbit}
use Rattle.nearest.specs.Nearest.{flips}
use Rattle.nearest.specs.Answers.{flips_of}
use Rattle.nearest.proofs.flip_listed.Given as goal

abbrev pub invariant-loop-bit : goal.invariant-loop-bit
invariant-loop-bit l =
    (length l.y ≡ 3)
    × ((bits' : List ℕ) → l.fn.l ≡ flips_of bits' → flips bits' (wbit l.initial.y) ≡ flips (drop l.bit-index bits') (wbit l.y))
