-- `vectors::ones` meets its contract: n counts the bits of the words so far. Assumes nothing.
use mathlib.Core.Path.{◌≡◌}
use Prim.Native.Nat.{◌*◌}
use Rattle.bits.specs.Bits.{count}
use Rattle.vectors.specs.Vectors.{wbit}
use Rattle.vectors.proofs.ones.Given as goal

abbrev pub invariant-loop-word : goal.invariant-loop-word
invariant-loop-word l = (l.n ≡ count (64 * l.word-index) (wbit l.ws))
