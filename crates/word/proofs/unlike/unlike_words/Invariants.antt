-- `unlike::unlike_words`: sum counts the first j words. Assumes nothing.
use mathlib.Core.Path.{◌≡◌}
use Prim.Native.Nat.{◌*◌, ◌≤◌}
use Rattle.bits.specs.Bits.{count, ◌⊕◌}
use Rattle.vectors.specs.Vectors.{wbit}
use Rattle.word.proofs.unlike.unlike_words.Given as goal

abbrev pub invariant-loop-j : goal.invariant-loop-j
invariant-loop-j l = (l.sum ≡ count (64 * l.j) (λ i. wbit l.x i ⊕ wbit l.y i)) × (l.sum ≤ 64 * l.j)
