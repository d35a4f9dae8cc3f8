-- `unlike::apart_whole`: sum counts the first j words.  Assumes nothing.
use mathlib.Core.Path.{◌≡◌}
use Prim.Native.Nat.{◌+◌, ◌*◌, ◌≤◌}
use Rattle.bits.specs.Bits.{bit, count, ◌⊕◌}
use Rattle.vectors.specs.Vectors.{wbit}
use Rattle.word.proofs.unlike.apart_whole.Given as goal

abbrev pub invariant-loop-j : goal.invariant-loop-j
invariant-loop-j l = (l.sum ≡ count (64 * l.j) (λ i. bit l.octets i ⊕ wbit l.y (l.u + i))) × (l.sum ≤ 64 * l.j)
