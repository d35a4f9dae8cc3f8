-- `vectors::put` meets its contract: after j passes the first j octets stand there. Assumes nothing.
use mathlib.Core.Path.{◌≡◌}
use Prim.Native.Nat.{◌+◌, ◌*◌}
use lib.ListN.{length}
use Rattle.bits.specs.Bits.{bit}
use Rattle.vectors.specs.Vectors.{joined}
use Rattle.vectors.proofs.Octets.{after}
use Rattle.vectors.proofs.put.Given as goal

abbrev pub invariant-loop-j : goal.invariant-loop-j
invariant-loop-j l = (length l.out ≡ length l.initial.out)
    × (bit l.out ≡ joined (8 * (l.at + l.j)) (after (8 * l.at) (bit l.initial.out) l.v) (bit l.initial.out))
