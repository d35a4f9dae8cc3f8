-- `received::cut` meets its contract: after k passes the first k words have the bits, and the last word follows. Assumes nothing.
use Rattle.bits.specs.Bits.{bit}
use Rattle.vectors.specs.Vectors.{up_to, from}
use Rattle.vectors.proofs.Filling.{Filled}
use Rattle.word.proofs.received.cut.Given as goal

abbrev pub invariant-loop-k : goal.invariant-loop-k
invariant-loop-k l = Filled l.initial.v (up_to 511 (from l.p (bit l.octets))) l.v l.k
