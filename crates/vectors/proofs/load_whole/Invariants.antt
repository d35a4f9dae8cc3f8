-- `vectors::load_whole` meets its contract: after k passes the first k words have the octets' bits. Assumes nothing.
use Rattle.bits.specs.Bits.{bit}
use Rattle.vectors.proofs.Filling.{Filled}
use Rattle.vectors.proofs.load_whole.Given as goal

abbrev pub invariant-loop-k : goal.invariant-loop-k
invariant-loop-k l = Filled l.initial.ws (bit l.octets) l.ws l.k
