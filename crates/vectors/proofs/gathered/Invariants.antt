-- `vectors::gathered` meets its contract: the number has the bits of the octets so far. Assumes nothing.
use Rattle.vectors.proofs.Octets.{Gathered}
use Rattle.vectors.proofs.gathered.Given as goal

abbrev pub invariant-loop-octet : goal.invariant-loop-octet
invariant-loop-octet l = Gathered l.octets l.at l.octet-index l.number
