-- `vectors::any` meets its contract: v is 0 just if the words so far are. Assumes nothing.
use Rattle.vectors.proofs.Counts.{Seen}
use Rattle.vectors.proofs.any.Given as goal

abbrev pub invariant-loop-word : goal.invariant-loop-word
invariant-loop-word l = Seen l.ws l.v l.word-index
