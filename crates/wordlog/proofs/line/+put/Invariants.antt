-- `put` calls itself for a tenth of the number.
use Rattle.wordlog.proofs.line.+put.Given as goal

abbrev pub decreases-put : goal.decreases-put
decreases-put l = l.n
