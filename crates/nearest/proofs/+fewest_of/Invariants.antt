-- `nearest::fewest_of`, by the reach. Assumes nothing.
use Rattle.nearest.proofs.+fewest_of.Given as goal

abbrev pub decreases-fewest_of : goal.decreases-fewest_of
decreases-fewest_of l = l.reach
