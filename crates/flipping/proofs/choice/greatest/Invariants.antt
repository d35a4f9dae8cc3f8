-- `choice::greatest` meets its contract: the greatest bound of the first b blocks. Assumes nothing.
use mathlib.Core.Path.{◌≡◌}
use Rattle.flipping.specs.choice.Searching.{highest}
use Rattle.flipping.proofs.choice.greatest.Given as goal

abbrev pub invariant-loop-b : goal.invariant-loop-b
invariant-loop-b l = l.top ≡ highest l.counts l.met l.b
