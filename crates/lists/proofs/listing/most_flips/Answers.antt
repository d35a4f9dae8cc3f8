-- `listing::most_flips`: by the theorems on the length of runs. Assumes nothing.
use mathlib.Core.Path.{sym, subst}
use Prim.Native.Nat.{◌/◌, ◌≤◌}
use lib.ListN.{length}
use Rattle.rules.specs.Codes.{code}
use Rattle.rules.specs.Flipping.{by_excess, run}
use Rattle.lists.proofs.listing.Writing.{flips_few, flips_half}
use Rattle.lists.proofs.listing.most_flips.Goals as goal

pub returns-then-o : goal.returns-then-o
returns-then-o c =
    λ n off is x first limit.
    subst (λ k. length (run (by_excess (code n)) limit x).flips ≤ k / 2) (sym first) (flips_half n off _ is x limit c.if-o.true)

pub returns : goal.returns
returns c =
    λ n off is x first limit. subst (λ k. length (run (by_excess (code n)) limit x).flips ≤ k) (sym first) (flips_few n off _ is x limit)
