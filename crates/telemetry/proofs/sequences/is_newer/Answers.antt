-- `telemetry::is_newer`: issue 4, or issue 5. Assumes nothing.
use mathlib.Core.Path.{sym, ap, ◌∙◌}
use mathlib.Core.Bool.{◌||◌}
use lib.Dec.{eqb}
use borrow.Author.Tests.{eq-eqb, ne_eqb}
use Rattle.telemetry.proofs.sequences.is_newer.Goals as goal

pub returns-then-edition-eq4 : goal.returns-then-edition-eq4
returns-then-edition-eq4 c =
    let n = c.args.edition in
    let e = eq-eqb n 4 c.if-edition-eq4.true in e ∙ sym (ap (λ b. b || eqb n 5) e)

pub returns-else-edition-eq4 : goal.returns-else-edition-eq4
returns-else-edition-eq4 c = let n = c.args.edition in sym (ap (λ b. b || eqb n 5) (ne_eqb n 4 c.if-edition-eq4.false))
