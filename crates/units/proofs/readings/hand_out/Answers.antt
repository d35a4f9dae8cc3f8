-- `readings::hand_out`: copied if the number is 0. Assumes nothing.
use mathlib.Core.Path.{sym, ◌∙◌}
use borrow.Author.Tests.{eq-eqb, ne_eqb}
use lib.Dec.{eqb}
use Rattle.units.proofs.unitrules.Answering.{if_is, if_isnt}
use Rattle.units.proofs.readings.hand_out.Goals as goal

pub returns-then-number-eq0 : goal.returns-then-number-eq0
returns-then-number-eq0 c =
    c.copy_from_slice.ensures.after
    ∙ sym (if_is (eqb c.args.number 0) c.args.information.now c.args.out.now (eq-eqb c.args.number 0 c.if-number-eq0.true))

pub returns-else-number-eq0 : goal.returns-else-number-eq0
returns-else-number-eq0 c =
    sym (if_isnt (eqb c.args.number 0) c.args.information.now c.args.out.now (ne_eqb c.args.number 0 c.if-number-eq0.false))
