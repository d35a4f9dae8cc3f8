-- `samples::run_judged`: the run's numbers and its judgement. Assumes nothing.
use mathlib.Core.Path.{sym, ◌∙◌}
use Rattle.rules.specs.Codes.{code}
use Rattle.samples.proofs.Correcting.{the_run, ran_number, ran_word, ran_met, ran_unsent, corrected_is}
use Rattle.samples.proofs.run_judged.Goals as goal

pub run-end-requires : goal.run-end-requires
run-end-requires c =
    c.requires

pub returns : goal.returns
returns c n off is t begins low =
    let a = c.args in
    let g = c.run-end in
    let j = c.judge in
    let x = a.samples.now in
    let at = c.requires.2 in
    let number = c.number.ensures in
    let to = g.ensures (code n) begins in
    record {
      answers = corrected_is n t _ x a.limit g.result _ _ at to a.first a.lowest j.result begins.broken low
          (j.ensures n off is (the_run n t _ x a.limit g.result _ _ at to) (ran_number n t _ x a.limit g.result _ _ at to ∙ sym number)
          (ran_word n t _ x a.limit g.result _ _ at to) (λ z. ran_met n t _ x a.limit g.result _ _ at to (sym number ∙ z))
          (ran_unsent n t _ x a.limit g.result _ _ at to));
    }
