-- `codes::step`: refusals in the order of their numbers, then one step. Assumes nothing.
use mathlib.Core.Path.{refl, sym, ◌∙◌}
use Rattle.answers.proofs.Answers.{step_taken, step_refused}
use Rattle.refusals.proofs.Admitted.{as_truth, steps_by, steps_offered, step_refusal, taken, word_long}
use Rattle.refusals.proofs.Numbers.{some}
use Rattle.codes.proofs.step.Goals as goal

pub step_taken-requires : goal.step_taken-requires
step_taken-requires c =
    let is = c.of-o.ensures in
    let t = taken c.args.code is c.of-o.result.steps (steps_offered c.args.code is) _ _ _ _ c.in-Ok.ensures refl in
    t.output-is

pub returns-in-Ok : goal.returns-in-Ok
returns-in-Ok c =
    let n = c.args.code in
    let is = c.of-o.ensures in
    let t = taken n is c.of-o.result.steps (steps_offered n is) _ _ _ _ c.in-Ok.ensures refl in
    c.step_taken.ensures n t.offers is
    ∙ sym (step_taken n c.args.word.now c.args.out.now (as_truth (steps_by n is t.chosen))
    (word_long n is t.offers t.input_is) (word_long n is t.offers t.output-is))

pub returns-in-Err : goal.returns-in-Err
returns-in-Err c =
    c.refused_step.ensures c.args.out.now
    ∙ sym (step_refused c.args.code c.args.word.now c.args.out.now _
    (step_refusal c.args.code c.of-o.ensures _ _ c.in-Err.ensures) (some c.in-Err.refusal))
