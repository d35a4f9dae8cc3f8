-- `samples::correct_patterns`: refusals in their order, then the run. Assumes nothing.
use mathlib.Core.Path.{refl, sym, ap, ◌∙◌}
use lib.ListN.{length}
use Rattle.answers.specs.Calls.{refused_correct_of}
use Rattle.refusals.proofs.Admitted.{taken, steps_offered}
use Rattle.refusals.proofs.Numbers.{some}
use Rattle.magnitudes.specs.Patterns.{samples_of}
use Rattle.samples.proofs.Answers.{samples_refused}
use Rattle.samples.proofs.Correcting.{patterns_refusal}
use Rattle.samples.proofs.correct_patterns.Goals as goal

pub correct_taken-requires : goal.correct_taken-requires
correct_taken-requires c =
    let o = c.of-o in
    let t = taken c.args.code o.ensures o.result.steps (steps_offered c.args.code o.ensures) _ _ _ _ c.in-Ok.ensures refl in
    t.output-is

pub returns-in-Ok : goal.returns-in-Ok
returns-in-Ok c =
    let o = c.of-o in
    let a = c.args in
    let t = taken a.code o.ensures o.result.steps (steps_offered a.code o.ensures) (length a.samples.now)
    o.result.bits (length a.out.now) o.result.word c.in-Ok.ensures refl in
    c.correct_taken.ensures a.code t.offers o.ensures

pub returns-in-Err : goal.returns-in-Err
returns-in-Err c =
    let a = c.args in
    c.refused_correct.ensures a.out.now
    ∙ ap (refused_correct_of a.out.now) c.number.ensures
    ∙ sym (samples_refused a.code (samples_of a.samples.now) a.limit a.out.now _
    (patterns_refusal a.code c.of-o.ensures a.samples.now _ c.in-Err.ensures) (some c.in-Err.refusal))
