-- `codes::correct`: refusals in the order of their numbers, then the run. Assumes nothing.
use mathlib.Core.Path.{refl, sym, ap, ◌∙◌}
use Rattle.answers.specs.Calls.{refused_correct_of}
use Rattle.answers.proofs.Answers.{correct_taken, correct_refused}
use Rattle.catalogue.proofs.offer.Offers.{is_offered}
use Rattle.refusals.proofs.Admitted.{offered_by, correct_refusal, taken, word_long}
use Rattle.refusals.proofs.Numbers.{some}
use Rattle.codes.proofs.correct.Goals as goal

pub correct_taken-requires : goal.correct_taken-requires
correct_taken-requires c =
    let is = c.of-o.ensures in
    let t = taken c.args.code is c.of-o.result.offered (offered_by c.args.code is) _ _ _ _ c.in-Ok.ensures refl in
    t.output-is

pub returns-in-Ok : goal.returns-in-Ok
returns-in-Ok c =
    let n = c.args.code in
    let is = c.of-o.ensures in
    let t = taken n is c.of-o.result.offered (offered_by n is) _ _ _ _ c.in-Ok.ensures refl in
    c.correct_taken.ensures n t.offers is
    ∙ sym (correct_taken n c.args.word.now c.args.limit c.args.out.now (is_offered n t.offers)
    (word_long n is t.offers t.input_is) (word_long n is t.offers t.output-is))

pub returns-in-Err : goal.returns-in-Err
returns-in-Err c =
    c.refused_correct.ensures c.args.out.now
    ∙ ap (refused_correct_of c.args.out.now) c.number.ensures
    ∙ sym (correct_refused c.args.code c.args.word.now c.args.limit c.args.out.now _
    (correct_refusal c.args.code c.of-o.ensures _ _ c.in-Err.ensures) (some c.in-Err.refusal))
