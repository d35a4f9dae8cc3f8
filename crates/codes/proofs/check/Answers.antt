-- `codes::check`: refusals in the order of their numbers, then the count. Assumes nothing.
use mathlib.Core.Path.{refl, sym, ◌∙◌}
use lib.ListN.{length}
use Rattle.answers.proofs.Answers.{check_taken, check_refused}
use Rattle.catalogue.proofs.offer.Offers.{is_offered}
use Rattle.refusals.proofs.Admitted.{offered_by, check_refusal, taken, word_long}
use Rattle.refusals.proofs.Numbers.{some}
use Rattle.codes.proofs.check.Goals as goal

pub returns-in-Ok : goal.returns-in-Ok
returns-in-Ok c =
    let n = c.args.code in
    let is = c.of-o.ensures in
    let t = taken n is c.of-o.result.offered (offered_by n is) (length c.args.word.now) _ 0 0 c.in-Ok.ensures refl in
    c.check_taken.ensures n t.offers is
    ∙ sym (check_taken n c.args.word.now (is_offered n t.offers) (word_long n is t.offers t.input_is))

pub returns-in-Err : goal.returns-in-Err
returns-in-Err c =
    c.refused_check.ensures
    ∙ sym (check_refused c.args.code c.args.word.now _
    (check_refusal c.args.code c.of-o.ensures _ c.in-Err.ensures) (some c.in-Err.refusal))
