-- `codes::open`: refusals in the order of their numbers, then the leading part. Assumes nothing.
use mathlib.Core.Path.{refl, sym, ap, ◌∙◌}
use Rattle.answers.specs.Calls.{refused_open}
use lib.ListN.{length}
use Rattle.answers.proofs.Answers.{open-from, open_refused}
use Rattle.refusals.proofs.Admitted.{as_truth, opens_by, opens_offered, open_refusal, taken, word_long}
use Rattle.refusals.proofs.Numbers.{some}
use Rattle.codes.proofs.open.Goals as goal

pub returns-in-Ok : goal.returns-in-Ok
returns-in-Ok c =
    let n = c.args.code in
    let is = c.of-o.ensures in
    let t = taken n is c.of-o.result.opens (opens_offered n is) (length c.args.word.now) _ 0 0 c.in-Ok.ensures refl in
    c.open_taken.ensures n t.offers is
    ∙ sym (open-from n c.args.word.now (as_truth (opens_by n is t.chosen)) (word_long n is t.offers t.input_is))

pub returns-in-Err : goal.returns-in-Err
returns-in-Err c =
    ap refused_open c.number.ensures
    ∙ sym (open_refused c.args.code c.args.word.now _
    (open_refusal c.args.code c.of-o.ensures _ c.in-Err.ensures) (some c.in-Err.refusal))
