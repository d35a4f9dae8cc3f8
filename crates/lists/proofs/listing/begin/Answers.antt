-- `listing::begin`: refusals in the order of their numbers, then the run. Assumes nothing.
use mathlib.Core.Path.{refl, sym}
use lib.ListN.{length}
use Rattle.answers.proofs.Lists.{list_refused}
use Rattle.refusals.proofs.Admitted.{offered_by, check_refusal, taken}
use Rattle.refusals.proofs.Numbers.{some}
use Rattle.lists.proofs.listing.Writing.{refused_lists}
use Rattle.lists.proofs.listing.begin.Goals as goal

pub returns-in-Ok : goal.returns-in-Ok
returns-in-Ok c =
    let n = c.args.code in
    let is = c.of-o.ensures in
    let t = taken n is c.of-o.result.offered (offered_by n is) (length c.args.word.now) _ 0 0 c.in-Ok.ensures refl in
    let b = c.begin_taken.ensures in
    (b.0, b.1 n t.offers is)

pub returns-in-Err : goal.returns-in-Err
returns-in-Err c =
    let n = c.args.code in
    let r = c.refused in (
      r.ensures.1,
      refused_lists n c.args.word.now c.args.limit c.args.places _ _ _ _ _ r.ensures.0 r.ensures.1 r.ensures.2
          (λ table long. sym (list_refused n c.args.word.now c.args.limit table _
          (check_refusal n c.of-o.ensures _ c.in-Err.ensures) (some c.in-Err.refusal))),
    )
