-- `nearest::nearest_flips`: refusals in their order, then the search. Assumes nothing.
use mathlib.Core.Path.{refl, sym, ◌∙◌}
use native.Mathlib.Omega.{arith}
use Rattle.std.proofs.lemmas.Result.{err_from_is_err_and}
use Rattle.refusals.proofs.Numbers.{some}
use Rattle.nearest.proofs.Reaching.{nearest_refused, nearest_right, nearest_eighteen, nearest_searched}
use Rattle.nearest.proofs.nearest_flips.Goals as goal

pub returns-in_err-admit : goal.returns-in_err-admit
returns-in_err-admit c =
    let p = err_from_is_err_and c.from_residual.result c.from_residual.ensures.1 in
    rw (p.1, p.2) (sym (nearest_refused c.args.word.now c.args.reach c.args.out.now _ c.in_err-admit.ensures
    (some c.in_err-admit.field-0.0)))

pub returns-then-reach-gt3 : goal.returns-then-reach-gt3
returns-then-reach-gt3 c =
    let r = nearest_right c.args.word.now c.args.reach c.args.out.now c.in_ok-admit.ensures refl in
    sym (nearest_eighteen c.args.word.now c.args.reach c.args.out.now r.long_is r.room_is (omega arith))

pub searched-requires : goal.searched-requires
searched-requires c =
    let r = nearest_right c.args.word.now c.args.reach c.args.out.now c.in_ok-admit.ensures refl in
    (r.long_is, r.room_is, omega arith)

pub returns : goal.returns
returns c =
    let r = nearest_right c.args.word.now c.args.reach c.args.out.now c.in_ok-admit.ensures refl in
    c.searched.ensures
    ∙ sym (nearest_searched c.args.word.now c.args.reach c.args.out.now r.long_is r.room_is (omega arith))
