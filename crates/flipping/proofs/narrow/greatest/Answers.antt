-- `narrow::greatest`: after b passes it is the greatest of the first b scores. Assumes nothing.
use mathlib.Core.Path.{sym, ap, ◌∙◌}
use mathlib.Core.Logic.{⊎_elim}
use Prim.Native.Nat.{◌≤◌, ◌<◌}
use native.Mathlib.Omega.{arith}
use lib.ListN.{get_or, length-take}
use Rattle.std.proofs.lemmas.List.{get_or-take}
use Rattle.bits.proofs.Orders.{le-or-lt}
use Rattle.flipping.specs.narrow.Weighing.{scores_of}
use Rattle.flipping.proofs.narrow.Blocks.{greatest_more, greatest_kept, score_at}
use Rattle.flipping.proofs.narrow.greatest.Goals as goal

pub loop-b-preserved : goal.loop-b-preserved
loop-b-preserved c =
    let a = c.args in
    let s = scores_of a.levels.now in
    let l = c.loop-b in
    let p = c.better-p.result in
    let e = c.better-p.ensures in
    let long = length-take a.blocks a.levels.now in
    let here = score_at a.levels.now l.b
    ∙ sym (ap (λ v. v.score) (get_or-take a.blocks a.levels.now l.b (record { score = 0; mask = 0 })
    (omega (arith, long)))) in
    ⊎_elim
    (λ (q : get_or s l.b 0 ≤ l.p.score).
    greatest_kept s l.b l.p.score l.p.block p.score p.block l.invariant q (e.1 (omega (arith, here, q))).0 (e.1 (omega (arith, here, q))).1)
    (λ (q : l.p.score < get_or s l.b 0).
    greatest_more s l.b l.p.score l.p.block p.score p.block l.invariant (omega (arith, long)) q
    ((e.0 (omega (arith, here, q))).0 ∙ sym here)
    (e.0 (omega (arith, here, q))).1)
    (le-or-lt (get_or s l.b 0) l.p.score)
