-- `wideparity::add_turns` meets its contract: what is added so far, and what the shifts from this one on add, are the whole. Assumes
-- nothing.
use mathlib.Core.Path.{◌≡◌, refl, ap, ◌∙◌, subst}
use Prim.Native.Nat.{◌+◌, ◌*◌, ◌<◌}
use native.Mathlib.Omega.{arith}
use lib.ListN.{get_or}
use borrow.Author.Rules.{rules}
use Rattle.vectors.specs.Vectors.{wbit, from, added}
use Rattle.encoder.proofs.parityrows.Laws.{Added, added_more, added_all, rest_none, rest_past, shift_at, shift_few}
use Rattle.encoder.proofs.wideparity.add_turns.Goals as goal

pub loop-shift-init : goal.loop-shift-init
loop-shift-init c = refl

pub add_turned-requires : goal.add_turned-requires
add_turned-requires c =
    let a = c.args in
    let k = c.loop-shift.shift-index in
    let here : k < 8 = omega (arith, shift_few a.step.now c.requires.0) in
    let low = c.if-shift-size.false in
    let size = c.requires.1 in
    let words = c.requires.2 in
    let room = c.requires.3 in
    search rules

pub loop-shift-preserved : goal.loop-shift-preserved
loop-shift-preserved c =
    let a = c.args in
    let l = c.loop-shift in
    let k = l.shift-index in
    let here : k < 8 = omega (arith, shift_few a.step.now c.requires.0) in
    let e = shift_at a.step.now k c.requires.0 here in
    let low : get_or a.step.now (k + 2) 0 < a.size = omega (arith, e, c.if-shift-size.false) in
    let next : k + 2 + 1 ≡ k + 1 + 2 = omega arith in
    let begin = 64 * a.at in
    let end = 64 * (a.at + a.w) in
    subst (Added a.size a.step.now (wbit a.d.now) (wbit a.z.now) begin end (wbit c.add_turned.new.acc)) next
    (added_more a.size a.step.now (wbit a.d.now) (wbit a.z.now) begin end (wbit l.z) (k + 2) l.invariant (wbit c.add_turned.new.acc)
    (omega (arith, c.requires.0)) low
    (c.add_turned.ensures ∙ ap (λ s. added (wbit l.z) begin end (from s (wbit a.d.now))) e))

pub returns-then-shift-size : goal.returns-then-shift-size
returns-then-shift-size c =
    let a = c.args in
    let l = c.loop-shift in
    let k = l.shift-index in
    let here : k < 8 = omega (arith, shift_few a.step.now c.requires.0) in
    let e = shift_at a.step.now k c.requires.0 here in
    added_all a.size a.step.now (wbit a.d.now) (wbit a.z.now) (64 * a.at) (64 * (a.at + a.w)) (wbit l.z) (k + 2) l.invariant
    (rest_none a.size a.step.now (wbit a.d.now) (k + 2) (omega (arith, c.requires.0)) (omega (arith, e, c.if-shift-size.true)))

pub returns-after-loop-shift : goal.returns-after-loop-shift
returns-after-loop-shift c =
    let a = c.args in
    let l = c.loop-shift in
    let k = l.shift-index in
    added_all a.size a.step.now (wbit a.d.now) (wbit a.z.now) (64 * a.at) (64 * (a.at + a.w)) (wbit l.z) (k + 2) l.invariant
    (rest_past a.size a.step.now (wbit a.d.now) (k + 2) (omega (arith, c.requires.0, shift_few a.step.now c.requires.0)))
