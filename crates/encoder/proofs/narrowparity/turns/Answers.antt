-- `narrowparity::turns` meets its contract: the sum so far, and what the shifts from this one on add, are the whole. Assumes nothing.
use mathlib.Core.Path.{◌≡◌, ap, subst}
use Prim.Native.Nat.{◌+◌, ◌<◌}
use native.Mathlib.Omega.{arith}
use lib.Bits.{bit_xor}
use lib.ListN.{get_or}
use Rattle.bits.specs.Bits.{◌⊕◌}
use Rattle.bits.proofs.Octets.{digit_zero}
use Rattle.vectors.specs.Vectors.{both, Holds, from}
use Rattle.encoder.specs.parityrows.Rows.{copies}
use Rattle.encoder.proofs.parityrows.Laws.{Summed, summed_more, summed_all, rest_none, rest_past, shift_at, shift_few}
use Rattle.encoder.proofs.narrowparity.turns.Goals as goal

pub loop-shift-init : goal.loop-shift-init
loop-shift-init c = λ i hi. ap (λ z. z ⊕ copies c.args.size c.args.step.now (both c.args.d) i) (digit_zero 64 i)

pub loop-shift-preserved : goal.loop-shift-preserved
loop-shift-preserved c =
    let a = c.args in
    let l = c.loop-shift in
    let k = l.shift-index in
    let here : k < 8 = omega (arith, shift_few a.step.now c.requires.1) in
    let e = shift_at a.step.now k c.requires.1 here in
    let low : get_or a.step.now (k + 2) 0 < a.size = omega (arith, e, c.if-shift-size.false) in
    let next : k + 2 + 1 ≡ k + 1 + 2 = omega arith in
    subst (Summed a.size a.step.now (both a.d) (bit_xor l.sum c.funnel-sum.result)) next
    (summed_more a.size a.step.now (both a.d) l.sum (k + 2) l.invariant c.funnel-sum.result (omega (arith, c.requires.1)) low
    (subst (λ s. Holds c.funnel-sum.result (from s (both a.d))) e c.funnel-sum.ensures))

pub returns-then-shift-size : goal.returns-then-shift-size
returns-then-shift-size c =
    let a = c.args in
    let l = c.loop-shift in
    let k = l.shift-index in
    let here : k < 8 = omega (arith, shift_few a.step.now c.requires.1) in
    let e = shift_at a.step.now k c.requires.1 here in
    summed_all a.size a.step.now (both a.d) l.sum (k + 2) l.invariant
    (rest_none a.size a.step.now (both a.d) (k + 2) (omega (arith, c.requires.1)) (omega (arith, e, c.if-shift-size.true)))

pub returns-after-loop-shift : goal.returns-after-loop-shift
returns-after-loop-shift c =
    let a = c.args in
    let l = c.loop-shift in
    let k = l.shift-index in
    summed_all a.size a.step.now (both a.d) l.sum (k + 2) l.invariant
    (rest_past a.size a.step.now (both a.d) (k + 2) (omega (arith, c.requires.1, shift_few a.step.now c.requires.1)))
