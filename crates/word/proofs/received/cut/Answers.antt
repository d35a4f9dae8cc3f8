-- `received::cut` meets its contract: after k passes the first k words have the bits, and the last word follows. Assumes nothing.
use mathlib.Core.Path.{◌≡◌, sym, ap, ◌∙◌}
use Prim.Native.Nat.{◌+◌, ◌*◌}
use native.Mathlib.Omega.{arith}
use Rattle.bits.specs.Bits.{bit}
use Rattle.vectors.specs.Vectors.{up_to, from}
use Rattle.vectors.proofs.Filling.{filled_more}
use Rattle.vectors.proofs.Spans.{up_to_below}
use Rattle.word.proofs.received.Cutting.{last_cut}
use Rattle.word.proofs.received.cut.Goals as goal

pub loop-k-preserved : goal.loop-k-preserved
loop-k-preserved c =
    let a = c.args in
    let l = c.loop-k in
    let x = bit a.octets.now in
    filled_more a.v.now (up_to 511 (from a.p x)) l.v l.k l.invariant c.window.result (omega (arith, l.invariant.long))
    (λ i hi. c.window.ensures i hi ∙ ap x (omega arith) ∙ sym (up_to_below 511 (64 * l.k + i) (from a.p x) (omega arith)))

pub returns : goal.returns
returns c =
    let a = c.args in
    let l = c.loop-k in
    let x = bit a.octets.now in
    let seven : l.k ≡ 7 = omega arith in
    last_cut a.v.now l.v x a.p l.k c.window-2.result c.funnel.result c.requires.2 seven l.invariant
    (λ i hi. c.window-2.ensures i hi ∙ ap x (omega arith)) c.funnel.ensures
