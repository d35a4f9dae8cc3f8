-- `vectors::load_whole_later` meets its contract: `before` is the word before word k, as it was. Assumes nothing.
use mathlib.Core.Path.{ap, ◌∙◌}
use Prim.Native.Nat.{◌*◌}
use native.Mathlib.Omega.{arith}
use Rattle.bits.specs.Bits.{bit}
use Rattle.vectors.specs.Vectors.{Holds, from, later}
use Rattle.vectors.proofs.Filling.{filled_more}
use Rattle.vectors.proofs.Spans.{later_holds, later_next}
use Rattle.vectors.proofs.load_whole_later.Goals as goal

pub loop-k-preserved : goal.loop-k-preserved
loop-k-preserved c =
    let a = c.args in
    let l = c.loop-k in
    let x = bit a.octets.now in
    let v = c.eight-v.result in
    let h : Holds v (from (64 * l.k) x) = λ i hi. c.eight-v.ensures i hi ∙ ap x (omega arith) in (
      later_next v l.k x h,
      filled_more a.ws.now (later a.u x) l.ws l.k l.invariant.1 c.funnel.result (omega arith)
          (later_holds l.before v l.k a.u c.funnel.result x c.requires.0 c.requires.1 l.invariant.0 h c.funnel.ensures),
    )
