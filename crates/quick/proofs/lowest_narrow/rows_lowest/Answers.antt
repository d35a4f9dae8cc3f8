-- `quicknarrow::rows_lowest`: no check of the rows so far is broken. Assumes nothing.
use mathlib.Core.Path.{◌≡◌, sym, ap, ◌∙◌, subst}
use Prim.Native.Nat.{◌*◌, ◌<◌}
use native.Mathlib.Nat.{pos_of_ne-zero}
use native.Mathlib.Omega.{arith}
use lib.Count.{count_leading_zeros}
use Rattle.bits.specs.Bits.{digit}
use Rattle.bits.proofs.Octets.{digit_zero}
use Rattle.vectors.specs.Vectors.{wbit}
use Rattle.vectors.proofs.Spans.{up_to_below}
use Rattle.vectors.proofs.Firsts.{first_digit}
use Rattle.quick.proofs.groups.Groups.{group_found, row_met, rows_met, front_first}
use Rattle.quick.proofs.lowest_narrow.rows_lowest.Goals as goal

pub loop-r-init : goal.loop-r-init
loop-r-init c = (omega arith, λ code lent j l. absurd (omega arith))

pub returns-then-v-ne0 : goal.returns-then-v-ne0
returns-then-v-ne0 c code lent =
    let a = c.args in
    let l = c.loop-r in
    let v = c.front-v.result in
    let g = c.narrow_group in
    let first = first_digit 64 v (pos_of_ne-zero c.if-v-ne0.true) c.front-v.type_inv in
    let f = front_first a.parity.shape.size g.result v c.requires.0 c.front-v.ensures first in
    group_found a.parity.shape a.parity.places.now (wbit a.y.now) code lent l.r (omega arith)
    a.parity.shape.size g.result (count_leading_zeros 64 v) (omega arith) g.ensures
    f.0 f.1 f.2 (l.invariant.1 code lent)

pub loop-r-preserved : goal.loop-r-preserved
loop-r-preserved c =
    let a = c.args in
    let l = c.loop-r in
    let v = c.front-v.result in
    let g = c.narrow_group in (
      omega arith,
      λ code lent.
          row_met a.parity.shape a.parity.places.now (wbit a.y.now) code lent l.r (omega arith) g.result g.ensures
          (λ q hq.
          sym (c.front-v.ensures q (omega (arith, c.requires.0)) ∙ up_to_below a.parity.shape.size q (digit 64 g.result) hq)
          ∙ ap (λ z. digit 64 z q) c.if-v-ne0.false
          ∙ digit_zero 64 q)
          (l.invariant.1 code lent),
    )

pub returns : goal.returns
returns c code lent =
    let a = c.args in
    let l = c.loop-r in
    let e : l.r ≡ a.parity.shape.rows = omega arith in
    rows_met a.parity.shape a.parity.places.now (wbit a.y.now) code lent
    (λ j h. l.invariant.1 code lent j (subst (λ z. j < z * a.parity.shape.size) (sym e) h))
