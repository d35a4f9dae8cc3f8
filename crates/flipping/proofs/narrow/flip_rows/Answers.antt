-- `narrow::flip_rows`: after r passes the checks of the first r rows are flipped. Assumes nothing.
use mathlib.Core.Path.{refl, sym, ◌∙◌, subst}
use Prim.Native.Nat.{◌+◌, ◌-◌, ◌%◌}
use native.Mathlib.Omega.{arith}
use lib.Dec.{eqb}
use lib.ListN.{get_or, length-set}
use lib.Seq.{get_or-set_other}
use Rattle.bits.specs.Bits.{Word, ◌⊕◌, over}
use Rattle.vectors.specs.Vectors.{Holds}
use Rattle.layout.specs.Lent.{shifts_of}
use Rattle.flipping.proofs.narrow.Blocks.{set_rows, place_room}
use Rattle.flipping.proofs.narrow.flip_rows.Goals as goal

pub loop-r-init : goal.loop-r-init
loop-r-init c = (
  omega arith,
  c.requires.1,
  λ q l. refl,
  λ q
      l. absurd (omega arith),
)

pub bounds-rows-r : goal.bounds-rows-r
bounds-rows-r c = omega (arith, c.loop-r.invariant.1)

pub overflow_mul-r : goal.overflow_mul-r
overflow_mul-r c =
    let a = c.args in
    let room = place_room a.parity.places.now a.parity.shape c.args.parity.fit (c.args.parity.fit.narrow c.requires.0).0 c.loop-r.r _
    (omega arith) c.requires.2 in
    omega (arith, room.0, room.1)

pub overflow_add-r : goal.overflow_add-r
overflow_add-r c =
    let a = c.args in
    let room = place_room a.parity.places.now a.parity.shape c.args.parity.fit (c.args.parity.fit.narrow c.requires.0).0 c.loop-r.r _
    (omega arith) c.requires.2 in
    omega (arith, room.0, room.1)

pub overflow_mul-r-in-loop-r : goal.overflow_mul-r-in-loop-r
overflow_mul-r-in-loop-r c =
    let a = c.args in
    let room = place_room a.parity.places.now a.parity.shape c.args.parity.fit (c.args.parity.fit.narrow c.requires.0).0 c.loop-r.r _
    (omega arith) c.requires.2 in
    omega (arith, room.0, room.1)

pub flip_row-requires : goal.flip_row-requires
flip_row-requires c =
    let a = c.args in
    let narrow = c.args.parity.fit.narrow c.requires.0 in
    let room = place_room a.parity.places.now a.parity.shape c.args.parity.fit narrow.0 c.loop-r.r _ (omega arith) c.requires.2 in (
      c.args.parity.fit.some,
      omega (arith, c.args.parity.fit.held, c.requires.0),
      narrow.1,
      c.requires.3,
      c.requires.4,
      room.0,
    )

pub bounds-rows-r-in-loop-r : goal.bounds-rows-r-in-loop-r
bounds-rows-r-in-loop-r c = omega (arith, c.loop-r.invariant.1)

pub loop-r-preserved : goal.loop-r-preserved
loop-r-preserved c =
    let a = c.args in
    let l = c.loop-r in
    let v = c.flip_row.result in
    let was = a.rows.now in (
      omega arith,
      omega (arith, length-set l.rows l.r v, l.invariant.1),
      λ q h. get_or-set_other l.rows l.r q v 0 (λ e. omega arith) ∙ l.invariant.2 q (omega arith),
      set_rows l.rows (λ q z. (f : Word) → Holds (get_or was q 0) f
          → Holds z (λ i. f i ⊕ over (shifts_of a.parity.shape a.parity.places.now q a.b)
          (λ s. eqb (i % a.parity.shape.size) ((a.k + (a.parity.shape.size - s)) % a.parity.shape.size))))
          l.r v (omega (arith, l.invariant.1))
          (λ f is. c.flip_row.ensures f (subst (λ z. Holds z f) (sym (l.invariant.2 l.r (omega arith))) is))
          l.invariant.3,
    )

pub returns : goal.returns
returns c q hq =
    let l = c.loop-r in
    l.invariant.3 q (omega arith)
