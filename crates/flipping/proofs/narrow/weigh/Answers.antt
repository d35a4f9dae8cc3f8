-- `narrow::weigh`: after r passes the checks of the first r rows are weighed. Assumes nothing.
use mathlib.Core.Path.{◌≡◌, sym, subst}
use Prim.Native.Nat.{◌+◌, ◌-◌, ◌*◌, ◌%◌}
use native.Mathlib.Omega.{arith}
use lib.ListN.{length}
use Rattle.bits.specs.Bits.{count_of}
use Rattle.rules.specs.Checks.{check}
use Rattle.layout.specs.Lent.{total, shifts_of}
use Rattle.flipping.proofs.bounds.Entries.{total_more}
use Rattle.flipping.specs.narrow.Weighing.{Weighs, broke}
use Rattle.flipping.proofs.narrow.Levels.{weighs_none, weighs_as}
use Rattle.flipping.proofs.narrow.Blocks.{total_none, place_room}
use Rattle.flipping.proofs.narrow.weigh.Goals as goal

pub loop-r-init : goal.loop-r-init
loop-r-init c =
    let a = c.args in (
      omega arith,
      sym (total_none (λ q. length (shifts_of a.parity.shape a.parity.places.now q a.b))),
      omega arith,
      λ k x counts is all. weighs_none counts (broke k a.parity.places.now a.parity.shape a.b x 0) a.mask (λ i. total_none _) all,
    )

pub bounds-rows-r : goal.bounds-rows-r
bounds-rows-r c = omega (arith, c.requires.1)

pub overflow_mul-r : goal.overflow_mul-r
overflow_mul-r c =
    let a = c.args in
    let room = place_room a.parity.places.now a.parity.shape c.args.parity.fit (c.args.parity.fit.narrow c.requires.0).0 c.loop-r.r a.b
    (omega arith) c.requires.2 in
    omega (arith, room.0, room.1)

pub overflow_add-r : goal.overflow_add-r
overflow_add-r c =
    let a = c.args in
    let room = place_room a.parity.places.now a.parity.shape c.args.parity.fit (c.args.parity.fit.narrow c.requires.0).0 c.loop-r.r a.b
    (omega arith) c.requires.2 in
    omega (arith, room.0, room.1)

pub overflow_mul-r-in-loop-r : goal.overflow_mul-r-in-loop-r
overflow_mul-r-in-loop-r c =
    let a = c.args in
    let room = place_room a.parity.places.now a.parity.shape c.args.parity.fit (c.args.parity.fit.narrow c.requires.0).0 c.loop-r.r a.b
    (omega arith) c.requires.2 in
    omega (arith, room.0, room.1)

pub with_row-w-requires : goal.with_row-w-requires
with_row-w-requires c =
    let a = c.args in
    let l = c.loop-r in
    let narrow = c.args.parity.fit.narrow c.requires.0 in
    let room = place_room a.parity.places.now a.parity.shape c.args.parity.fit narrow.0 l.r a.b (omega arith) c.requires.2 in
    (omega (arith, l.invariant.2), c.args.parity.fit.some, omega (arith, c.args.parity.fit.held, c.requires.0), narrow.1, room.0)

pub loop-r-preserved : goal.loop-r-preserved
loop-r-preserved c =
    let a = c.args in
    let l = c.loop-r in
    let e = c.with_row-w.ensures in (
      omega arith,
      omega (arith, e.0, l.invariant.1, total_more l.r (λ q. length (shifts_of a.parity.shape a.parity.places.now q a.b))),
      omega (arith, e.1, l.invariant.2),
      λ k x counts is all.
          weighs_as
          (λ i hi. sym (total_more l.r (λ q. count_of (shifts_of a.parity.shape a.parity.places.now q a.b)
          (λ z. check k x (q * a.parity.shape.size + (i + (a.parity.shape.size - z)) % a.parity.shape.size)))))
          (e.2 counts (λ i. check k x (l.r * a.parity.shape.size + i)) (broke k a.parity.places.now a.parity.shape a.b x l.r)
          (l.invariant.3 k x counts is all) (is l.r (omega arith))),
    )

pub returns : goal.returns
returns c =
    let a = c.args in
    let l = c.loop-r in
    let all : l.r ≡ 4 = omega arith in (
      subst (λ r. l.w.checks ≡ total r (λ q. length (shifts_of a.parity.shape a.parity.places.now q a.b))) all l.invariant.1,
      omega (arith, l.invariant.2),
      λ k x counts is mask. subst (λ r. Weighs counts (broke k a.parity.places.now a.parity.shape a.b x r) l.w) all
          (l.invariant.3 k x counts is mask),
    )
