-- `readings::receive`: copied, then derandomised. Assumes nothing.
use mathlib.Core.Path.{ap, ◌∙◌}
use native.Mathlib.Omega.{arith}
use Prim.Native.Nat.{◌+◌, ◌-◌, ◌*◌}
use lib.ListN.{length, drop, length-take}
use Rattle.units.proofs.unitrules.Shapes.{sizes}
use Rattle.units.proofs.readings.Compared.{block_room, received_is}
use Rattle.units.proofs.readings.receive.Goals as goal

pub overflow_mul-used : goal.overflow_mul-used
overflow_mul-used c = omega (
  arith,
  block_room c.args.code.number c.args.unit.now c.args.k
      (length c.args.word.now) c.args.code.offered c.requires.0 c.requires.1,
)

pub overflow_add-at : goal.overflow_add-at
overflow_add-at c = omega (
  arith,
  block_room c.args.code.number c.args.unit.now c.args.k
      (length c.args.word.now) c.args.code.offered c.requires.0 c.requires.1,
)

pub overflow_add-end : goal.overflow_add-end
overflow_add-end c = omega (
  arith,
  block_room c.args.code.number c.args.unit.now c.args.k
      (length c.args.word.now) c.args.code.offered c.requires.0 c.requires.1,
)

pub slice_bounds-copy_from_slice-end : goal.slice_bounds-copy_from_slice-end
slice_bounds-copy_from_slice-end c = block_room c.args.code.number c.args.unit.now c.args.k (length c.args.word.now)
    c.args.code.offered c.requires.0 c.requires.1

pub randomise-requires : goal.randomise-requires
randomise-requires c =
    let z = sizes c.args.code.number c.args.code.offered in
    let size = length c.args.word.now in
    omega (
      arith,
      ap length c.copy_from_slice.ensures.after,
      length-take
          (8 + c.args.k * size + size - (8 + c.args.k * size)) (drop (8 + c.args.k * size) c.args.unit.now),
      z.whole,
      z.few,
      c.requires.1,
    )

pub returns : goal.returns
returns c =
    c.randomise.ensures
    ∙ received_is c.args.code.number c.args.unit.now c.copy_from_slice.new.self c.args.k
    (length c.args.word.now) c.requires.1 c.copy_from_slice.ensures.after
