-- `exporting::put_front`: head and data. Assumes nothing.
use native.Mathlib.Omega.{arith}
use lib.ListN.{length-take}
use Rattle.blocks.proofs.Writing.{front_put}
use Rattle.blocks.proofs.exporting.put_front.Goals as goal

pub slice_bounds-put_head-end-2 : goal.slice_bounds-put_head-end-2
slice_bounds-put_head-end-2 c = simp length-take (omega arith)

pub put_head-requires : goal.put_head-requires
put_head-requires c = simp length-take (omega arith)

pub returns : goal.returns
returns c =
    let d = c.put_data in
    let h = c.put_head in
    front_put c.args.out.now c.args.used.now h.new.out d.new.out c.args.place c.requires.1 c.requires.0
    h.ensures d.ensures
