-- `exporting::put_block`: head, data and check. Assumes nothing.
use native.Mathlib.Omega.{arith}
use lib.ListN.{length-take}
use Rattle.blocks.proofs.Writing.{block_put}
use Rattle.blocks.proofs.exporting.put_block.Goals as goal

pub slice_bounds-put_front-end-2 : goal.slice_bounds-put_front-end-2
slice_bounds-put_front-end-2 c = simp length-take (omega arith)

pub put_front-requires : goal.put_front-requires
put_front-requires c = (c.requires.0, simp length-take (omega arith))

pub returns : goal.returns
returns c =
    let k = c.put_check in
    let f = c.put_front in
    block_put c.args.out.now f.new.out k.new.out c.args.place c.args.used.now c.requires.0 f.ensures
    k.ensures
