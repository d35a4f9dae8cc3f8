-- `exporting::put_check`: the check behind the octets. Assumes nothing.
use mathlib.Core.Path.{◌∙◌}
use native.Mathlib.Omega.{arith}
use lib.ListN.{length-take}
use Rattle.blocks.proofs.Writing.{check_put}
use Rattle.blocks.proofs.exporting.put_check.Goals as goal

pub slice_bounds-over-end-2 : goal.slice_bounds-over-end-2
slice_bounds-over-end-2 c = simp length-take (omega arith)

pub returns : goal.returns
returns c =
    let k = c.copy_from_slice in
    let f = c.over-check in
    check_put c.args.out.now k.new.self f.result c.requires f.ensures (k.ensures.after ∙ c.to_be_bytes.ensures)
