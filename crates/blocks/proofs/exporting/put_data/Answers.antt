-- `exporting::put_data`: the used octets in front, zeros behind. Assumes nothing.
use Rattle.blocks.proofs.Lists.{data_put}
use native.Mathlib.Omega.{arith}
use lib.ListN.{length-take}
use borrow.Author.Rules.{rules}
use Rattle.blocks.proofs.exporting.put_data.Goals as goal

pub slice_bounds-copy-end-2 : goal.slice_bounds-copy-end-2
slice_bounds-copy-end-2 c = simp length-take (omega arith)

pub copy-requires : goal.copy-requires
copy-requires c = simp length-take (omega arith)

pub returns : goal.returns
returns c =
    let w = c.fill in
    let k = c.copy in
    data_put c.args.out.now c.args.used.now k.new.out w.new.self c.requires k.ensures (w.ensures.after (search rules))
