-- `ties::Tables::block_meets` meets its contract: the sum over three places is that over the block's shifts.
use Rattle.identity.specs.ties.Flat.{met}
use Rattle.identity.proofs.ties.Sums.{over_block}
use Rattle.identity.proofs.ties.Tables.block_meets.Goals as goal

pub returns : goal.returns
returns c =
    let a = c.args.self in
    let m = a.sizes.m in
    over_block m (met m a.generator.now c.args.at c.args.d) a.parity.now c.args.place
    c.place_meets-first.ensures c.place_meets-second.ensures c.place_meets-third.ensures
