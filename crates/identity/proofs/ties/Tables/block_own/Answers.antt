-- `ties::Tables::block_own` meets its contract: the sum over three places is that over the block's shifts.
use Rattle.identity.specs.ties.Flat.{own}
use Rattle.identity.proofs.ties.Sums.{over_block}
use Rattle.identity.proofs.ties.Tables.block_own.Goals as goal

pub returns : goal.returns
returns c =
    let a = c.args.self in
    let m = a.sizes.m in
    over_block m (own m c.args.d) a.parity.now c.args.place
    c.place_own-first.ensures c.place_own-second.ensures c.place_own-third.ensures
