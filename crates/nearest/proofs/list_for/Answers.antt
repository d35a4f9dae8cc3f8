-- `nearest::list_for` meets its contract: the list of the broken checks. Assumes nothing.
use Rattle.vectors.specs.Vectors.{wbit}
use Rattle.nearest.proofs.list_for.Goals as goal

pub returns : goal.returns
returns c =
    let a = c.args in
    c.fewest_of.ensures (wbit a.y.now) c.syndrome-z.ensures
