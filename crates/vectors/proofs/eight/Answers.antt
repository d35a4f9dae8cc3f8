-- `vectors::eight` meets its contract: two halves of four octets. Assumes nothing.
use Rattle.vectors.proofs.Octets.{two_halves}
use Rattle.vectors.proofs.eight.Goals as goal

pub returns : goal.returns
returns c =
    let a = c.args in
    two_halves a.octets.now a.at c.gathered.result c.gathered-2.result c.gathered.ensures
    c.gathered-2.ensures
