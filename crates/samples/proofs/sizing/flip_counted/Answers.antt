-- `sizing::flip_counted`: the bit is counted, and flipped. Assumes nothing.
use Rattle.samples.proofs.sizing.flip_counted.Goals as goal

pub returns : goal.returns
returns c =
    let n = c.counted-r.ensures in
    (n.0, c.flip_bit.ensures, n.1)
