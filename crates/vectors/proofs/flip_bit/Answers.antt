-- `vectors::flip_bit` meets its contract. Assumes nothing.
use Rattle.vectors.proofs.Spans.{flipped_bit}
use Rattle.vectors.proofs.flip_bit.Goals as goal

pub returns : goal.returns
returns c = flipped_bit c.args.ws.now c.args.n c.requires
