-- `received::leading` meets its contract: the octet's bits come first. Assumes nothing.
use Rattle.word.proofs.received.Cutting.{leads}
use Rattle.word.proofs.received.leading.Goals as goal

pub returns : goal.returns
returns c = leads c.args.octet
