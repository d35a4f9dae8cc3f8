-- `vectors::is_set` meets its contract. Assumes nothing.
use Rattle.vectors.proofs.Filling.{word_place}
use Rattle.vectors.proofs.is_set.Goals as goal

pub returns : goal.returns
returns c = word_place c.args.ws.now c.args.n
