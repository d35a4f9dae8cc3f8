-- `vectors::add_word` meets its contract. Assumes nothing.
use Rattle.vectors.proofs.Spans.{added_one}
use Rattle.vectors.proofs.add_word.Goals as goal

pub returns : goal.returns
returns c x hv =
    added_one c.args.acc.now c.args.v c.args.at x c.requires hv
