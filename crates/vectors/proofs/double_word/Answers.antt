-- `vectors::double_word` meets its contract. Assumes nothing.
use Rattle.vectors.proofs.Spans.{word_doubled}
use Rattle.vectors.proofs.double_word.Goals as goal

pub returns : goal.returns
returns c x hx =
    word_doubled c.args.v c.funnel.result c.args.m x c.requires.0 c.requires.1 c.ranges.v.fits c.funnel.ensures hx
