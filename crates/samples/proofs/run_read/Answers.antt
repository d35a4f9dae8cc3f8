-- `samples::run_read`: the run, with room for the table and the syndrome. Assumes nothing.
use Rattle.vectors.proofs.Filling.{zero_words}
use Rattle.samples.proofs.run_read.Goals as goal

pub run_within-requires : goal.run_within-requires
run_within-requires c =
    (c.requires, zero_words 16)

pub returns : goal.returns
returns c = c.run_within.ensures
