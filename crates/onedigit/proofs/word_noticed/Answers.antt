-- `onedigit::word_noticed` meets its contract: what was there is put back.
use mathlib.Core.Path.{ap}
use mathlib.Core.Bool.{not}
use Rattle.onedigit.proofs.Counts.{put_back}
use Rattle.onedigit.proofs.word_noticed.Goals as goal

pub returns : goal.returns
returns c =
    let a = c.args in
    record { noticed = λ printed fits. ap not (c.tied-whole.ensures printed fits); kept = put_back a.generator.now a.at a.word }
