-- `nearest::searched` meets its contract. Assumes nothing.
use mathlib.Core.Path.{ap, ◌∙◌}
use native.Mathlib.Omega.{arith}
use Rattle.vectors.proofs.Filling.{zero_words}
use Rattle.nearest.specs.Nearest.{searched}
use Rattle.nearest.proofs.searched.Goals as goal

pub load-requires : goal.load-requires
load-requires c = (omega arith, zero_words 3)

pub returns : goal.returns
returns c =
    c.mended.ensures
    ∙ ap (λ z. searched c.args.reach z c.args.out.now) c.load.ensures
