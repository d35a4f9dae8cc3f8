-- `printed::rows32`: the constant is the published table. Assumes nothing.
use mathlib.Core.Path.{refl}
use Rattle.rules.specs.Tables.{generator32}
use Rattle.identity.proofs.printed.rows32.Goals as goal

pub returns : goal.returns
unfolding generator32
returns c = refl
