-- `printed::rows16`: the constant is the published table. Assumes nothing.
use mathlib.Core.Path.{refl}
use Rattle.rules.specs.Tables.{generator16}
use Rattle.identity.proofs.printed.rows16.Goals as goal

pub returns : goal.returns
unfolding generator16
returns c = refl
