-- `printed::rows64`: the constant is the published table. Assumes nothing.
use mathlib.Core.Path.{refl}
use Rattle.rules.specs.Tables.{generator64}
use Rattle.identity.proofs.printed.rows64.Goals as goal

pub returns : goal.returns
unfolding generator64
returns c = refl
