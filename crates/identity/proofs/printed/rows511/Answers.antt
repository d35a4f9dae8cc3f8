-- `printed::rows511`: the constant is the published table. Assumes nothing.
use mathlib.Core.Path.{refl}
use Rattle.rules.specs.Tables.{generator511}
use Rattle.identity.proofs.printed.rows511.Goals as goal

pub returns : goal.returns
unfolding generator511
returns c = refl
