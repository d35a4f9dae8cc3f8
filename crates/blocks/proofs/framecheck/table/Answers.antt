-- `framecheck::table`: the constants are the definition's. Assumes nothing.
use mathlib.Core.Path.{refl}
use Rattle.blocks.proofs.framecheck.table.Goals as goal

pub invariant_of-result : goal.invariant_of-result
invariant_of-result c = record { right = refl }
