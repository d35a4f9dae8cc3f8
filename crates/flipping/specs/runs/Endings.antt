-- The numbers of endings.
use Rattle.std.specs.Prelude.{ℕ}
use Rattle.flipping.specs.declared.runs.Ending.{Ending}
use Rattle.flipping.specs.declared.runs.Ending.TheVariants.{Quiet, Stuck, Limit}

abbrev pub number_of : Ending → ℕ
number_of Quiet = 0
number_of Stuck = 5
number_of Limit = 6
