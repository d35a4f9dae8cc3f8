-- `readings::is_started`: the first eight octets. Assumes nothing.
use mathlib.Core.Path.{◌∙◌}
use lib.ListN.{take}
use Rattle.units.specs.unitrules.Units.{start, started}
use Rattle.units.proofs.readings.Compared.{same_turned}
use Rattle.units.proofs.readings.is_started.Goals as goal

pub returns : goal.returns
unfolding started
returns c = c.starts_with.ensures.value ∙ same_turned start (take 8 c.args.unit.now)
