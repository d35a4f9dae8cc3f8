-- `readings::is_tail`: one code has a tail, and the other none. Assumes nothing.
use mathlib.Core.Path.{ap, ◌∙◌}
use Rattle.units.specs.unitrules.Units.{tail, same as same_of}
use Rattle.units.proofs.unitoffers.Offers.{front_tail}
use Rattle.units.proofs.readings.Compared.{same_is}
use Rattle.units.proofs.readings.is_tail.Goals as goal

pub returns : goal.returns
unfolding tail
returns c =
    c.eq.ensures ∙ same_is c.args.end.now _
    ∙ ap (same_of c.args.end.now) (front_tail c.args.code.number c.args.code.offered _ c.tail_octets-long.ensures.0)
