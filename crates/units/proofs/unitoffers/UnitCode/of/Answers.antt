-- `unitoffers::UnitCode::of`: what the record says. Assumes nothing.
use Rattle.units.proofs.unitoffers.Offers.{offer_is}
use Rattle.units.proofs.unitoffers.UnitCode.of.Goals as goal

pub invariant_of-result : goal.invariant_of-result
invariant_of-result c = record { offered = offer_is c.args.code _ c.unit_of-u.ensures c.if-u.true }

pub returns-else-u : goal.returns-else-u
returns-else-u c = offer_is c.args.code _ c.unit_of-u.ensures c.if-u.false
