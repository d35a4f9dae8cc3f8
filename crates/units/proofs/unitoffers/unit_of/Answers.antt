-- `unitoffers::unit_of`: code 1's record, or code 3's. Assumes nothing.
use native.Mathlib.Omega.{arith}
use Rattle.units.proofs.unitoffers.Offers.{offer_one, offer_other}
use Rattle.units.proofs.unitoffers.unit_of.Goals as goal

pub returns-in-1 : goal.returns-in-1
returns-in-1 c = offer_one c.args.code (omega arith)

pub returns-in_default : goal.returns-in_default
returns-in_default c = offer_other c.args.code (λ e. omega arith)
