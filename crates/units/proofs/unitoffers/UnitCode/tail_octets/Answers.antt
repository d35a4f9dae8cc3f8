-- `unitoffers::UnitCode::tail_octets`: the length that the record has. Assumes nothing.
use native.Mathlib.Omega.{arith}
use Rattle.units.proofs.unitrules.Shapes.{sizes}
use Rattle.units.proofs.unitoffers.Offers.{fixed}
use Rattle.units.proofs.unitoffers.UnitCode.tail_octets.Goals as goal

pub returns : goal.returns
returns c =
    let n = c.args.self.number in
    let f = fixed n c.unit_of-u.result c.unit_of-u.ensures c.args.self.offered in
    let s = sizes n c.args.self.offered in
    (f.tail, omega (arith, f.tail, s.short))
