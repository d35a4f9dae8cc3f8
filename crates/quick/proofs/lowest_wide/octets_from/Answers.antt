-- `quickwide::octets_from`: eight octets and the next. Assumes nothing.
use Prim.Native.Nat.{◌+◌, ◌/◌, ◌%◌}
use native.Mathlib.Omega.{arith}
use Rattle.quick.proofs.lowest_wide.Windows.{nine}
use Rattle.quick.proofs.lowest_wide.octets_from.Goals as goal

pub overflow_cast-octets : goal.overflow_cast-octets
overflow_cast-octets c = omega (arith, c.type_inv.octets (c.args.p / 8 + 8))

pub returns : goal.returns
returns c =
    let a = c.args in
    nine a.octets.now (a.p / 8) (a.p % 8) a.p c.eight.result c.funnel.result
    (omega arith) (omega arith) c.eight.ensures c.funnel.ensures
