-- `onedigit::laid::place`: the third place of a block, and the other two. Assumes nothing.
use mathlib.Core.Path.{sym, ap}
use Prim.Native.Nat.{◌+◌, ◌*◌, ◌/◌, ◌%◌}
use lib.ListN.{get_or}
use borrow.Author.Tests.{eq-eqb, ne_eqb}
use Rattle.bits.specs.Bits.{when◌then◌else◌}
use Rattle.onedigit.proofs.laid.place.Goals as goal

pub returns-then-i-eq2 : goal.returns-then-i-eq2
returns-then-i-eq2 c =
    let a = c.args in
    sym (ap (λ b. when b then 65535 else get_or a.h.now (a.i / 3 * 2 + a.i % 3) 0) (eq-eqb (a.i % 3) 2 c.if-i-eq2.true))

pub returns : goal.returns
returns c =
    let a = c.args in
    sym (ap (λ b. when b then 65535 else get_or a.h.now (a.i / 3 * 2 + a.i % 3) 0) (ne_eqb (a.i % 3) 2 c.if-i-eq2.false))
