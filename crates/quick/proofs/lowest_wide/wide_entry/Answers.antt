-- `quickwide::wide_entry`: a block read on, or round its end. Assumes nothing.
use Prim.Native.Nat.{◌+◌, ◌-◌}
use native.Mathlib.Omega.{arith}
use Rattle.bits.specs.Bits.{bit}
use Rattle.rules.specs.Encoding.{lifted}
use Rattle.quick.proofs.groups.Groups.{reached_none}
use Rattle.quick.proofs.lowest_wide.Windows.{lifted_high, turned_on, turned_round}
use Rattle.quick.proofs.lowest_wide.wide_entry.Goals as goal

pub returns-then-s-end : goal.returns-then-s-end
returns-then-s-end c code e =
    let a = c.args in
    turned_on a.m (lifted code (bit a.sent.octets.now)) a.p a.s c.lifted_from.result
    (omega arith) (c.lifted_from.ensures code e)

pub returns-then-s-m : goal.returns-then-s-m
returns-then-s-m c code e =
    let a = c.args in
    turned_round a.m (lifted code (bit a.sent.octets.now)) a.p a.s
    c.octets_to.result c.lifted_from-then-s-m.result c.funnel.result
    (omega arith) (omega arith) (omega arith)
    (lifted_high code a.sent.octets.now a.sent.unsent e (a.p + (a.m - 64)) c.octets_to.result (omega arith) c.octets_to.ensures)
    (c.lifted_from-then-s-m.ensures code e) c.funnel.ensures

pub returns : goal.returns
returns c code e =
    let a = c.args in
    λ i hi. reached_none a.m (lifted code (bit a.sent.octets.now)) a.p a.s i (omega arith)
