-- `quickwide::lifted_from`: the bits that are not sent are zeros. Assumes nothing.
use native.Mathlib.Omega.{arith}
use Rattle.quick.proofs.lowest_wide.Windows.{lifted_low, lifted_high}
use Rattle.quick.proofs.lowest_wide.lifted_from.Goals as goal

pub returns-then-p-u : goal.returns-then-p-u
returns-then-p-u c code e =
    let a = c.args in
    lifted_low code a.sent.octets.now a.sent.unsent e a.p c.eight.result c.if-p-u.true
    a.sent.few c.eight.type_inv c.eight.ensures

pub returns : goal.returns
returns c code e =
    let a = c.args in
    lifted_high code a.sent.octets.now a.sent.unsent e a.p c.octets_from.result
    (omega (arith, c.if-p-u.false)) c.octets_from.ensures
