-- `quick::quick_taken`: the lowest broken check, or all of them. Assumes nothing.
use mathlib.Core.Path.{ap, ◌∙◌}
use Prim.Native.Nat.{◌*◌}
use native.Mathlib.Omega.{arith}
use Rattle.bits.specs.Bits.{bit}
use Rattle.rules.specs.Codes.{code}
use Rattle.rules.specs.Encoding.{lifted}
use Rattle.rules.proofs.Lowest.{lowest_le}
use Rattle.quick.proofs.groups.Shapes.{checked}
use Rattle.quick.proofs.quick_taken.Goals as goal

pub overflow_mul-sh : goal.overflow_mul-sh
overflow_mul-sh c =
    let known = c.args.received.code.known in
    let k = checked known.number known.offers in
    omega (arith, ap (λ o. o.shape.rows * o.shape.size) known.is ∙ k.checks_are, k.few)

pub overflow_cast-sh : goal.overflow_cast-sh
overflow_cast-sh c =
    let known = c.args.received.code.known in
    let k = checked known.number known.offers in
    omega (arith, ap (λ o. o.shape.rows * o.shape.size) known.is ∙ k.checks_are, k.few)

pub answer-requires : goal.answer-requires
answer-requires c =
    let known = c.args.received.code.known in
    let n = known.number in
    let x = lifted (code n) (bit c.args.received.word.now) in
    omega (arith, c.lowest_broken-lowest.ensures n known.offers known.is, lowest_le (code n) x, (checked n known.offers).few)

pub returns : goal.returns
returns c n off is =
    c.answer.ensures (code n) (lifted (code n) (bit c.args.received.word.now))
    (ap (λ o. o.shape.rows * o.shape.size) is ∙ (checked n off).checks_are) (c.lowest_broken-lowest.ensures n off is)
