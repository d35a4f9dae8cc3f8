-- `judging::judge`: each number by the tests that led to it. Assumes nothing.
use borrow.Author.Tests.{not-true, not-false}
use Rattle.vectors.specs.Vectors.{wbit}
use Rattle.word.proofs.judging.Judging.{by_telecommand, by_own, by_other}
use Rattle.word.proofs.judging.judge.Goals as goal

pub returns-then-not-code : goal.returns-then-not-code
returns-then-not-code c =
    λ n off is r e w q none.
    by_telecommand n off c.args.code.offer is c.args.number (wbit c.args.y.now) c.if-number-ne0.false r e w q none
    (not-true _ c.if-not-code.true)

pub returns-then-own_parity : goal.returns-then-own_parity
returns-then-own_parity c =
    λ n off is r e w q none.
    by_own n off c.args.code.offer is c.args.number (wbit c.args.y.now) c.if-number-ne0.false r e w q none
    (not-false _ c.if-not-code.false) _ c.own_parity.ensures c.if-own_parity.true

pub returns-else-own_parity : goal.returns-else-own_parity
returns-else-own_parity c =
    λ n off is r e w q none.
    by_other n off c.args.code.offer is c.args.number (wbit c.args.y.now) c.if-number-ne0.false r e w q none
    (not-false _ c.if-not-code.false) _ c.own_parity.ensures c.if-own_parity.false
