-- `judging::fault`: each answer by the tests that led to it. Assumes nothing.
use mathlib.Core.Path.{sym, ◌∙◌}
use borrow.Author.Tests.{not-true, not-false}
use Rattle.vectors.specs.Vectors.{wbit}
use Rattle.word.proofs.judging.Judging.{finds_telecommand, finds_fill, finds_own, finds_other}
use Rattle.word.proofs.judging.fault.Goals as goal
use mathlib.Core.Path.{ap}
use mathlib.Core.Bool.{not}

pub returns-then-not-o : goal.returns-then-not-o
returns-then-not-o c =
    λ n off is word h sh long m.
    finds_telecommand n off c.args.code.offer is (wbit c.args.y.now) (wbit c.args.z.now) word h sh long m _ c.is_quiet.ensures
    (not-false _ (ap not c.if-not-is_quiet.false)) (not-true _ c.if-not-o.true)

pub returns-then-some_set : goal.returns-then-some_set
returns-then-some_set c =
    λ n off is word h sh long m.
    finds_fill n off c.args.code.offer is (wbit c.args.y.now) (wbit c.args.z.now) word h sh long m _ c.is_quiet.ensures
    (not-false _ (ap not c.if-not-is_quiet.false)) (not-false _ c.if-not-o.false) (sym c.if-some_set.true ∙ c.some_set.ensures)

pub returns-then-own_parity : goal.returns-then-own_parity
returns-then-own_parity c =
    λ n off is word h sh long m.
    finds_own n off c.args.code.offer is (wbit c.args.y.now) (wbit c.args.z.now) word h sh long m _ c.is_quiet.ensures
    (not-false _ (ap not c.if-not-is_quiet.false)) (not-false _ c.if-not-o.false) (sym c.if-some_set.false ∙ c.some_set.ensures) _
    c.own_parity.ensures c.if-own_parity.true

pub returns-else-own_parity : goal.returns-else-own_parity
returns-else-own_parity c =
    λ n off is word h sh long m.
    finds_other n off c.args.code.offer is (wbit c.args.y.now) (wbit c.args.z.now) word h sh long m _ c.is_quiet.ensures
    (not-false _ (ap not c.if-not-is_quiet.false)) (not-false _ c.if-not-o.false) (sym c.if-some_set.false ∙ c.some_set.ensures) _
    c.own_parity.ensures c.if-own_parity.false
