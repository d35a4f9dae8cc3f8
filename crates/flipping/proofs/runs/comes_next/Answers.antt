-- `runs::comes_next`: what comes next, from whether a check is broken. Assumes nothing.
use mathlib.Core.Path.{sym, ◌∙◌}
use borrow.Author.Tests.{eqb-true, eqb-false}
use Rattle.rules.specs.Checks.{broken}
use Rattle.rules.proofs.Choosing.{quiet_next}
use Rattle.flipping.proofs.runs.comes_next.Goals as goal

pub returns-then-is_quiet : goal.returns-then-is_quiet
returns-then-is_quiet c = (
  tt,
  λ k l u x e. quiet_next k x
      (eqb-true (broken k x) 0 (sym (c.is_quiet.ensures k _ _ x c.args.parity.fit l e) ∙ c.if-is_quiet.true)),
)

pub returns-then-parity-eq1 : goal.returns-then-parity-eq1
returns-then-parity-eq1 c = (
  c.next_narrow.ensures.0,
  λ k l u x e. c.next_narrow.ensures.1 k l u x e
      (eqb-false (broken k x) 0 (sym (c.is_quiet.ensures k _ _ x c.args.parity.fit l e)
      ∙ c.if-is_quiet.false)),
)

pub returns : goal.returns
returns c = (
  c.next_bounded.ensures.0,
  λ k l u x e. c.next_bounded.ensures.1 k l u x e
      (eqb-false (broken k x) 0 (sym (c.is_quiet.ensures k _ _ x c.args.parity.fit l e)
      ∙ c.if-is_quiet.false)),
)
