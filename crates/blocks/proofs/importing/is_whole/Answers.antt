-- `importing::is_whole`: the tests are the definition's. Assumes nothing.
use borrow.Author.Tests.{eq-eqb, ne_eqb}
use Rattle.blocks.proofs.importing.is_whole.Goals as goal

pub returns-then-long-eq0 : goal.returns-then-long-eq0
returns-then-long-eq0 c = simp (eq-eqb _ _ c.if-long-eq0.true)

pub returns-else-long-eq0 : goal.returns-else-long-eq0
returns-else-long-eq0 c = simp (ne_eqb _ _ c.if-long-eq0.false)
