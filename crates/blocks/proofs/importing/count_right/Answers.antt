-- `importing::count_right`: the tests are the definition's. Assumes nothing.
use borrow.Author.Tests.{le-leb, lt-leb}
use Rattle.blocks.proofs.importing.count_right.Goals as goal

pub returns-then-used-ge1 : goal.returns-then-used-ge1
returns-then-used-ge1 c = simp (c.if-last.true, le-leb _ _ c.if-used-ge1.true)

pub returns-else-used-ge1 : goal.returns-else-used-ge1
returns-else-used-ge1 c = simp (c.if-last.true, lt-leb _ _ c.if-used-ge1.false)

pub returns-else-last : goal.returns-else-last
returns-else-last c = simp c.if-last.false
