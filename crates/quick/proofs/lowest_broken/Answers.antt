-- `quick::lowest_broken`: by the width of a row. Assumes nothing.

use Rattle.quick.proofs.lowest_broken.Goals as goal

pub lowest-requires : goal.lowest-requires
lowest-requires c = c.if-sh-eq511.true

pub returns-then-sh-eq511 : goal.returns-then-sh-eq511
returns-then-sh-eq511 c = c.lowest.ensures

pub lowest-requires-2 : goal.lowest-requires-2
lowest-requires-2 c = c.if-sh-eq511.false

pub returns : goal.returns
returns c = c.lowest-2.ensures
