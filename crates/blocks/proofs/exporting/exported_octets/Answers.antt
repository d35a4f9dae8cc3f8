-- `exporting::exported_octets`: the room that the definition has. Assumes nothing.
use borrow.Author.Tests.{lt-ltb, le-ltb}
use Rattle.blocks.proofs.exporting.exported_octets.Goals as goal

pub returns-then-long-gt64512 : goal.returns-then-long-gt64512
returns-then-long-gt64512 c = simp (lt-ltb _ _ c.if-long-gt64512.true)

pub returns : goal.returns
returns c = simp (le-ltb _ _ c.if-long-gt64512.false)
