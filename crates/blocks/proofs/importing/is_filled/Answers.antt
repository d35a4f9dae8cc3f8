-- `importing::is_filled` meets its contract: the octets from the used ones to the check. Assumes nothing.
use mathlib.Core.Path.{◌∙◌}
use Rattle.blocks.proofs.Reading.{filling_range}
use Rattle.blocks.proofs.importing.is_filled.Goals as goal

pub returns : goal.returns
returns c =
    c.clear.ensures ∙ filling_range c.args.block.now c.args.used c.requires.1
