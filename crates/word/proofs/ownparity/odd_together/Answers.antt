-- `ownparity::odd_together` meets its contract: the blocks that are counted with a parity block are those of its mask. Assumes nothing.
use lib.Dec.{lit<}
use lib.ListN.{get_or}
use Rattle.word.specs.ownparity.Odd.{odd_block, counted}
use Rattle.word.proofs.ownparity.Words.{shared_odd}
use Rattle.word.proofs.ownparity.odd_together.Goals as goal

pub returns : goal.returns
returns c = λ x e.
    let v = c.args.v in (
      shared_odd 16 (get_or counted 0 0) v c.odd_word.result (odd_block x) e (lit< tt) c.odd_word.ensures.1,
      shared_odd 16 (get_or counted 1 0) v c.odd_word-2.result (odd_block x) e (lit< tt) c.odd_word-2.ensures.1,
    )
