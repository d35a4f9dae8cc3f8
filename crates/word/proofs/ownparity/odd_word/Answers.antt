-- `ownparity::odd_word` meets its contract. Assumes nothing.
use native.Mathlib.Omega.{arith}
use Rattle.word.proofs.ownparity.Words.{ones_odd}
use Rattle.word.proofs.ownparity.odd_word.Goals as goal

pub returns : goal.returns
returns c = (omega arith, λ w h. ones_odd w c.args.v h)
