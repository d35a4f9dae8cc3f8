-- `bch::odd` meets its contract. Assumes nothing.
use native.Mathlib.Omega.{arith}
use Rattle.word.proofs.ownparity.Words.{ones_odd}
use Rattle.bch.proofs.odd.Goals as goal

pub returns : goal.returns
returns c = (omega arith, ones_odd 64 c.args.v (omega arith))
