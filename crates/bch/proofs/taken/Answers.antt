-- `bch::taken` meets its contract: the first word of the vector that is loaded. Assumes nothing.
use native.Mathlib.Omega.{arith}
use Rattle.vectors.proofs.Filling.{zero_words}
use Rattle.bch.proofs.Words.{first_word}
use Rattle.bch.proofs.taken.Goals as goal

pub load-requires : goal.load-requires
load-requires c = (omega arith, zero_words 2)

pub returns : goal.returns
returns c =
    first_word _ c.args.octets.now c.load.ensures
