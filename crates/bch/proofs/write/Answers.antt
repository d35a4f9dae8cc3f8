-- `bch::write` meets its contract: the octets of the first word of the vector that is stored. Assumes nothing.
use mathlib.Core.Path.{refl, ◌∙◌}
use Rattle.bch.proofs.Words.{written_first}
use Rattle.bch.proofs.write.Goals as goal

pub returns : goal.returns
returns c =
    λ x h. c.store.ensures ∙ written_first _ c.args.v _ x c.requires refl h
