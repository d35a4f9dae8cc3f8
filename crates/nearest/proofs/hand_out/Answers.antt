-- `nearest::hand_out` meets its contract: flipped, and stored. Assumes nothing.
use mathlib.Core.Path.{ap, ap₂, ◌∙◌}
use Rattle.bits.specs.Bits.{octets}
use Rattle.vectors.specs.Vectors.{wbit}
use Rattle.nearest.proofs.Reaching.{from_first}
use Rattle.nearest.proofs.hand_out.Goals as goal

pub returns : goal.returns
returns c =
    let f = c.flip_listed in
    λ bits q.
    c.store.ensures
    ∙ ap₂ octets c.requires.0 (from_first (wbit f.new.y))
    ∙ ap (octets 16) (f.ensures bits q)
