-- `onedigit::laid::parity_64`: what the library's places, three to a block, stand for, computed. Assumes nothing.
use mathlib.Core.Path.{◌≡◌, refl, ap, ◌∙◌}
use Rattle.rules.specs.Tables.{parity64}
use Rattle.catalogue.specs.tables.Flat.{pairs, flat8}
use Rattle.identity.specs.ties.Flat.{pieces, parity_of}
use Rattle.onedigit.specs.Laid.{threes}
use Rattle.onedigit.proofs.laid.parity_64.Goals as goal

stands : parity_of 64 4 8 (threes (flat8 (pairs parity64))) ≡ parity64
unfolding pieces threes flat8 parity64
stands = refl

pub returns : goal.returns
returns c = ap (parity_of 64 4 8) (c.spread.ensures ∙ ap threes c.lend64.ensures) ∙ stands
