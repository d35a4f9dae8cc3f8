-- `onedigit::laid::parity_511`: what the library's places, three to a block, stand for, computed. Assumes nothing.
use mathlib.Core.Path.{◌≡◌, refl, ap, ◌∙◌}
use Rattle.rules.specs.Tables.{parity511}
use Rattle.catalogue.specs.tables.Flat.{pairs, flat16}
use Rattle.identity.specs.ties.Flat.{pieces, parity_of}
use Rattle.onedigit.specs.Laid.{threes}
use Rattle.onedigit.proofs.laid.parity_511.Goals as goal

stands : parity_of 511 2 16 (threes (flat16 (pairs parity511))) ≡ parity511
unfolding pieces threes flat16 parity511
stands = refl

pub returns : goal.returns
returns c = ap (parity_of 511 2 16) (c.spread.ensures ∙ ap threes c.lend511.ensures) ∙ stands
