-- `quicknarrow::lowest`: the octets loaded, and their rows. Assumes nothing.
use mathlib.Core.Path.{sym, ap, ◌∙◌}
use native.Mathlib.Omega.{arith}
use Rattle.rules.specs.Codes.{code}
use Rattle.rules.specs.Checks.{lowest}
use Rattle.bits.specs.Bits.{bit}
use Rattle.catalogue.proofs.offer.Offers.{fixed}
use Rattle.word.proofs.received.Handed.{taken_whole}
use Rattle.vectors.proofs.Filling.{zero_words}
use Rattle.quick.proofs.groups.Shapes.{checked}
use Rattle.quick.proofs.lowest_narrow.lowest.Goals as goal

pub load-requires : goal.load-requires
load-requires c =
    let k = c.args.received.code.known in
    let w = (checked k.number k.offers).narrow (λ e. c.requires (ap (λ o. o.shape.size) k.is ∙ e)) in
    let word = c.args.received.whole ∙ ap (λ o. o.word) k.is in
    (omega (arith, w.0, word), zero_words 17)

pub returns : goal.returns
returns c n off is =
    let w = (checked n off).narrow (λ e. c.requires (ap (λ o. o.shape.size) is ∙ e)) in
    let lends = (c.lend_narrow-sh.ensures.0 n off (ap (λ o. o.shape.size) is)).1 in
    let bits = taken_whole (code n) (sym w.1 ∙ (fixed n off).unsent) (bit c.args.received.word.now) in
    c.rows_lowest.ensures (code n) lends.lent
    ∙ ap (lowest (code n)) (c.load.ensures ∙ bits)
