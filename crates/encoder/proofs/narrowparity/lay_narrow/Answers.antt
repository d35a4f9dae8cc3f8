-- `narrowparity::lay_narrow` meets its contract: the checks of a word whose parity is 0 are those of its information. Assumes nothing.
use mathlib.Core.Path.{sym, ap, ◌∙◌, subst}
use native.Mathlib.Omega.{arith}
use Rattle.bits.specs.Bits.{Word, bit}
use Rattle.rules.specs.Codes.{code, information}
use Rattle.syndromes.specs.Rows.{within, wide}
use Rattle.catalogue.specs.tables.Flat.{Lends}
use Rattle.encoder.specs.parityrows.Rows.{informed}
use Rattle.encoder.proofs.parityrows.Informing.{laid_informed}
use Rattle.encoder.proofs.parityrows.Ready.{ready, short_of}
use Rattle.encoder.proofs.narrowparity.lay_narrow.Goals as goal

pub returns : goal.returns
returns c =
    λ n off is short.
    let sh = c.args.sh in
    let x = bit c.args.octets.now in
    let narrow = c.requires.1 in
    let t = c.lend_narrow in
    let own = t.ensures.0 n off (ap (λ z. z.size) is) in
    let lends = subst (Lends n t.new.h) (own.0 ∙ sym is) own.1 in
    let bits = (ready n off sh is).informs ∙ ap informed narrow in
    c.trim_rows.ensures
    ∙ ap (λ (z : Word). within (wide sh) sh.size sh.rows z) c.add_narrow.ensures
    ∙ laid_informed n sh t.new.h 4 x lends (omega (arith, ap (λ z. z.blocks) narrow))
    (λ i h. short_of (information (code n)) x short i (omega (arith, bits)))
