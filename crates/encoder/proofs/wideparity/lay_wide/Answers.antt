-- `wideparity::lay_wide` meets its contract: the checks of a word whose parity is 0 are those of its information. Assumes nothing.
use mathlib.Core.Path.{sym, ap, ◌∙◌, subst}
use Prim.Native.Nat.{ℕ, ◌*◌}
use native.Mathlib.Omega.{arith}
use Rattle.bits.specs.Bits.{Word, bit, number}
use Rattle.vectors.specs.Vectors.{wbit, later}
use Rattle.word.specs.ownparity.Odd.{odd_block}
use Rattle.rules.specs.Codes.{code, information}
use Rattle.syndromes.specs.Rows.{rowed, within, wide, summed}
use Rattle.catalogue.specs.tables.Flat.{Lends}
use Rattle.encoder.specs.parityrows.Rows.{informed}
use Rattle.encoder.proofs.parityrows.Informing.{laid_informed, wide_lends, odd_all}
use Rattle.syndromes.proofs.Trimming.{within_rowed}
use Rattle.encoder.proofs.parityrows.Laws.{wide_some, held_kept}
use Rattle.encoder.proofs.parityrows.Ready.{ready, short_of}
use Rattle.encoder.proofs.wideparity.lay_wide.Goals as goal

pub returns : goal.returns
returns c =
    let sh = c.args.sh in
    let k = c.requires.0 in
    let wideness = c.requires.1 in
    let t = c.lend511 in
    let added = c.add_wide-odd.ensures in
    let sums = summed sh t.new.h (later c.args.sent.unsent (bit c.args.sent.octets.now)) 14 in
    let cut = c.trim_rows.ensures
    ∙ ap (λ (z : Word). within (wide sh) sh.size sh.rows z) added.rows in
    let some = wide_some sh (ready k.number k.offers sh k.is).fits in
    record {
      kept = held_kept sh some sums (wbit c.trim_rows.new.z) (cut ∙ within_rowed (wide sh) sh.size sh.rows some sums);
      checks = λ n x off is ex short.
          let lends = subst (Lends n t.new.h) (sym wideness) (wide_lends n t.new.h t.ensures off (sym wideness ∙ is)) in
          let bits = (ready n off sh is).informs ∙ ap informed wideness in
          let size = ap (λ z. z.size) wideness in
          let none = short_of (information (code n)) x short in (
            ap (λ (v : ℕ). 4 * v) (added.odd.1 ∙ ap (λ (z : Word). number 14 (odd_block z)) (sym ex))
                ∙ odd_all x (λ i h. none i (omega (arith, bits))),
            cut
                ∙ ap (λ (z : Word). within (wide sh) sh.size sh.rows (rowed (wide sh) sh.rows (summed sh t.new.h z 14))) (sym
                ex)
                ∙ laid_informed n sh t.new.h 14 x lends (omega (arith, ap (λ z. z.blocks) wideness))
                (λ i h. none i (omega (arith, bits, size))),
          );
    }
