-- `wideparity::add_wide_block` meets its contract: the block is doubled, and added turned. Assumes nothing.
use mathlib.Core.Path.{sym, ap, ◌∙◌}
use Prim.Native.Nat.{ℕ}
use Rattle.bits.specs.Bits.{Word, bit}
use Rattle.vectors.specs.Vectors.{wbit, later}
use Rattle.syndromes.specs.Rows.{plus, doubled, turned, block_rows}
use Rattle.encoder.proofs.wideparity.add_wide_block.Goals as goal

pub returns : goal.returns
returns c =
    let a = c.args in
    let sh = a.parity.shape in
    let x = later a.sent.unsent (bit a.sent.octets.now) in
    let block = c.double_block-more in record {
      odd = block.ensures.odd;
      rows = c.add_block.ensures
          ∙ ap (λ (d : Word). plus (wbit a.z.now) (block_rows a.parity a.b (turned d)))
          (block.ensures.twofold ∙ ap (λ (m : ℕ). doubled m x a.b) (sym c.requires.0));
    }
