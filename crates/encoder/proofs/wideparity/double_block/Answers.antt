-- `wideparity::double_block` meets its contract: the block is cut, its bits are counted, and it is doubled. Assumes nothing.
use mathlib.Core.Path.{ap, ◌∙◌}
use Prim.Native.Nat.{ℕ, ◌+◌, ◌*◌, ◌≤◌}
use lib.ListN.{length}
use borrow.Author.Rules.{rules}
use Rattle.bits.specs.Bits.{bit}
use Rattle.vectors.specs.Vectors.{wbit, from, later, twice}
use Rattle.vectors.proofs.Spans.{up_to_again}
use Rattle.word.proofs.ownparity.Words.{cut_odd}
use Rattle.encoder.proofs.wideparity.double_block.Goals as goal

pub double-requires : goal.double-requires
double-requires c =
    let cut = c.cut_block in
    let x = later c.args.sent.unsent (bit c.args.sent.octets.now) in (
      up_to_again 511 (from (c.args.b * 511) x) (wbit cut.new.v) cut.ensures,
      search rules,
      search rules,
      search rules,
      search rules,
    )

pub returns : goal.returns
returns c =
    let a = c.args in
    let x = later a.sent.unsent (bit a.sent.octets.now) in
    let cut = c.cut_block in
    let odd = c.odd_of in
    let room : 511 ≤ length cut.new.v * 64 = search rules in
    record {
      odd = ap (λ (n : ℕ). 2 * a.odd + n) (odd.ensures.1 ∙ cut_odd cut.new.v 511 (from (a.b * 511) x) cut.ensures room);
      twofold = c.double.ensures ∙ ap (twice 511) cut.ensures;
    }
