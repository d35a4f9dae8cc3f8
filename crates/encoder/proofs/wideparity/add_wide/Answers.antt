-- `wideparity::add_wide` meets its contract: after b passes the rows have the first b blocks. Assumes nothing.
use mathlib.Core.Path.{◌≡◌, sym, ap, ◌∙◌, subst}
use Prim.Native.Nat.{ℕ, ◌+◌, ◌^◌, ◌<◌}
use native.Mathlib.Omega.{arith}
use Rattle.bits.specs.Bits.{Word, bit, number}
use Rattle.bits.proofs.Octets.{number_lt}
use Rattle.vectors.specs.Vectors.{later}
use Rattle.vectors.proofs.Octets.{fits}
use Rattle.word.specs.ownparity.Odd.{odd_block}
use Rattle.word.proofs.ownparity.Words.{number_start, number_more}
use Rattle.syndromes.specs.Rows.{plus, doubled, turned, block_rows, word_rows}
use Rattle.syndromes.proofs.Laid.{summed_none, summed_more}
use Rattle.encoder.proofs.wideparity.add_wide.Goals as goal

pub loop-b-init : goal.loop-b-init
loop-b-init c =
    let a = c.args in
    let x = later a.sent.unsent (bit a.sent.octets.now) in (
      omega arith,
      omega arith,
      number_start (odd_block x),
      c.requires.4 ∙ summed_none a.parity.places.now a.parity.shape c.args.parity.fit x,
    )

pub loop-b-preserved : goal.loop-b-preserved
loop-b-preserved c =
    let a = c.args in
    let l = c.loop-b in
    let x = later a.sent.unsent (bit a.sent.octets.now) in
    let sh = a.parity.shape in
    let block = c.add_wide_block-odd in
    let e : block.result ≡ number (l.b + 1) (odd_block x) =
    block.ensures.odd ∙ number_more l.b l.odd (odd_block x) l.invariant.2 in (
      omega arith,
      fits (l.b + 1) 14 block.result (subst (λ (n : ℕ). n < 2 ^ (l.b + 1)) (sym e) (number_lt (l.b + 1) (odd_block x))) (omega arith),
      e,
      block.ensures.rows
          ∙ ap (λ (z : Word). plus z (block_rows a.parity l.b (turned (doubled sh.size x l.b))))
          l.invariant.3
          ∙ summed_more a.parity.places.now sh c.args.parity.fit x l.b,
    )

pub returns : goal.returns
returns c =
    let a = c.args in
    let l = c.loop-b in
    let x = later a.sent.unsent (bit a.sent.octets.now) in
    let all : l.b ≡ 14 = omega arith in
    record {
      odd = (l.invariant.1, l.invariant.2 ∙ ap (λ (n : ℕ). number n (odd_block x)) all);
      rows = l.invariant.3 ∙ ap (λ (n : ℕ). word_rows a.parity x n) all;
    }
