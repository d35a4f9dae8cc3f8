-- `exporting::put_blocks`: the blocks so far are the first ones. Assumes nothing.
use mathlib.Core.Path.{◌≡◌, refl, sym, ap, ◌∙◌, subst}
use Prim.Native.Nat.{◌≤◌, ◌*◌, zero-le}
use native.Mathlib.Omega.{arith}
use lib.ListN.{length, take}
use Rattle.blocks.specs.Blocks.{block, exported}
use Rattle.blocks.proofs.Lists.{filled}
use Rattle.blocks.proofs.Writing.{piece_range, piece_few, block_room, still_long, blocks_more}
use Rattle.blocks.proofs.exporting.put_blocks.Goals as goal

pub loop-k-init : goal.loop-k-init
unfolding exported
loop-k-init c = (zero-le, c.requires.2, refl)

pub put_block-requires : goal.put_block-requires
put_block-requires c =
    let h = c.loop-k in (
      subst (λ l. length l ≤ 504) (sym (piece_range h.k c.min-end.result c.args.octets.now (omega arith)
          (omega (arith, c.min-end.ensures))))
          (piece_few h.k c.args.octets.now),
      block_room c.args.octets.now h.out c.args.n h.k (omega arith) h.invariant.1,
    )

pub loop-k-preserved : goal.loop-k-preserved
loop-k-preserved c =
    let w = c.put_block in
    let s = c.min-end in
    let h = c.loop-k in
    let o = c.args.octets.now in
    let e = w.ensures ∙ ap (block h.k) (piece_range h.k s.result o (omega arith) (omega (arith, s.ensures))) in (
      omega arith,
      still_long o h.out c.args.n h.k (omega arith) h.invariant.1 w.new.out e,
      blocks_more o h.out c.args.n h.k (omega arith) h.invariant.1 w.new.out e h.invariant.2,
    )

pub returns : goal.returns
returns c =
    let h = c.loop-k in
    let e : h.k ≡ c.args.n = omega arith in
    filled h.out (exported c.args.n 0 c.args.octets.now) (512 * c.args.n) h.invariant.1
    (ap (λ z. take (512 * z) h.out) (sym e) ∙ h.invariant.2 ∙ ap (λ z. exported z 0 c.args.octets.now) e)
