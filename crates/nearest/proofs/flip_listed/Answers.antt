-- `nearest::flip_listed` meets its contract: the bits from place k on are still to be flipped. Assumes nothing.
use mathlib.Core.Path.{◌≡◌, refl, sym, ap, ◌∙◌}
use Prim.Native.Nat.{◌<◌}
use native.Mathlib.Omega.{arith}
use lib.ListN.{length, length-take}
use lib.Seq.{get_or-take}
use borrow.Author.Rules.{rules}
use Rattle.bits.specs.Bits.{flipped}
use Rattle.vectors.specs.Vectors.{wbit}
use Rattle.nearest.proofs.Searching.{flip_more, flip_all}
use Rattle.nearest.proofs.flip_listed.Goals as goal

pub loop-bit-init : goal.loop-bit-init
loop-bit-init c = (c.requires.0, λ bits e. refl)

pub flip_bit-requires : goal.flip_bit-requires
flip_bit-requires c =
    let l = c.args.l in
    let k = c.loop-bit.bit-index in
    let h : k < l.count = omega (arith, length-take l.count l.bits) in
    omega (arith, c.requires.2 k, get_or-take l.count l.bits k 0 h, c.loop-bit.invariant)

pub loop-bit-preserved : goal.loop-bit-preserved
loop-bit-preserved c =
    let b = c.loop-bit in
    let l = c.args.l in
    let k = b.bit-index in
    let h : k < l.count = omega (arith, length-take l.count l.bits) in (
      search rules,
      λ bits e.
          b.invariant.1 bits e
          ∙ flip_more l bits e c.requires.1 k (wbit b.y) _ h
          (c.flip_bit.ensures ∙ ap (flipped (wbit b.y)) (get_or-take l.count l.bits k 0 h)),
    )

pub returns : goal.returns
returns c =
    let b = c.loop-bit in
    let l = c.args.l in
    let three : length l.bits ≡ 3 = search rules in
    λ bits e.
    flip_all l bits e c.requires.1 b.bit-index (wbit b.y) (omega (arith, length-take l.count l.bits)) ∙ sym (b.invariant.1 bits e)
