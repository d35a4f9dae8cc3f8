-- `quickwide::double_blocks`: after b passes the first b blocks stand twice over. Assumes nothing.
use mathlib.Core.Path.{◌≡◌, ap, ◌∙◌}
use Prim.Native.Nat.{◌+◌, ◌-◌, ◌*◌}
use native.Mathlib.Nat.{mul-le-mul_right}
use native.Mathlib.Omega.{arith}
use lib.ListN.{length, take, drop, length-take, length-drop}
use borrow.Rule.Slice.PartMut.{put_mid, same_len_mid}
use borrow.Author.Rules.{rules}
use Rattle.vectors.specs.Vectors.{wbit}
use Rattle.quick.proofs.lowest_wide.Doubled.{one_doubled}
use Rattle.quick.proofs.lowest_wide.double_blocks.Goals as goal

pub loop-b-init : goal.loop-b-init
loop-b-init c = (omega arith, c.requires.5, λ b i l h. absurd (omega arith))

pub overflow_mul-b : goal.overflow_mul-b
overflow_mul-b c =
    let b = c.loop-b.b in
    omega (arith, c.requires.3, mul-le-mul_right {m = b} {n = c.args.sh.blocks} c.args.sh.size (omega arith))

pub double_block-requires : goal.double_block-requires
double_block-requires c =
    let l = c.loop-b in
    let room = mul-le-mul_right {m = l.b + 1} {n = c.args.sh.blocks} c.args.sh.size (omega arith) in (
      omega (arith, c.requires.0),
      c.requires.1,
      omega (arith, room, c.requires.0, c.requires.3, c.requires.4),
      length-take (16 * l.b + 16 - 16 * l.b) (drop (16 * l.b) l.d) ∙ omega (arith, length-drop (16 * l.b) l.d, l.invariant.1),
    )

pub loop-b-preserved : goal.loop-b-preserved
loop-b-preserved c =
    let l = c.loop-b in
    let new = c.double_block.new.d in
    let m : 16 * l.b + 16 - 16 * l.b ≡ 16 = omega arith in
    let same : length new ≡ length (take (16 * l.b + 16 - 16 * l.b) (drop (16 * l.b) l.d)) = search rules in
    let size = length-take (16 * l.b + 16 - 16 * l.b) (drop (16 * l.b) l.d) in
    let long : length new ≡ 16 = same ∙ size ∙ omega (arith, length-drop (16 * l.b) l.d, l.invariant.1) in
    let more = one_doubled c.args.sh.size (wbit c.args.y.now) l.b l.d new l.invariant.1 long (omega arith) l.invariant.2
    c.double_block.ensures in (
      omega arith,
      same_len_mid (16 * l.b) (16 * l.b + 16 - 16 * l.b) l.d new same ∙ l.invariant.1,
      λ b i g h. ap (λ z. wbit (put_mid (16 * l.b) z l.d new) (1024 * b + i)) m ∙ more b i g h,
    )

pub returns : goal.returns
returns c =
    let l = c.loop-b in
    λ b i g h. l.invariant.2 b i (omega (arith, c.requires.2, g)) h
