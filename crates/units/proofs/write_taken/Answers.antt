-- `units::write_taken`: the tail behind the codeblocks. Assumes nothing.
use mathlib.Core.Path.{◌≡◌, sym, ap, ap₂, ◌∙◌}
use mathlib.Core.List.{List, ◌++◌, append_assoc}
use Prim.Native.Nat.{ℕ, ◌+◌, ◌-◌, ◌*◌}
use native.Mathlib.Omega.{arith}
use lib.ListN.{length, drop, length-append}
use lib.Seq.{length-take-le}
use borrow.Rule.Slice.PartMut.{put_mid}
use Rattle.rules.specs.Codes.{code as code_of}
use Rattle.randomiser.specs.Randomiser.{telecommand, randomised}
use Rattle.randomiser.proofs.Randomising.{length_randomised}
use Rattle.units.specs.unitrules.Units.{start, tail, blocks_for, codeblocks, unit}
use Rattle.units.proofs.unitrules.Blocks.{length_codeblocks}
use Rattle.units.proofs.Assembled.{put_last}
use Rattle.units.proofs.write_taken.Goals as goal

pub slice_bounds-write_front-end-2 : goal.slice_bounds-write_front-end-2
slice_bounds-write_front-end-2 c =
    sym (length-take-le (length c.args.out.now - c.tail_octets.result) c.args.out.now (omega arith))

pub write_front-requires : goal.write_front-requires
write_front-requires c =
    length-take-le (length c.args.out.now - c.tail_octets.result) c.args.out.now (omega arith)
    ∙ omega (arith, c.requires, c.tail_octets.ensures.0)

pub returns : goal.returns
unfolding unit
returns c =
    let n = c.args.code.number in
    let info = c.args.information.now in
    let out = c.args.out.now in
    let room : ℕ = length out - c.tail_octets.result in
    let blocks : List ℕ = randomised telecommand 0 (codeblocks n info (blocks_for n (length info))) in
    let long : length (start ++ blocks) ≡ 8 + blocks_for n (length info) * (code_of n).octets_of_word = length-append start blocks
    ∙ ap (λ z. 8 + z) (length_randomised telecommand 0 (codeblocks n info (blocks_for n (length info)))
    ∙ length_codeblocks n info (blocks_for n (length info))) in
    ap₂ (λ x y. put_mid room (length (x ++ drop room out) - room) (x ++ drop room out) y) c.write_front.ensures c.write_tail.ensures
    ∙ put_last (start ++ blocks) out (tail n) room (omega (arith, c.requires, c.tail_octets.ensures.0, long)) (omega arith)
    ∙ append_assoc start blocks (tail n)
