-- `units::write_front`: the start, and the codeblocks behind it. Assumes nothing.
use mathlib.Core.Path.{refl, sym, ap₂, ◌∙◌}
use mathlib.Core.List.{List, ◌++◌}
use Prim.Native.Nat.{ℕ, ◌-◌}
use native.Mathlib.Omega.{arith}
use lib.ListN.{length, drop}
use lib.Seq.{length-take-le}
use borrow.Rule.Slice.PartMut.{put_mid}
use Rattle.randomiser.specs.Randomiser.{telecommand, randomised}
use Rattle.units.specs.unitrules.Units.{start, blocks_for, codeblocks}
use Rattle.units.proofs.Assembled.{put_last}
use Rattle.units.proofs.write_front.Goals as goal

pub slice_bounds-write_start-end-2 : goal.slice_bounds-write_start-end-2
slice_bounds-write_start-end-2 c = sym (length-take-le 8 c.args.out.now (omega (arith, c.requires)))

pub write_start-requires : goal.write_start-requires
write_start-requires c = length-take-le 8 c.args.out.now (omega (arith, c.requires))

pub returns : goal.returns
returns c =
    let info = c.args.information.now in
    let out = c.args.out.now in
    let blocks : List ℕ = randomised telecommand 0 (codeblocks c.args.code.number info (blocks_for c.args.code.number (length info))) in
    ap₂ (λ x y. put_mid 8 (length (x ++ drop 8 out) - 8) (x ++ drop 8 out) y) c.write_start.ensures c.write_blocks.ensures
    ∙ put_last start out blocks 8 refl (omega (arith, c.requires))
