-- `units::write_last`: the information that is left, then fill. Assumes nothing.
use mathlib.Core.Path.{sym, ap, ap₂, ◌∙◌}
use mathlib.Core.List.{◌++◌}
use Prim.Native.Nat.{ℕ}
use native.Mathlib.Omega.{arith}
use lib.ListN.{length, drop, replicate, length-append, length-drop}
use lib.Seq.{length-take-le}
use Rattle.rules.specs.Codes.{code}
use Rattle.randomiser.specs.Randomiser.{telecommand, randomised}
use Rattle.units.proofs.unitrules.Shapes.{sizes}
use Rattle.units.proofs.unitrules.Blocks.{encoded_of}
use Rattle.units.proofs.Parts.{filled_part, filled_part_length}
use Rattle.units.proofs.write_last.Goals as goal

pub slice_bounds-part-end : goal.slice_bounds-part-end
slice_bounds-part-end c =
    let z = sizes c.args.code.number c.args.code.offered in
    omega (arith, ap length c.fill-part.ensures, c.requires.0, z.few)

pub slice_bounds-copy_from_slice-end : goal.slice_bounds-copy_from_slice-end
slice_bounds-copy_from_slice-end c =
    let z = sizes c.args.code.number c.args.code.offered in
    sym (length-take-le (length c.args.rest.now) c.fill-part.result (omega (arith, ap length c.fill-part.ensures, c.requires.0, z.few)))

pub copy_from_slice-requires : goal.copy_from_slice-requires
copy_from_slice-requires c =
    let z = sizes c.args.code.number c.args.code.offered in
    length-take-le (length c.args.rest.now) c.fill-part.result (omega (arith, ap length c.fill-part.ensures, c.requires.0, z.few))

pub slice_bounds-part-end-2 : goal.slice_bounds-part-end-2
slice_bounds-part-end-2 c =
    let z = sizes c.args.code.number c.args.code.offered in
    let e = ap₂ (λ x y. length (x ++ drop (length c.args.rest.now) y)) c.copy_from_slice.ensures.after (sym c.fill-part.ensures) in
    omega (
      arith,
      e,
      length-append c.args.rest.now (drop (length c.args.rest.now) (replicate 32 0x55)),
      length-drop
          (length c.args.rest.now) (replicate {A = ℕ} 32 0x55),
      c.information_octets-size.ensures.0,
      z.few,
    )

pub slice_bounds-write_part-end : goal.slice_bounds-write_part-end
slice_bounds-write_part-end c =
    let s = c.information_octets-size in
    s.ensures.0 ∙ sym (filled_part_length c.args.rest.now c.copy_from_slice.new.self c.fill-part.result s.result
    (code c.args.code.number).octets_of_information c.copy_from_slice.ensures.after c.fill-part.ensures c.requires.0
    s.ensures.0 s.ensures.2)

pub write_part-requires : goal.write_part-requires
write_part-requires c =
    let s = c.information_octets-size in (
      filled_part_length c.args.rest.now c.copy_from_slice.new.self c.fill-part.result s.result
          (code c.args.code.number).octets_of_information c.copy_from_slice.ensures.after c.fill-part.ensures c.requires.0
          s.ensures.0 s.ensures.2,
      c.requires.1,
    )

pub returns : goal.returns
returns c =
    let s = c.information_octets-size in
    c.write_part.ensures ∙ ap (λ z. randomised telecommand c.args.used (encoded_of c.args.code.number z))
    (filled_part c.args.rest.now c.copy_from_slice.new.self c.fill-part.result s.result
    (code c.args.code.number).octets_of_information c.copy_from_slice.ensures.after c.fill-part.ensures c.requires.0
    s.ensures.0 s.ensures.2)
