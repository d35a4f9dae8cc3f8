-- `units::write_block`: a whole part, or the last with its fill. Assumes nothing.
use Prim.Native.Nat.{◌-◌, ◌*◌}
use mathlib.Core.List.{◌++◌}
use lib.ListN.{length, replicate}
use Rattle.rules.specs.Codes.{code}
use Rattle.units.specs.unitrules.Units.{codeblock}
use Rattle.units.proofs.unitrules.Blocks.{encoded_of}
use mathlib.Core.Path.{sym, ap, ◌∙◌}
use native.Mathlib.Omega.{arith}
use Rattle.randomiser.specs.Randomiser.{telecommand, randomised}
use Rattle.units.proofs.Parts.{from_fits, part_last, part_whole, lent_rest}
use Rattle.units.proofs.write_block.Goals as goal

pub overflow_mul-from : goal.overflow_mul-from
overflow_mul-from c = omega (
  arith,
  from_fits c.args.code.number c.args.information.now c.args.k
      c.information_octets-size.result c.information_octets-size.ensures.0 c.requires.0,
)

pub overflow_sub-left : goal.overflow_sub-left
overflow_sub-left c = omega (
  arith,
  from_fits c.args.code.number c.args.information.now c.args.k
      c.information_octets-size.result c.information_octets-size.ensures.0 c.requires.0,
)

pub slice_bounds-write_last-count : goal.slice_bounds-write_last-count
slice_bounds-write_last-count c = omega (
  arith,
  from_fits c.args.code.number c.args.information.now c.args.k c.information_octets-size.result
      c.information_octets-size.ensures.0 c.requires.0,
)

pub slice_bounds-write_last-start : goal.slice_bounds-write_last-start
slice_bounds-write_last-start c = omega (
  arith,
  from_fits c.args.code.number c.args.information.now c.args.k c.information_octets-size.result
      c.information_octets-size.ensures.0 c.requires.0,
)

pub returns-then-left-size : goal.returns-then-left-size
unfolding codeblock
returns-then-left-size c =
    c.write_last.ensures
    ∙ ap (λ z. randomised telecommand c.args.used (encoded_of c.args.code.number z)) (
    ap (λ z. z ++ replicate ((code c.args.code.number).octets_of_information - length z) 0x55)
    (lent_rest c.args.information.now (c.args.k * c.information_octets-size.result))
    ∙ sym (part_last c.args.code.number c.args.code.offered c.args.information.now c.args.k c.information_octets-size.result
    c.information_octets-size.ensures.0 c.requires.0 c.if-left-size.true))

pub returns-else-left-size : goal.returns-else-left-size
unfolding codeblock
returns-else-left-size c =
    c.write_part.ensures
    ∙ ap (λ z. randomised telecommand c.args.used (encoded_of c.args.code.number z))
    (sym (part_whole c.args.code.number c.args.code.offered c.args.information.now c.args.k c.information_octets-size.result
    c.information_octets-size.ensures.0 c.requires.0 c.if-left-size.false))
