-- `units::write_part`: encoded, then randomised. Assumes nothing.
use mathlib.Core.Path.{ap, ◌∙◌}
use native.Mathlib.Omega.{arith}
use Rattle.randomiser.specs.Randomiser.{telecommand, randomised}
use lib.ListN.{length}
use Rattle.units.proofs.unitrules.Shapes.{sizes}
use Rattle.units.proofs.unitrules.Blocks.{length_encoded}
use Rattle.units.proofs.Parts.{encode_part}
use Rattle.units.proofs.write_part.Goals as goal

pub randomise-requires : goal.randomise-requires
randomise-requires c =
    let z = sizes c.args.code.number c.args.code.offered in
    omega (
      arith,
      ap (λ x. length x.out) (c.encode.ensures ∙ encode_part c.args.code.number c.args.part.now c.args.out.now
          c.args.code.offered c.requires.0 c.requires.1),
      length_encoded c.args.code.number c.args.part.now,
      z.whole,
      z.few,
    )

pub returns : goal.returns
returns c =
    c.randomise.ensures
    ∙ ap (randomised telecommand c.args.used)
    (ap (λ x. x.out) (c.encode.ensures ∙ encode_part c.args.code.number c.args.part.now c.args.out.now c.args.code.offered c.requires.0
    c.requires.1))
