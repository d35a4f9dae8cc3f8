-- `onedigit::tied_16`: the flat tables stand for those of code 1. Assumes nothing.
use mathlib.Core.Path.{◌∙◌}
use native.Mathlib.Omega.{arith}
use Rattle.rules.specs.Codes.{code, code1}
use Rattle.rules.specs.Identity.{tied}
use Rattle.onedigit.proofs.Standing.{stand_for}
use Rattle.onedigit.proofs.tied_16.Goals as goal

pub returns : goal.returns
unfolding tied code code1
returns c =
    let parity = c.parity_16 in
    let generator = c.generator_16 in
    c.tied.ensures 16 (omega arith)
    ∙ stand_for 16 16 4 4 4 parity.result generator.result parity.ensures generator.ensures
