-- `onedigit::tied_32`: the flat tables stand for those of code 2. Assumes nothing.
use mathlib.Core.Path.{◌∙◌}
use native.Mathlib.Omega.{arith}
use Rattle.rules.specs.Codes.{code, code2}
use Rattle.rules.specs.Identity.{tied}
use Rattle.onedigit.proofs.Standing.{stand_for}
use Rattle.onedigit.proofs.tied_32.Goals as goal

pub returns : goal.returns
unfolding tied code code2
returns c =
    let parity = c.parity_32 in
    let generator = c.generator_32 in
    c.tied.ensures 32 (omega arith)
    ∙ stand_for 32 32 4 4 4 parity.result generator.result parity.ensures generator.ensures
