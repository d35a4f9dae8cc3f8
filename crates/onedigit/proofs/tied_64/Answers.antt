-- `onedigit::tied_64`: the flat tables stand for those of code 3. Assumes nothing.
use mathlib.Core.Path.{◌∙◌}
use native.Mathlib.Omega.{arith}
use Rattle.rules.specs.Codes.{code, code3}
use Rattle.rules.specs.Identity.{tied}
use Rattle.onedigit.proofs.Standing.{stand_for}
use Rattle.onedigit.proofs.tied_64.Goals as goal

pub returns : goal.returns
unfolding tied code code3
returns c =
    let parity = c.parity_64 in
    let generator = c.generator_64 in
    c.tied.ensures 64 (omega arith)
    ∙ stand_for 64 64 4 4 4 parity.result generator.result parity.ensures generator.ensures
