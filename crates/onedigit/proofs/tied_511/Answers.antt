-- `onedigit::tied_511`: the flat tables stand for those of code 4, which code 5 has too. Assumes nothing.
use mathlib.Core.Path.{◌∙◌}
use native.Mathlib.Omega.{arith}
use Rattle.rules.specs.Codes.{code, code4, code5}
use Rattle.rules.specs.Identity.{tied}
use Rattle.onedigit.proofs.Standing.{stand_for}
use Rattle.onedigit.proofs.tied_511.Goals as goal

pub returns : goal.returns
unfolding tied code code4 code5
returns c =
    let parity = c.parity_511 in
    let generator = c.generator_511 in
    let e = c.tied.ensures 512 (omega arith)
    ∙ stand_for 511 512 2 14 2 parity.result generator.result parity.ensures generator.ensures in
    (e, e)
