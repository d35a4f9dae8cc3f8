-- `readings::numbered` meets its contract. Assumes nothing.
use mathlib.Core.Path.{ap, ◌∙◌}
use mathlib.Core.List.{[]}
use Rattle.answers.specs.Calls.{refused_correct_of}
use Rattle.units.proofs.readings.numbered.Goals as goal

pub returns : goal.returns
returns c = c.refused_correct.ensures [] ∙ ap (refused_correct_of []) c.number.ensures
