-- `readings::reader`: its number, and the first codeblock. Assumes nothing.
use mathlib.Core.Path.{ap, ◌∙◌}
use mathlib.Core.List.{[]}
use Rattle.answers.specs.Calls.{refused_correct_of}
use Rattle.units.proofs.readings.reader.Goals as goal

pub returns : goal.returns
returns c =
    ap (λ x. record { kept = x; code = c.args.code; limit = c.args.limit; place = 0 }) (c.numbered-kept.ensures
    ∙ ap (refused_correct_of []) c.readable.ensures)
