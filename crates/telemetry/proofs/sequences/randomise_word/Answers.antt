-- `telemetry::randomise_word`: the edition's sequence is added. Assumes nothing.
use mathlib.Core.Path.{sym, ap, ◌∙◌}
use Rattle.bits.specs.Bits.{when◌then◌else◌}
use Rattle.randomiser.specs.Randomiser.{randomised}
use Rattle.telemetry.specs.sequences.Telemetry.{telemetry, second}
use Rattle.telemetry.proofs.sequences.randomise_word.Goals as goal

pub returns-then-is_newer : goal.returns-then-is_newer
returns-then-is_newer c =
    let w = c.args.word.now in
    let e = sym c.is_newer.ensures ∙ c.if-is_newer.true in
    c.add_second.ensures ∙ sym (ap (λ b. randomised (when b then second else telemetry) 0 w) e)

pub returns-else-is_newer : goal.returns-else-is_newer
returns-else-is_newer c =
    let w = c.args.word.now in
    let e = sym c.is_newer.ensures ∙ c.if-is_newer.false in
    c.add_first.ensures ∙ sym (ap (λ b. randomised (when b then second else telemetry) 0 w) e)
