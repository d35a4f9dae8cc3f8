-- `onedigit::laid::generator_511`: what the words of the printed rows stand for, computed. Assumes nothing.
use mathlib.Core.Path.{◌≡◌, refl, ap, ◌∙◌}
use Rattle.rules.specs.Tables.{generator511}
use Rattle.identity.specs.printed.Words.{table_words}
use Rattle.identity.specs.ties.Flat.{pieces, joined, generator_of}
use Rattle.onedigit.specs.Laid.{words28}
use Rattle.onedigit.proofs.laid.generator_511.Goals as goal

stands : generator_of 511 14 2 (words28 (table_words 8 generator511)) ≡ generator511
unfolding pieces joined words28 generator511
stands = refl

pub returns : goal.returns
returns c = ap (generator_of 511 14 2) (c.flat28.ensures ∙ ap words28 c.rows511-nested.ensures) ∙ stands
