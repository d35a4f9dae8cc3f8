-- `onedigit::laid::generator_16`: what the words of the printed rows stand for, computed. Assumes nothing.
use mathlib.Core.Path.{◌≡◌, refl, ap, ◌∙◌}
use Rattle.rules.specs.Tables.{generator16}
use Rattle.identity.specs.ties.Flat.{pieces, joined, generator_of}
use Rattle.onedigit.specs.Laid.{words4}
use Rattle.onedigit.proofs.laid.generator_16.Goals as goal

stands : generator_of 16 4 4 (words4 generator16) ≡ generator16
unfolding pieces joined words4 generator16
stands = refl

pub returns : goal.returns
returns c = ap (generator_of 16 4 4) (c.flat4.ensures ∙ ap words4 c.rows16-nested.ensures) ∙ stands
