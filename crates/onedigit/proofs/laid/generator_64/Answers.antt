-- `onedigit::laid::generator_64`: what the words of the printed rows stand for, computed. Assumes nothing.
use mathlib.Core.Path.{◌≡◌, refl, ap, ◌∙◌}
use Rattle.rules.specs.Tables.{generator64}
use Rattle.identity.specs.ties.Flat.{pieces, joined, generator_of}
use Rattle.onedigit.specs.Laid.{words4}
use Rattle.onedigit.proofs.laid.generator_64.Goals as goal

stands : generator_of 64 4 4 (words4 generator64) ≡ generator64
unfolding pieces joined words4 generator64
stands = refl

pub returns : goal.returns
returns c = ap (generator_of 64 4 4) (c.flat4.ensures ∙ ap words4 c.rows64-nested.ensures) ∙ stands
