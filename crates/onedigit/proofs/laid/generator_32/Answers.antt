-- `onedigit::laid::generator_32`: what the words of the printed rows stand for, computed. Assumes nothing.
use mathlib.Core.Path.{◌≡◌, refl, ap, ◌∙◌}
use Rattle.rules.specs.Tables.{generator32}
use Rattle.identity.specs.ties.Flat.{pieces, joined, generator_of}
use Rattle.onedigit.specs.Laid.{words4}
use Rattle.onedigit.proofs.laid.generator_32.Goals as goal

stands : generator_of 32 4 4 (words4 generator32) ≡ generator32
unfolding pieces joined words4 generator32
stands = refl

pub returns : goal.returns
returns c = ap (generator_of 32 4 4) (c.flat4.ensures ∙ ap words4 c.rows32-nested.ensures) ∙ stands
