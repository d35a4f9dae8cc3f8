-- `samples::correct_loaded`: the run on the patterns that were made. Assumes nothing.
use mathlib.Core.Path.{ap, ◌∙◌}
use native.Mathlib.Omega.{arith}
use lib.ListN.{length-take}
use Rattle.catalogue.proofs.offer.Offers.{small}
use Rattle.samples.specs.Answers.{samples_answer}
use Rattle.samples.proofs.Loading.{loaded}
use Rattle.samples.proofs.correct_loaded.Goals as goal

pub load-requires : goal.load-requires
load-requires c = omega (arith, c.requires.1, (small c.args.code.known).bits)

pub slice_bounds-patterns-end : goal.slice_bounds-patterns-end
slice_bounds-patterns-end c = omega (arith, c.requires.1, (small c.args.code.known).bits)

pub slice_bounds-sampled-end : goal.slice_bounds-sampled-end
slice_bounds-sampled-end c =
    simp length-take (omega (arith, c.requires.1, (small c.args.code.known).bits))

pub correct_taken-requires : goal.correct_taken-requires
correct_taken-requires c =
    c.requires.2

pub returns : goal.returns
returns c n off is =
    let a = c.args in
    let l = c.load in
    c.correct_taken.ensures n off is
    ∙ ap (λ x. samples_answer n x a.limit a.out.now)
    (loaded a.samples.now _ (omega (arith, c.requires.1, (small c.args.code.known).bits)) l.ensures.1)
