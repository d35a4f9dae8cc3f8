-- `samples::correct_taken`: 16, or the run. Assumes nothing.
use mathlib.Core.Path.{sym, ◌∙◌}
use native.Mathlib.Omega.{arith}
use lib.Ieee.{of_bits, binary32}
use lib.ListN.{length-map}
use borrow.Author.Tests.{not-true, not-false}
use Rattle.vectors.proofs.Filling.{zero_words}
use Rattle.catalogue.proofs.offer.Offers.{small}
use Rattle.refusals.proofs.Admitted.{as_truth, steps_by, bits_are, word_long}
use Rattle.magnitudes.specs.Patterns.{samples_of}
use Rattle.magnitudes.proofs.Patterns.{finite_same}
use Rattle.samples.proofs.Answers.{samples_taken, samples_sixteen}
use Rattle.samples.proofs.Correcting.{by_patterns}
use Rattle.samples.proofs.correct_taken.Goals as goal
use mathlib.Core.Path.{ap}
use mathlib.Core.Bool.{not}

pub read-requires : goal.read-requires
read-requires c =
    let z = zero_words 130 in
    (omega (arith, c.args.sampled.whole, (small c.args.sampled.code.known).bits), z)

pub returns-then-not-read : goal.returns-then-not-read
returns-then-not-read c n off is =
    let a = c.args in
    let x = a.sampled.samples.now in
    let as_long = length-map x (of_bits binary32) in
    let r = c.read in
    c.refused_correct.ensures a.out.now
    ∙ sym (samples_sixteen n (samples_of x) a.limit a.out.now (as_truth (steps_by n is c.args.sampled.taken))
    (as_long ∙ c.args.sampled.whole ∙ bits_are n is off) (word_long n is off c.requires) (finite_same x
    ∙ sym r.ensures.1 ∙ not-true r.result (ap not c.if-not-read.true)))

pub correct_read-requires : goal.correct_read-requires
correct_read-requires c =
    (c.requires, c.read.ensures.0)

pub returns : goal.returns
returns c n off is =
    let a = c.args in
    let r = c.read in
    let x = a.sampled.samples.now in
    let as_long = length-map x (of_bits binary32) in
    let finite = sym r.ensures.1 ∙ not-false r.result (ap not c.if-not-read.false) in
    c.correct_read.ensures n off is
    ∙ by_patterns n (as_truth (steps_by n is c.args.sampled.taken)) x (c.args.sampled.whole ∙ bits_are n is off) finite a.limit a.out.now
    ∙ sym (samples_taken n (samples_of x) a.limit a.out.now (as_truth (steps_by n is c.args.sampled.taken))
    (as_long ∙ c.args.sampled.whole ∙ bits_are n is off) (word_long n is off c.requires) (finite_same x ∙ finite))
