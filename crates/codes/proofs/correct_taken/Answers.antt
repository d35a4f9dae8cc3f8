-- `codes::correct_taken`: the run, and what is made of its end. Assumes nothing.
use Rattle.vectors.proofs.Filling.{zero_words}
use borrow.Author.Rules.{rules}
use Rattle.codes.proofs.correct_taken.Goals as goal

pub run_taken-run-requires : goal.run_taken-run-requires
run_taken-run-requires c =
    let y = zero_words 130 in
    let z = zero_words 16 in
    search rules

pub returns : goal.returns
returns c n off is =
    c.finish.ensures n _ off is (c.run_taken-run.ensures n off is)
