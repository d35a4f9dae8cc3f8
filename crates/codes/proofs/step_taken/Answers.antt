-- `codes::step_taken`: what comes next, and what step gives of it. Assumes nothing.
use mathlib.Core.Path.{sym, ap, ◌∙◌}
use Rattle.rules.specs.Codes.{code}
use Rattle.answers.specs.Calls.{next_step}
use Rattle.vectors.proofs.Filling.{zero_words}
use borrow.Author.Rules.{rules}
use Rattle.codes.proofs.step_taken.Goals as goal

pub next_of-next-requires : goal.next_of-next-requires
next_of-next-requires c =
    let y = zero_words 130 in
    let z = zero_words 16 in
    search rules

pub returns : goal.returns
returns c n off is =
    let e = c.next_of-next.ensures.1 n off is in
    c.step_out.ensures n off is e.0 ∙ ap (next_step (code n) _ _ _) (sym e.1)
