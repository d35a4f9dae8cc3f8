-- `codes::finish`: the run's numbers, its judgement and its word. Assumes nothing.
use mathlib.Core.Path.{sym, ◌∙◌}
use Rattle.rules.proofs.Numbers.{published}
use Rattle.catalogue.proofs.offer.Offers.{is_offered}
use Rattle.codes.proofs.Correcting.{ran_met, ran_unsent, ran_ends, corrected_is}
use Rattle.flipping.specs.endings.Ends.{run_of}
use Rattle.codes.proofs.finish.Goals as goal

pub returns : goal.returns
returns c n limit off is e =
    let some = (published n (is_offered n off)).some in
    corrected_is n _ limit _ _ e _ _
    (c.judge-number.ensures n off is (run_of n c.args.received.word.now limit) (sym e.number ∙ sym c.number.ensures)
    (sym e.word_is) (λ z. ran_met n _ limit _ _ e some (sym c.number.ensures ∙ z))
    (ran_unsent n _ limit _ _ e some))
    (c.unlike_after-unlike.ensures n off is (ran_ends n _ limit _ _ e some)) _ _ (c.write_taken.ensures n off is)
