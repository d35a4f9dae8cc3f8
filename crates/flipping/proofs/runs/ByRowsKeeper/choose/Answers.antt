-- `ByRows::choose`: what comes next by sizes. Assumes nothing.
use mathlib.Core.Path.{refl}
use lib.IntN.{sub_ℕ}
use Rattle.flipping.proofs.runs.Passing.{some_sent}
use Rattle.flipping.proofs.runs.Sizes.{chosen_stuck, chosen_inside, chosen_flip, chosen_left}
use Rattle.flipping.proofs.runs.ByRowsKeeper.choose.Goals as goal

pub returns : goal.returns
returns c =
    let s = c.args.self.now in
    let x = s.samples.now in
    let b = c.choose.result in (
      refl,
      λ k y w some.
          let was = c.choose.ensures k y w.lent w.rows_are in (
            record {
              ends = λ l. (_, _, chosen_stuck x w.lent y b was w.unsent (some_sent w.lent s.some s.begins w.unsent) some l);
              goes = λ l. (sub_ℕ b.score 8, chosen_flip x w.lent y b was l w.unsent some);
              fewer = chosen_left x w.lent y b was;
            },
            λ high. record { rows_in = w; inside = chosen_inside x w.lent y b was high },
          ),
    )
