-- `onedigit::entry_noticed` meets its contract: what is no wrong entry is not tried.
use mathlib.Core.Path.{refl, sym, ap, ◌∙◌}
use mathlib.Core.Bool.{Bool, not, ◌&&◌}
use lib.ListN.{set}
use borrow.Author.Tests.{not-true, not-false}
use Rattle.onedigit.specs.Wrong.{sized_tied}
use Rattle.onedigit.proofs.entry_noticed.Goals as goal
use mathlib.Core.Path.{ap}
use mathlib.Core.Bool.{not}

pub returns-then-not-wrong_entry : goal.returns-then-not-wrong_entry
returns-then-not-wrong_entry c =
    let a = c.args in record {
      noticed = λ printed fits.
          ap (λ (x : Bool). x && not (sized_tied a.sizes printed (set a.parity.now a.place a.s)
          a.generator.now))
          (sym (not-true c.wrong_entry.result (ap not c.if-not-wrong_entry.true)) ∙ c.wrong_entry.ensures);
      kept = refl;
    }

pub returns : goal.returns
returns c =
    let a = c.args in record {
      noticed = λ printed fits.
          c.place_noticed.ensures.noticed printed fits
          ∙ ap (λ (x : Bool). x && not (sized_tied a.sizes printed (set a.parity.now a.place a.s)
          a.generator.now))
          (sym (not-false c.wrong_entry.result (ap not c.if-not-wrong_entry.false))
          ∙ c.wrong_entry.ensures);
      kept = c.place_noticed.ensures.kept;
    }
