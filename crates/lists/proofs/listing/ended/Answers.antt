-- `listing::ended`: correct's numbers and the reason. Assumes nothing.
use mathlib.Core.Path.{refl, sym}
use mir.Syntax.{w8}
use mir.Val.{SFits}
use mir.ValLaws.{to_z-of_z}
use Rattle.flipping.specs.endings.Ends.{run_of}
use Rattle.lists.proofs.listing.Writing.{ended_is, end_met, end_unsent, end_at}
use borrow.Author.Rules.{rules}
use Rattle.lists.proofs.listing.ended.Goals as goal

pub returns : goal.returns
returns c =
    let fits : SFits w8 c.args.excess = search rules in (
      refl,
      refl,
      λ n limit is e table.
          let m = e.measures in
          ended_is n c.args.received.word.now limit _ _ _ _ _ _ e _ (to_z-of_z w8 c.args.excess fits) _ _
          (c.judge-judged.ensures n m.offers is (run_of n c.args.received.word.now limit) (sym e.number_is) (sym e.word_is)
          (end_met n c.args.received.word.now limit _ _ _ _ _ _ e) (end_unsent n c.args.received.word.now limit _ _ _ _ _ _ e))
          (c.unlike_after-unlike.ensures n m.offers is (end_at n c.args.received.word.now limit _ _ _ _ _ _ e))
          table,
    )
