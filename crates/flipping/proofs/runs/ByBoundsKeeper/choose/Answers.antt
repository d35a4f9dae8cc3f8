-- `ByBounds::choose`: what comes next, by the greatest score. Assumes nothing.
use mathlib.Core.Path.{refl, sym, ap, ◌∙◌, subst}
use mathlib.Core.List.{[]}
use lib.IntN.{sub_ℕ}
use Rattle.flipping.specs.runs.Passes.{KeptIn, MetIn}
use Rattle.flipping.proofs.runs.Passing.{next_stuck, next_flip, top_lt, chosen_top, chosen_kept, chosen_met, chosen_left}
use Rattle.flipping.proofs.runs.Sizes.{sized_equal}
use Rattle.flipping.proofs.runs.ByBoundsKeeper.choose.Goals as goal

pub returns : goal.returns
returns c =
    let s = c.args.self.now in
    let p = s.bounds.now.places in
    let f = c.choose in
    let bit = f.result.bit in
    let top = f.result.score in
    let d = s.rows.now in
    let was = s.bounds.now.met in
    let met = f.new.self.met in (
      refl,
      λ k y w some.
          let best = chosen_top k w.table p.shape w.lent w.fit p.starts p.counts w.laid_in s.from y d was met top bit w.kept
          f.ensures.1 f.ensures.2 in
          let kept : KeptIn p s.from d met k y = record {
            table = w.table;
            fit = w.fit;
            lent = w.lent;
            laid_in = w.laid_in;
            some = w.some;
            begins = w.begins;
            unsent = w.unsent;
            kept = chosen_kept k w.table p.shape w.lent w.fit p.starts p.counts w.laid_in s.from y d was met top bit w.kept
                f.ensures.1 f.ensures.2;
          } in (
            record {
              ends = λ l. (bit, sub_ℕ top 8, ap (λ w. w y) (sized_equal [] refl k) ∙ next_stuck w.lent y best w.unsent some l);
              goes = λ l. (sub_ℕ top 8, ap (λ w. w y) (sized_equal [] refl k) ∙ next_flip w.lent y best w.unsent some l);
              fewer = chosen_left k w.table p.shape w.lent w.fit p.starts p.counts w.laid_in s.from y d was met top bit w.kept
                  f.ensures.1 f.ensures.2;
            },
            λ high. subst (λ q. MetIn q s.from d met k y bit) (sym f.ensures.0) (record {
              kept_in = kept;
              inside = top_lt w.lent y best;
              met_is = chosen_met k w.table p.shape w.lent w.fit p.starts p.counts w.laid_in s.from y d was met top bit w.kept
                  f.ensures.1 f.ensures.2;
            }),
          ),
    )
