-- `runs::next_narrow`: a bit of a score above 8 is to be flipped; where there is none, the bounds say what comes next. Assumes nothing.
use mathlib.Core.Path.{refl, sym, ap, ◌∙◌}
use mathlib.Core.List.{[]}
use native.Mathlib.Omega.{arith}
use Rattle.rules.specs.Flipping.{flip}
use Rattle.flipping.proofs.runs.Passing.{score_fits, excess_fits, excess_kept}
use Rattle.flipping.proofs.runs.Sizes.{chosen_inside, chosen_flip, chosen_small, sized_equal}
use Rattle.flipping.proofs.runs.next_narrow.Goals as goal

pub begin-requires : goal.begin-requires
begin-requires c = (
  c.args.parity.fit.some,
  omega (arith, c.args.parity.fit.held, c.requires.3),
  c.requires.3,
  (c.args.parity.fit.narrow c.requires.3).0,
)

pub choose-best-requires : goal.choose-best-requires
choose-best-requires c =
    let w = c.requires.2 in (
      c.requires.3,
      c.requires.0,
      c.requires.1,
      λ some. absurd (omega arith),
      record { code = w.code; word = w.word; lent = w.lent; rows_are = c.begin.ensures w.code w.word w.held },
    )

pub overflow_cast-excess : goal.overflow_cast-excess
overflow_cast-excess c =
    let w = c.requires.2 in
    score_fits _ (chosen_small [] w.lent w.word c.choose-best.result
    (c.choose-best.ensures w.code w.word w.lent (c.begin.ensures w.code w.word w.held)) c.if-best-gt8.true)

pub overflow_sub-excess : goal.overflow_sub-excess
overflow_sub-excess c =
    let w = c.requires.2 in
    excess_fits _ (chosen_small [] w.lent w.word c.choose-best.result
    (c.choose-best.ensures w.code w.word w.lent (c.begin.ensures w.code w.word w.held)) c.if-best-gt8.true)

pub returns-then-best-gt8 : goal.returns-then-best-gt8
returns-then-best-gt8 c =
    let w = c.requires.2 in
    let best = c.choose-best in
    let rows = c.begin.ensures in
    let high = c.if-best-gt8.true in
    let here = best.ensures w.code w.word w.lent (rows w.code w.word w.held) in (
      chosen_inside [] w.lent w.word best.result here high,
      λ k l u x e some.
          sym (ap (λ way. way x) (sized_equal [] refl k)) ∙ chosen_flip [] l x best.result (best.ensures k x l (rows k x e)) high u some
          ∙ ap (flip best.result.bit) (sym (excess_kept _ (chosen_small [] w.lent w.word best.result here high))),
    )
