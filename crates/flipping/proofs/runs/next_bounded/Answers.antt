-- `runs::next_bounded`: what comes next, from the best score. Assumes nothing.
use mathlib.Core.Path.{sym, ap, ◌∙◌}
use Rattle.rules.specs.Flipping.{stuck, flip}
use Rattle.flipping.proofs.runs.Passing.{score_fits, excess_fits, excess_kept, top_lt, top_small, next_stuck, next_flip, begun_top}
use Rattle.flipping.proofs.runs.next_bounded.Goals as goal

pub overflow_cast-excess : goal.overflow_cast-excess
overflow_cast-excess c =
    let a = c.args in
    let h = a.parity.places.now in
    let sh = a.parity.shape in
    let fit = a.parity.fit in
    let w = c.requires.2 in
    let b = c.begin-bounds in
    let f = c.choose-best in
    let t = begun_top w.code h sh w.lent fit a.from w.word _ w.held b.result.places b.ensures.1 b.ensures.2 _ _
    b.ensures.0 b.ensures.3 f.ensures.1 f.ensures.2 in
    score_fits _ (top_small w.lent w.word t)

pub overflow_sub-excess : goal.overflow_sub-excess
overflow_sub-excess c =
    let a = c.args in
    let h = a.parity.places.now in
    let sh = a.parity.shape in
    let fit = a.parity.fit in
    let w = c.requires.2 in
    let b = c.begin-bounds in
    let f = c.choose-best in
    let t = begun_top w.code h sh w.lent fit a.from w.word _ w.held b.result.places b.ensures.1 b.ensures.2 _ _
    b.ensures.0 b.ensures.3 f.ensures.1 f.ensures.2 in
    excess_fits _ (top_small w.lent w.word t)

pub returns-then-best-le8 : goal.returns-then-best-le8
returns-then-best-le8 c =
    let a = c.args in
    let h = a.parity.places.now in
    let sh = a.parity.shape in
    let fit = a.parity.fit in
    let w = c.requires.2 in
    let b = c.begin-bounds in
    let f = c.choose-best in
    let t = begun_top w.code h sh w.lent fit a.from w.word _ w.held b.result.places b.ensures.1 b.ensures.2 _ _
    b.ensures.0 b.ensures.3 f.ensures.1 f.ensures.2 in (
      top_lt w.lent w.word t,
      λ k l u x e some. next_stuck l x (begun_top k h sh l fit a.from x _ e b.result.places b.ensures.1 b.ensures.2 _ _
          b.ensures.0 b.ensures.3 f.ensures.1 f.ensures.2) u some c.if-best-le8.true
          ∙ ap (stuck f.result.bit) (sym (excess_kept _ (top_small w.lent w.word t))),
    )

pub returns : goal.returns
returns c =
    let a = c.args in
    let h = a.parity.places.now in
    let sh = a.parity.shape in
    let fit = a.parity.fit in
    let w = c.requires.2 in
    let b = c.begin-bounds in
    let f = c.choose-best in
    let t = begun_top w.code h sh w.lent fit a.from w.word _ w.held b.result.places b.ensures.1 b.ensures.2 _ _
    b.ensures.0 b.ensures.3 f.ensures.1 f.ensures.2 in (
      top_lt w.lent w.word t,
      λ k l u x e some. next_flip l x (begun_top k h sh l fit a.from x _ e b.result.places b.ensures.1 b.ensures.2 _ _
          b.ensures.0 b.ensures.3 f.ensures.1 f.ensures.2) u some c.if-best-le8.false
          ∙ ap (flip f.result.bit) (sym (excess_kept _ (top_small w.lent w.word t))),
    )
