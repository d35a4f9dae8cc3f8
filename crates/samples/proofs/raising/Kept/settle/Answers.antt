-- `Kept::settle`: a block of a lesser bound is passed over. Assumes nothing.
use mathlib.Core.Path.{refl, ◌∙◌}
use Rattle.vectors.specs.Vectors.{wbit}
use Rattle.samples.proofs.smallest.Searching.{passed}
use Rattle.samples.proofs.raising.Kept.settle.Goals as goal

pub returns-then-bound_of-top : goal.returns-then-bound_of-top
returns-then-bound_of-top c =
    let a = c.args in
    let s = a.self.now in
    let q = s.bounds.places in (
      refl,
      passed a.samples.now q.shape (wbit a.rows.now) q.starts q.counts s.bounds.met s.bits s.bounds.ready c.requires.0 a.b c.requires.1
          a.top a.best c.requires.2 (λ e. c.if-bound_of-top.true (c.bound_of.ensures ∙ e)),
    )
