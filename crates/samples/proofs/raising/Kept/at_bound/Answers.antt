-- `Kept::at_bound`: the known bit tells, or the block is weighed. Assumes nothing.
use mathlib.Core.Path.{refl}
use Rattle.vectors.specs.Vectors.{wbit}
use Rattle.samples.proofs.smallest.Searching.{stayed}
use Rattle.samples.proofs.raising.Kept.at_bound.Goals as goal

pub returns-then-r-samples : goal.returns-then-r-samples
returns-then-r-samples c =
    let a = c.args in
    let s = a.self.now in
    let q = s.bounds.places in
    let f = c.still-r in
    let e = f.ensures c.if-r-samples.true in (
      refl,
      stayed a.samples.now q.shape (wbit a.rows.now) q.starts q.counts s.bounds.met s.bits s.bounds.ready c.requires.0 a.b c.requires.1
          a.best f.result c.if-r-samples.true e.0 e.1 e.2 e.3,
    )
