-- `Kept::weigh`: the block's smallest bit is kept; or it has none, and its bound goes down. Assumes nothing.
use mathlib.Core.Path.{refl}
use native.Mathlib.Omega.{arith}
use Rattle.vectors.specs.Vectors.{wbit}
use Rattle.samples.proofs.smallest.Searching.{weighed_some, weighed_none}
use Rattle.samples.proofs.raising.Kept.weigh.Goals as goal

pub returns-then-bit-samples : goal.returns-then-bit-samples
returns-then-bit-samples c =
    let a = c.args in
    let s = a.self.now in
    let q = s.bounds.places in
    let f = c.smallest_light-bit in
    let e = c.lead.ensures in (
      refl,
      weighed_some a.samples.now q.shape (wbit a.rows.now) q.starts q.counts s.bounds.met s.bits s.bounds.ready c.requires.0 a.b
          c.requires.1 f.result f.ensures (omega (arith, c.requires.1, s.bounds.ready.blocks)) a.best c.lead.result
          c.if-bit-samples.true e.0 e.1 e.2 e.3,
    )

pub invariant_of-self : goal.invariant_of-self
invariant_of-self c =
    let a = c.args in
    let s = a.self.now in
    let q = s.bounds.places in
    let f = c.smallest_light-bit in
    let none = weighed_none a.samples.now q.shape (wbit a.rows.now) q.starts q.counts s.bounds.met s.bits s.bounds.ready c.requires.0 a.b
    c.requires.1 f.result f.ensures (omega (arith, c.requires.1, s.bounds.ready.blocks)) a.best c.if-bit-samples.false in
    (none.ready, tt)

pub returns : goal.returns
returns c =
    let a = c.args in
    let s = a.self.now in
    let q = s.bounds.places in
    let f = c.smallest_light-bit in (
      refl,
      weighed_none a.samples.now q.shape (wbit a.rows.now) q.starts q.counts s.bounds.met s.bits s.bounds.ready c.requires.0 a.b
          c.requires.1 f.result f.ensures (omega (arith, c.requires.1, s.bounds.ready.blocks)) a.best c.if-bit-samples.false,
    )
