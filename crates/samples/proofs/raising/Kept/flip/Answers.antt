-- `Kept::flip`: the bits that have fewer checks met are those that are seen anew. Assumes nothing.
use Rattle.samples.proofs.raising.Flipping.{twice_flip, lowered, knows_lowered, knows_flip}
use Rattle.samples.proofs.raising.Kept.flip.Goals as goal

pub returns : goal.returns
returns c =
    let a = c.args in
    let s = a.self.now in
    let q = s.bounds.places in
    let r = s.bounds.ready in
    let x = a.samples.now in
    let f = c.raise in
    let t = c.flip_checks in (
      f.ensures.0,
      λ k h y lent g two. (
        twice_flip x q.shape q.starts q.counts s.bounds.met s.bits r a.bit c.requires.1 a.rows.now _ t.ensures k h y lent g two,
        λ was. knows_flip x q.shape q.starts q.counts s.bounds.met s.bits r a.bit c.requires.1 a.rows.now _ t.ensures k h y lent g two
            (f.ensures.1 (lowered x q.shape q.starts q.counts s.bounds.met s.bits r a.bit c.requires.1 a.rows.now _ t.ensures k h y lent g
            two)
            (knows_lowered x q.shape q.starts q.counts s.bounds.met s.bits r a.bit c.requires.1 a.rows.now _ t.ensures k h y lent g two
            was)),
      ),
    )
