-- `Kept::raise_block`: what is kept of the one block changes. Assumes nothing.
use mathlib.Core.Path.{refl}
use mathlib.Core.Bool.{◌||◌}
use Prim.Native.Nat.{◌*◌}
use native.Mathlib.Omega.{arith}
use lib.ListN.{get_or}
use Rattle.vectors.specs.Vectors.{wbit}
use Rattle.samples.specs.raising.Knowing.{covers}
use Rattle.samples.proofs.raising.Seeing.{known_fewer, knows_set}
use Rattle.samples.proofs.raising.Kept.raise_block.Goals as goal

pub returns : goal.returns
returns c =
    let a = c.args in
    let s = a.self.now in
    let q = s.bounds.places in
    let r = s.bounds.ready in
    let x = a.samples.now in
    let d = wbit a.rows.now in
    let f = c.raise_in-low in
    let b = a.b in
    let hb = c.requires.2 in (
      refl,
      λ seen seen' here other was. knows_set x q.shape d q.starts q.counts s.bounds.met s.bits b f.result.met f.result.bit
          (omega (arith, r.met_long, r.blocks)) (omega (arith, r.blocks)) seen seen'
          (known_fewer x d q.starts (8 * b) (get_or q.counts b 0) q.shape.size (b * q.shape.size)
          (λ i. seen b i || covers q a.p b i) (seen' b) f.result.met f.result.bit (λ i hi t. here i t)
          (f.ensures.1 (seen b) (was.block b hb)))
          (λ j hj u. known_fewer x d q.starts (8 * j) (get_or q.counts j 0) q.shape.size (j * q.shape.size) (seen j) (seen' j)
          (get_or s.bounds.met j 0) (get_or s.bits j 0) (λ i hi t. other j i u t) (was.block j hj)),
    )
