-- `Kept::choose`: where nothing is found, the greatest bound has gone down. Assumes nothing.
use mathlib.Core.Path.{sym, ◌∙◌, subst}
use Prim.Native.Nat.{◌≤◌, ◌<◌}
use native.Mathlib.Omega.{arith}
use Rattle.vectors.specs.Vectors.{wbit}
use Rattle.flipping.specs.bounds.Keeping.{bound}
use Rattle.flipping.specs.choice.Searching.{highest}
use Rattle.flipping.proofs.choice.Searches.{highest_above, highest_less}
use Rattle.samples.specs.raising.Knowing.{Sampled, KnowsIn, whole}
use Rattle.samples.specs.smallest.Settling.{LeadsIn, MostIn}
use Rattle.samples.proofs.smallest.Searching.{all_under}
use Rattle.samples.proofs.raising.Kept.choose.Goals as goal

pub smallest_at-bit-requires : goal.smallest_at-bit-requires
smallest_at-bit-requires c =
    let l = c.loop-top in
    let s = l.self.bounds in (
      subst (Sampled c.args.samples.now) (sym l.invariant.0) c.requires.1,
      λ b h. subst (λ t. bound s.places.counts s.met b ≤ t) (sym c.greatest-top.ensures)
          (highest_above s.places.counts s.met s.places.shape.blocks b h),
    )

pub returns-then-bit-samples : goal.returns-then-bit-samples
returns-then-bit-samples c =
    let a = c.args in
    let x = a.samples.now in
    let d = wbit a.rows.now in
    let l = c.loop-top in
    let s = l.self.bounds in
    let f = c.smallest_at-bit in
    let g = c.greatest-top in
    let p = s.places in
    let new = f.new.self in
    let e = l.invariant.0 in
    let found = subst (λ q. KnowsIn x q d whole s.met l.self.bits
    → KnowsIn x q d whole new.bounds.met new.bits × LeadsIn x q d g.result f.result) e f.ensures.2 in
    let most = all_under x p.shape d p.starts p.counts s.met l.self.bits s.ready g.result (λ b hb. subst (λ t. bound p.counts s.met b ≤ t)
    (sym g.ensures) (highest_above p.counts s.met p.shape.blocks b hb)) in (
      f.ensures.0 ∙ e,
      omega (arith, c.requires.1, c.if-bit-samples.true),
      λ was.
          let now = l.invariant.1 was in
          let r = found now in
          (r.0, subst (λ q. MostIn q d g.result) e (most (subst (λ q. KnowsIn x q d whole s.met l.self.bits) (sym e) now)), r.1),
    )

pub loop-top-smaller : goal.loop-top-smaller
loop-top-smaller c =
    let l = c.loop-top in
    let s = l.self.bounds in
    let f = c.smallest_at-bit in
    let t = f.new.self.bounds in
    let some = subst (λ p. 1 ≤ p.shape.blocks) (sym l.invariant.0) c.requires.0 in
    let less = highest_less s.places.counts s.met t.met s.places.shape.blocks c.greatest-top.result some c.greatest-top.ensures
    (f.ensures.1 c.if-bit-samples.false) in
    subst (λ p. highest p.counts t.met p.shape.blocks < highest s.places.counts s.met s.places.shape.blocks) (sym f.ensures.0) less
