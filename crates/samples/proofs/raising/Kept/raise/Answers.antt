-- `Kept::raise`: one check more at each pass. Assumes nothing.
use mathlib.Core.Path.{refl, sym, ap, ◌∙◌, subst}
use mathlib.Core.Bool.{Bool, ◌&&◌, ◌||◌}
use Prim.Native.Nat.{ℕ, ◌+◌, ◌*◌}
use lib.ListN.{get_or}
use Rattle.vectors.specs.Vectors.{wbit}
use Rattle.samples.specs.raising.Knowing.{KnowsIn, covers, raises, nearer}
use Rattle.samples.proofs.raising.Seeing.{knows_fewer, seen_only, raised_none, raised_next, or_shifted}
use Rattle.samples.proofs.raising.Kept.raise.Goals as goal

pub loop-e-init : goal.loop-e-init
loop-e-init c =
    let a = c.args in
    let s = a.self.now in
    let q = s.bounds.places in (
      refl,
      λ seen was. knows_fewer a.samples.now q.shape (wbit a.rows.now) q.starts q.counts s.bounds.met s.bits seen _
          (λ j i hj hi t. seen_only (seen j i) _ (raised_none q.shape (wbit a.rows.now) q.starts q.counts (8 * a.b) a.k j i) t) was,
    )

pub loop-e-preserved : goal.loop-e-preserved
loop-e-preserved c =
    let a = c.args in
    let l = c.loop-e in
    let f = c.raise_check in
    let q = a.self.now.bounds.places in
    let x = a.samples.now in
    let d = wbit a.rows.now in
    let p = get_or l.self.bounds.places.starts (8 * a.b + l.e) 0 + a.k in
    let more = subst (λ q. (seen : ℕ → ℕ → Bool) → KnowsIn x q d seen l.self.bounds.met l.self.bits
    → KnowsIn x q d (λ j i. seen j i || (d (get_or q.starts (8 * a.b + l.e) 0 + a.k)
    && covers q (nearer q.shape.size (get_or q.starts (8 * a.b + l.e) 0 + a.k)) j i)) f.new.self.bounds.met f.new.self.bits) l.invariant.0
    f.ensures.1 in (
      f.ensures.0 ∙ l.invariant.0,
      λ seen was. knows_fewer x q.shape d q.starts q.counts _ _ _ _
          (λ j i hj hi t. or_shifted (seen j i) (raises q d a.b a.k l.e j i) _
          (ap (λ v. seen j i || v) (sym (raised_next q.shape d q.starts q.counts (8 * a.b) a.k l.e j i)) ∙ t))
          (more _ (l.invariant.1 seen was)),
    )
