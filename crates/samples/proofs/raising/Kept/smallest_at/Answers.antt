-- `Kept::smallest_at`: one block more at each pass. Assumes nothing.
use mathlib.Core.Path.{◌≡◌, ◌∙◌, subst}
use Prim.Native.Nat.{◌+◌, ◌*◌}
use native.Mathlib.Omega.{arith}
use Rattle.vectors.specs.Vectors.{wbit}
use Rattle.samples.specs.smallest.Settling.{Leads, SettledIn}
use Rattle.samples.proofs.smallest.Searching.{settled_lower, settled_none}
use Rattle.samples.proofs.raising.Kept.smallest_at.Goals as goal

pub loop-b-preserved : goal.loop-b-preserved
loop-b-preserved c =
    let a = c.args in
    let q = a.self.now.bounds.places in
    let l = c.loop-b in
    let best = c.settle-best in
    let new = best.new.self in
    let f = subst (λ q. SettledIn a.samples.now q (wbit a.rows.now) l.b a.top l.best best.result l.self.bounds.met new.bounds.met
    l.self.bits new.bits) l.invariant.0 best.ensures.1 in
    let next : l.b * q.shape.size + q.shape.size ≡ (l.b + 1) * q.shape.size = omega arith in (
      best.ensures.0 ∙ l.invariant.0,
      settled_lower f l.invariant.1,
      λ u. settled_none f u l.invariant.2,
      λ was.
          let p = l.invariant.3 was in (
            f.knows p.0,
            λ g scored. subst (λ z. Leads a.samples.now g a.top z best.result) next (f.leads p.0 g scored (p.1 g scored)),
          ),
    )

pub returns : goal.returns
returns c =
    let a = c.args in
    let q = a.self.now.bounds.places in
    let l = c.loop-b in
    let all : l.b ≡ q.shape.blocks = omega arith in (
      l.invariant.0,
      λ u j hj. l.invariant.2 u j (omega arith),
      λ was.
          let p = l.invariant.3 was in
          (p.0, λ g scored. subst (λ z. Leads a.samples.now g a.top (z * q.shape.size) l.best) all (p.1 g scored)),
    )
