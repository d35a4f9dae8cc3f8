-- `Bounds::choose` meets its contract: where nothing is found, the greatest bound has gone down. Assumes nothing.
use mathlib.Core.Path.{sym, ◌∙◌, subst}
use Prim.Native.Nat.{◌*◌, ◌<◌, ◌≤◌}
use Rattle.flipping.specs.bounds.Keeping.{bound}
use Rattle.vectors.specs.Vectors.{wbit}
use Rattle.flipping.specs.choice.Searching.{highest, Seeks}
use Rattle.flipping.proofs.choice.Searches.{highest_above, highest_less, lowered_twice, found_later}
use Rattle.flipping.proofs.bounds.Bounds.choose.Goals as goal

pub first_at-bit-requires : goal.first_at-bit-requires
first_at-bit-requires c =
    let s = c.loop-from.self in (
      subst (λ p. c.args.from < p.shape.size) (sym c.loop-from.invariant.0) c.requires.1,
      λ b h. subst (λ t. bound s.places.counts s.met b ≤ t) (sym c.greatest-top.ensures)
          (highest_above s.places.counts s.met s.places.shape.blocks b h),
    )

pub returns-then-bit-end : goal.returns-then-bit-end
returns-then-bit-end c =
    let a = c.args in
    let l = c.loop-from in
    let f = c.first_at-bit in
    let top = c.greatest-top.result in
    let sought = subst (λ p. Seeks p a.from (wbit a.rows.now) l.self.met top f.result f.new.self.met) l.invariant.0 f.ensures.1 in
    (f.ensures.0 ∙ l.invariant.0, lowered_twice l.invariant.1 sought.lowered, found_later l.invariant.1 (sought.found c.if-bit-end.true))

pub loop-from-smaller : goal.loop-from-smaller
loop-from-smaller c =
    let s = c.loop-from.self in
    let f = c.first_at-bit in
    let t = f.new.self in
    let some = subst (λ p. 1 ≤ p.shape.blocks) (sym c.loop-from.invariant.0) c.requires.0 in
    let less = highest_less s.places.counts s.met t.met s.places.shape.blocks c.greatest-top.result some c.greatest-top.ensures
    (f.ensures.1.none (subst (λ p. p.shape.blocks * p.shape.size ≤ f.result) (sym c.loop-from.invariant.0) c.if-bit-end.false)) in
    subst (λ p. highest p.counts t.met p.shape.blocks < highest s.places.counts s.met s.places.shape.blocks) (sym f.ensures.0) less

pub loop-from-preserved : goal.loop-from-preserved
loop-from-preserved c =
    let a = c.args in
    let l = c.loop-from in
    let f = c.first_at-bit in
    let top = c.greatest-top.result in
    let sought = subst (λ p. Seeks p a.from (wbit a.rows.now) l.self.met top f.result f.new.self.met) l.invariant.0 f.ensures.1 in
    (f.ensures.0 ∙ l.invariant.0, lowered_twice l.invariant.1 sought.lowered)
