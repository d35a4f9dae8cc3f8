-- `runs::go_on`: the loop has come to the run's word after so many flips, for every code that what is kept stands for. Assumes nothing.
use mathlib.Core.Path.{◌≡◌, refl, sym, ap, ◌∙◌, subst}
use Prim.Native.Nat.{◌+◌, ◌-◌}
use native.Mathlib.Omega.{arith}
use borrow.Author.Rules.{rules}
use Rattle.bits.specs.Bits.{flipped}
use Rattle.rules.specs.Checks.{broken}
use Rattle.vectors.specs.Vectors.{wbit}
use Rattle.layout.specs.Lent.{laid}
use Rattle.magnitudes.specs.Patterns.{smaller}
use Rattle.magnitudes.specs.Sizes.{by_size}
use Rattle.flipping.specs.runs.Passes.{Going}
use Rattle.flipping.proofs.runs.Passing.{going_start, ends_quiet, ends_stuck, ends_limit, goes_on, runs_as}
use Rattle.flipping.proofs.runs.Sizes.{sized_quiet}
use Rattle.flipping.proofs.runs.go_on.Goals as goal

pub loop-left-init : goal.loop-left-init
loop-left-init g c =
    let a = c.args in
    let x = wbit a.y.now in (
      omega arith,
      search rules,
      refl,
      λ k is e. (is, e),
      λ k sh is e. going_start (by_size (smaller (g.K.Keeper.sizes a.kept.now)) k) k sh a.limit x (laid k sh x) refl,
    )

pub choose-best-requires : goal.choose-best-requires
choose-best-requires g c =
    let w = c.requires in
    record { code = w.code; word = wbit c.loop-left.y; is = (c.loop-left.invariant.3 w.code w.is w.first_is).0 }

pub returns-then-top-le8 : goal.returns-then-top-le8
returns-then-top-le8 g c k sh is e =
    let a = c.args in
    let l = c.loop-left in
    let y = wbit l.y in
    let way = by_size (smaller (g.K.Keeper.sizes a.kept.now)) k in
    let i = l.invariant.3 k is e in
    let b = c.choose-best.ensures.1 k y i.0 (λ z. omega (arith, i.1, z, c.loop-left-test.true)) in
    let next = b.0.ends c.if-top-le8.true in (
      runs_as _ _ c.at_end.ensures.0 c.at_end.ensures.1
          (ends_stuck way k sh a.limit (wbit a.y.now) l.flips y _ (l.invariant.4 k sh is e) next.0 next.1
          (ap (λ x. by_size (smaller x) k y) (sym l.invariant.2) ∙ next.2)),
      c.at_end.ensures.2 ∙ i.1,
    )

pub returns-then-flips-most : goal.returns-then-flips-most
returns-then-flips-most g c k sh is e =
    let a = c.args in
    let l = c.loop-left in
    let y = wbit l.y in
    let end = c.at_end-then-flips-most.ensures in
    let way = by_size (smaller (g.K.Keeper.sizes a.kept.now)) k in
    let i = l.invariant.3 k is e in
    let b = c.choose-best.ensures.1 k y i.0 (λ z. omega (arith, i.1, z, c.loop-left-test.true)) in
    let next = b.0.goes c.if-top-le8.false in (
      runs_as _ _ end.0 end.1
          (ends_limit way k sh a.limit (wbit a.y.now) l.flips y _ (l.invariant.4 k sh is e) _ next.0
          (ap (λ x. by_size (smaller x) k y) (sym l.invariant.2) ∙ next.1) c.if-flips-most.true),
      end.2 ∙ i.1,
    )

pub overflow_sub-left : goal.overflow_sub-left
overflow_sub-left g c = omega (arith, c.if-top-le8.false)

pub overflow_sub-left-in-loop-left : goal.overflow_sub-left-in-loop-left
overflow_sub-left-in-loop-left g c =
    let l = c.loop-left in
    let w = c.requires in
    let i = l.invariant.3 w.code w.is w.first_is in
    let b = c.choose-best.ensures.1 w.code (wbit l.y) i.0 (λ z. omega (arith, i.1, z, c.loop-left-test.true)) in
    omega (arith, i.1, b.0.fewer c.if-top-le8.false)

pub flip-requires : goal.flip-requires
flip-requires g c =
    let l = c.loop-left in
    let w = c.requires in
    let i = l.invariant.3 w.code w.is w.first_is in
    let b = c.choose-best.ensures.1 w.code (wbit l.y) i.0 (λ z. omega (arith, i.1, z, c.loop-left-test.true)) in
    record { code = w.code; is = b.1 c.if-top-le8.false }

pub overflow_add-flips : goal.overflow_add-flips
overflow_add-flips g c = omega (arith, c.loop-left.invariant.1, c.if-flips-most.false)

pub loop-left-smaller : goal.loop-left-smaller
loop-left-smaller g c = omega (arith, c.if-flips-most.false)

pub loop-left-preserved : goal.loop-left-preserved
loop-left-preserved g c =
    let a = c.args in
    let l = c.loop-left in
    let y = wbit l.y in
    let f = c.flip.ensures in
    let high = c.if-top-le8.false in
    let more = c.if-flips-most.false in (
      omega (arith, more),
      l.invariant.1,
      f.0 ∙ c.choose-best.ensures.0 ∙ l.invariant.2,
      λ k is e.
          let i = l.invariant.3 k is e in
          let b = c.choose-best.ensures.1 k y i.0 (λ z. omega (arith, i.1, z, c.loop-left-test.true)) in
          let left : l.left - (c.choose-best.result.score - 8) ≡ broken k (flipped y c.choose-best.result.bit) =
          omega (arith, i.1, b.0.fewer high) in
          (subst (g.K.Keeper.stands c.flip.new.self k) (sym f.1) (f.2 k (b.1 high)), left ∙ ap (broken k) (sym f.1)),
      λ k sh is e.
          let i = l.invariant.3 k is e in
          let b = c.choose-best.ensures.1 k y i.0 (λ z. omega (arith, i.1, z, c.loop-left-test.true)) in
          let next = b.0.goes high in
          let way = by_size (smaller (g.K.Keeper.sizes a.kept.now)) k in
          subst (λ z. Going way k sh a.limit (wbit a.y.now) (l.flips + 1) z (laid k sh z)) (sym f.1)
          (goes_on way k sh a.limit (wbit a.y.now) l.flips y _ (l.invariant.4 k sh is e) _ next.0
          (ap (λ x. by_size (smaller x) k y) (sym l.invariant.2) ∙ next.1) more _ _ refl refl),
    )

pub returns : goal.returns
returns g c k sh is e =
    let a = c.args in
    let l = c.loop-left in
    let y = wbit l.y in
    let less = smaller (g.K.Keeper.sizes a.kept.now) in
    let i = l.invariant.3 k is e in
    let none : broken k y ≡ 0 = omega (arith, i.1, c.loop-left-test.false) in (
      runs_as _ _ c.at_end-2.ensures.0 c.at_end-2.ensures.1
          (ends_quiet (by_size less k) k sh a.limit (wbit a.y.now) l.flips y _ (l.invariant.4 k sh is e) (sized_quiet less k y none)),
      c.at_end-2.ensures.2 ∙ sym none,
    )
