-- `smallest::still`: the bit before stays ahead; or the known bit does, and it has no more checks met. Assumes nothing.
use mathlib.Core.Path.{refl, subst}
use mathlib.Core.Logic.{inl, inr}
use Prim.Native.Nat.{◌+◌, ◌%◌}
use native.Mathlib.Nat.{mod-lt}
use native.Mathlib.Omega.{arith}
use lib.ListN.{get_or}
use Rattle.bits.proofs.Counting.{count-le}
use Rattle.vectors.specs.Vectors.{wbit}
use Rattle.magnitudes.specs.Patterns.{smaller}
use Rattle.samples.specs.raising.Knowing.{Ahead}
use Rattle.samples.proofs.raising.Orders.{other_one}
use Rattle.samples.proofs.raising.Seeing.{within_less}
use Rattle.samples.proofs.smallest.still.Goals as goal

pub returns-then-bit-end : goal.returns-then-bit-end
returns-then-bit-end c = λ u. absurd (omega arith)

pub returns-then-r-best : goal.returns-then-r-best
returns-then-r-best c =
    let a = c.args in
    let x = smaller a.samples.now in
    let e = c.lead-r.ensures in
    let is = c.if-r-best.true in
    λ u. (
      c.if-bit-end.false,
      subst (λ r. Ahead x r a.bit) is e.2,
      λ v. subst (λ r. Ahead x r a.best) is (e.3 v),
      inl refl,
    )

pub broken_of-requires : goal.broken_of-requires
broken_of-requires c =
    let a = c.args in
    within_less a.starts.now a.d.now a.from a.n a.m (a.bit % a.m) c.requires.0 (omega (
      arith,
      mod-lt a.bit c.requires.2,
    ))

pub overflow_add-broken_of : goal.overflow_add-broken_of
overflow_add-broken_of c =
    let a = c.args in
    omega (
      arith,
      c.requires.1,
      c.requires.0.few,
      c.broken_of.ensures,
      count-le a.n (λ e. wbit a.d.now (get_or a.starts.now (a.from + e) 0 + (a.bit % a.m))),
    )

pub returns-then-broken_of-met : goal.returns-then-broken_of-met
returns-then-broken_of-met c = λ u. absurd (omega arith)

pub returns : goal.returns
returns c =
    let a = c.args in
    let x = smaller a.samples.now in
    let e = c.lead-r.ensures in
    let is = other_one e.0 c.if-r-best.false in
    λ u. (
      u,
      subst (λ r. Ahead x r a.bit) is e.2,
      λ v. subst (λ r. Ahead x r a.best) is (e.3 v),
      inr (refl, omega (arith, c.broken_of.ensures, c.if-broken_of-met.false)),
    )
