-- `raising::meet`: the bit has fewer checks met than any before, or more, or as many. Assumes nothing.
use mathlib.Core.Path.{sym, subst}
use mathlib.Core.Bool.{◌||◌}
use Prim.Native.Nat.{◌+◌, ◌-◌}
use native.Mathlib.Omega.{arith}
use lib.Dec.{eqb}
use Rattle.samples.specs.raising.Knowing.{Known}
use Rattle.samples.proofs.raising.Seeing.{look_lower, look_higher, look_equal, one_inside}
use Rattle.samples.proofs.raising.meet.Goals as goal

pub returns-then-broken-met : goal.returns-then-broken-met
returns-then-broken-met c =
    let a = c.args in (
      omega arith,
      λ d starts from m seen l room is was.
          subst (λ z. Known a.samples.now d starts from a.n m a.first (λ j. seen j || eqb j a.k) (a.n - z)
          (a.first + a.k)) (sym is)
          (look_lower a.samples.now d starts from a.n m a.first seen a.met a.known was a.k l room
          (omega (arith, is, c.if-broken-met.true))),
    )

pub returns-then-broken-met-2 : goal.returns-then-broken-met-2
returns-then-broken-met-2 c =
    let a = c.args in (
      c.requires.3,
      λ d starts from m seen l room is was. look_higher a.samples.now d starts from a.n m a.first seen a.met
          a.known was a.k (omega (arith, is, c.if-broken-met-2.true)),
    )

pub returns-then-known-samples : goal.returns-then-known-samples
returns-then-known-samples c =
    let a = c.args in (
      c.requires.3,
      λ d starts from m seen l room is was. look_equal a.samples.now d starts from a.n m a.first seen a.met
          a.known was a.k a.known (omega (arith, is, c.if-broken-met-2.false, c.if-broken-met.false))
          (λ u. absurd (omega (arith, c.if-known-samples.true))) room,
    )

pub returns : goal.returns
returns c =
    let a = c.args in
    let f = c.lesser in
    let here = c.if-known-samples.false in (
      c.requires.3,
      λ d starts from m seen l room is was. look_equal a.samples.now d starts from a.n m a.first seen a.met
          a.known was a.k f.result
          (omega (arith, is, c.if-broken-met-2.false, c.if-broken-met.false))
          (λ u. (
            here,
            one_inside a.first m f.result a.known a.k f.ensures.0 (was.inside here) l,
            f.ensures.1,
            f.ensures.2,
          )) room,
    )
