-- `raising::raise_in`: one start more at each pass. Assumes nothing.
use mathlib.Core.Path.{◌≡◌, subst}
use mathlib.Core.Bool.{◌||◌}
use native.Mathlib.Omega.{arith}
use lib.Dec.{eqb}
use Rattle.vectors.specs.Vectors.{wbit}
use Rattle.samples.specs.raising.Knowing.{Known, covered}
use Rattle.samples.proofs.raising.Seeing.{known_fewer, covered_none, covered_more, seen_only}
use Rattle.samples.proofs.raising.raise_in.Goals as goal

pub loop-e-init : goal.loop-e-init
loop-e-init c =
    let a = c.args in (
      omega arith,
      c.requires.2,
      λ seen was. known_fewer a.samples.now (wbit a.d.now) a.starts.now a.from a.n a.m a.first seen _ a.low.met
          a.low.bit (λ k l t. seen_only (seen k) _ (covered_none a.starts.now a.from a.m a.p k) t) was,
    )

pub overflow_add-from : goal.overflow_add-from
overflow_add-from c = let w = c.requires.0 in omega (arith, w.room, w.starts_long)

pub offset_bounds-starts-from : goal.offset_bounds-starts-from
offset_bounds-starts-from c = let w = c.requires.0 in omega (arith, w.room, w.starts_long)

pub bounds-starts-from : goal.bounds-starts-from
bounds-starts-from c = let w = c.requires.0 in omega (arith, w.room)

pub overflow_cast-starts : goal.overflow_cast-starts
overflow_cast-starts c = let w = c.requires.0 in omega (
  arith,
  w.near c.loop-e.e
      (omega arith),
  w.d_long,
)

pub bit_at-k-requires : goal.bit_at-k-requires
bit_at-k-requires c = (
  c.requires.3,
  c.requires.0.size,
)

pub look-now-requires : goal.look-now-requires
look-now-requires c = (
  c.requires.0,
  c.requires.1,
  c.loop-e.invariant.1,
)

pub loop-e-preserved : goal.loop-e-preserved
loop-e-preserved c =
    let a = c.args in
    let l = c.loop-e in
    let b = c.bit_at-k in (
      omega arith,
      c.look-now.ensures.0,
      λ seen was. known_fewer a.samples.now (wbit a.d.now) a.starts.now a.from a.n a.m a.first
          (λ j. (seen j || covered a.starts.now a.from a.m a.p l.e j) || eqb j b.result) _ c.look-now.result.met
          c.look-now.result.bit
          (covered_more a.starts.now a.from a.m a.p seen l.e b.result b.ensures.0 b.ensures.1)
          (c.look-now.ensures.1 _ (l.invariant.2 seen was)),
    )

pub returns : goal.returns
returns c =
    let a = c.args in
    let l = c.loop-e in
    let all : l.e ≡ a.n = omega arith in (
      l.invariant.1,
      λ seen was. subst (λ z. Known a.samples.now (wbit a.d.now) a.starts.now a.from a.n a.m a.first
          (λ j. seen j || covered a.starts.now a.from a.m a.p z j) l.now.met l.now.bit) all (l.invariant.2 seen was),
    )
