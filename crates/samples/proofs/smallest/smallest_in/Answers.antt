-- `smallest::smallest_in`: 64 bits more at each pass. Assumes nothing.
use native.Mathlib.Omega.{arith}
use Rattle.vectors.specs.Vectors.{wbit}
use Rattle.samples.proofs.smallest.Searching.{none_light, mask_light, lightest_more, lightest_all}
use Rattle.samples.proofs.smallest.smallest_in.Goals as goal

pub loop-at-init : goal.loop-at-init
loop-at-init c =
    let a = c.args in (
      omega arith,
      none_light a.samples.now (wbit a.d.now) a.starts.now a.from a.n a.met a.m a.first _ (omega
          arith),
    )

pub weigh-mask-requires : goal.weigh-mask-requires
weigh-mask-requires c =
    let w = c.requires.0 in
    (w.few, c.requires.2, w.room, omega (arith, w.starts_long), omega (arith, w.d_long), λ e l. omega (arith, w.near e l))

pub overflow_add-first : goal.overflow_add-first
overflow_add-first c = omega (arith, c.requires.1)

pub among-best-requires : goal.among-best-requires
among-best-requires c =
    let a = c.args in
    let l = c.loop-at in (
      λ u. (l.invariant.1.inside u).2,
      λ i h e. omega (
        arith,
        c.requires.1,
        (mask_light a.samples.now (wbit a.d.now) a.starts.now a.from a.n a.met a.m a.first l.at c.weigh-mask.result
            c.weigh-mask.ensures i h e).0,
      ),
    )

pub overflow_add-at : goal.overflow_add-at
overflow_add-at c = omega (arith, c.requires.0.size)

pub loop-at-preserved : goal.loop-at-preserved
loop-at-preserved c =
    let a = c.args in
    let l = c.loop-at in
    let w = c.weigh-mask in
    let f = c.among-best in (
      omega arith,
      lightest_more a.samples.now (wbit a.d.now) a.starts.now a.from a.n a.met a.m a.first l.at w.result
          w.ensures c.requires.1 l.best f.result l.invariant.1 f.ensures.0 f.ensures.1,
    )

pub returns : goal.returns
returns c =
    let a = c.args in
    let l = c.loop-at in
    lightest_all a.samples.now (wbit a.d.now) a.starts.now a.from a.n a.met a.m a.first l.at l.best
    (omega arith)
    l.invariant.1
