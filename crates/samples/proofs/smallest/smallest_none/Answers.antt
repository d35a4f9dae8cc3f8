-- `smallest::smallest_none`: 64 bits more at each pass, all four windows of them at once. Assumes nothing.
use mathlib.Core.Path.{sym, subst}
use Prim.Native.Nat.{ℕ, ◌+◌}
use native.Mathlib.Omega.{arith}
use Rattle.vectors.specs.Vectors.{wbit}
use Rattle.samples.specs.smallest.Settling.{Lightest}
use Rattle.samples.proofs.smallest.Masks.{among_none}
use Rattle.samples.proofs.smallest.Searching.{none_light, mask_light, lightest_more, lightest_all}
use Rattle.samples.proofs.smallest.Fours.{four_near, none_cut, none_clear}
use Rattle.samples.proofs.smallest.smallest_none.Goals as goal
use Rattle.samples.proofs.smallest.smallest_none.Goals.{else-v-ne0, then-v-ne0}

pub overflow_cast-s0 : goal.overflow_cast-s0
overflow_cast-s0 c =
    omega (arith, (four_near c.args.starts.now c.args.d.now c.args.from c.args.m c.requires.0))

pub overflow_cast-s1 : goal.overflow_cast-s1
overflow_cast-s1 c =
    omega (arith, (four_near c.args.starts.now c.args.d.now c.args.from c.args.m c.requires.0))

pub overflow_cast-s2 : goal.overflow_cast-s2
overflow_cast-s2 c =
    omega (arith, (four_near c.args.starts.now c.args.d.now c.args.from c.args.m c.requires.0))

pub overflow_cast-s3 : goal.overflow_cast-s3
overflow_cast-s3 c =
    omega (arith, (four_near c.args.starts.now c.args.d.now c.args.from c.args.m c.requires.0))

pub loop-at-init : goal.loop-at-init
loop-at-init c =
    let a = c.args in (
      omega arith,
      none_light a.samples.now (wbit a.d.now) a.starts.now a.from 4 0 a.m a.first _ (omega arith),
    )

pub overflow_add-s0 : goal.overflow_add-s0
overflow_add-s0 c =
    omega (arith, (four_near c.args.starts.now c.args.d.now c.args.from c.args.m c.requires.0))

pub overflow_add-s1-in-loop-at : goal.overflow_add-s1-in-loop-at
overflow_add-s1-in-loop-at c =
    omega (arith, (four_near c.args.starts.now c.args.d.now c.args.from c.args.m c.requires.0))

pub overflow_add-s2-in-loop-at : goal.overflow_add-s2-in-loop-at
overflow_add-s2-in-loop-at c =
    omega (arith, (four_near c.args.starts.now c.args.d.now c.args.from c.args.m c.requires.0))

pub overflow_add-s3-in-loop-at : goal.overflow_add-s3-in-loop-at
overflow_add-s3-in-loop-at c =
    omega (arith, (four_near c.args.starts.now c.args.d.now c.args.from c.args.m c.requires.0))

pub none_met-v-requires : goal.none_met-v-requires
none_met-v-requires c =
    let near = four_near c.args.starts.now c.args.d.now c.args.from c.args.m c.requires.0 in
    (omega arith, omega arith, omega arith, omega arith)

pub overflow_add-first : goal.overflow_add-first
overflow_add-first c = omega (arith, c.requires.1)

pub among-best-requires : goal.among-best-requires
among-best-requires c =
    let a = c.args in
    let l = c.loop-at in
    let v = c.none_met-v in
    let t = c.ahead in
    let f = c.front in (
      λ u. (l.invariant.1.inside u).2,
      λ i h e. omega (
        arith,
        c.requires.1,
        (mask_light a.samples.now (wbit a.d.now) a.starts.now a.from 4 0 a.m a.first l.at f.result
            (none_cut (wbit a.d.now) a.starts.now a.from l.at a.m v.result v.ensures t.result f.result
            t.ensures.1 f.ensures) i h e).0,
      ),
    )

pub overflow_add-at : goal.overflow_add-at
overflow_add-at c = omega (arith, c.requires.0.size)

pub loop-at-preserved : goal.loop-at-preserved
loop-at-preserved c =
    let a = c.args in
    let l = c.loop-at in
    let v = c.none_met-v in
    let x = a.samples.now in
    let d = wbit a.d.now in
    let h = a.starts.now in
    let found : ℕ → Type 0 = Lightest x d h a.from 4 0 a.m a.first (l.at + 64) in
    let none = among_none x v.result (a.first + l.at) in (
      omega arith,
      (elim c.if-v-ne0.branch [
        | then-v-ne0 w ↦ subst found (sym w.best-is) (lightest_more x d h a.from 4 0 a.m a.first l.at w.front.result
            (none_cut d h a.from l.at a.m v.result v.ensures w.ahead.result w.front.result w.ahead.ensures.1 w.front.ensures)
            c.requires.1 l.best w.among-best.result l.invariant.1 w.among-best.ensures.0 w.among-best.ensures.1)
        | else-v-ne0 w ↦ subst found (sym w.best-is) (lightest_more x d h a.from 4 0 a.m a.first l.at v.result
            (none_clear d h a.from l.at a.m v.result v.ensures w.if-v-ne0.false)
            c.requires.1 l.best l.best l.invariant.1 (none w.if-v-ne0.false l.best).0 (none w.if-v-ne0.false l.best).1)
      ]),
    )

pub returns : goal.returns
returns c =
    let a = c.args in
    let l = c.loop-at in
    lightest_all a.samples.now (wbit a.d.now) a.starts.now a.from 4 0 a.m a.first l.at l.best (omega arith)
    l.invariant.1
