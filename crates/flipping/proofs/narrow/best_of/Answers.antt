-- `narrow::best_of`: of the bits of the best blocks the smallest is taken. Assumes nothing.
use mathlib.Core.Path.{sym, ap, ◌∙◌, subst}
use Prim.Native.Nat.{◌+◌, ◌*◌, ◌^◌, ◌≤◌, ◌<◌}
use native.Mathlib.Omega.{arith}
use borrow.Author.Rules.{rules}
use borrow.Author.Tests.{eqb-true, eqb-false}
use lib.Count.{count_leading_zeros}
use lib.ListN.{length}
use Rattle.magnitudes.specs.Patterns.{smaller}
use Rattle.flipping.proofs.narrow.Blocks.{top_in, chosen, mask_at}
use Rattle.flipping.proofs.narrow.Peaks.{no_smaller, high_marks, weighed_from, smallest_from}
use Rattle.flipping.proofs.narrow.best_of.Goals as goal

pub returns-then-score-le8 : goal.returns-then-score-le8
returns-then-score-le8 c k h from x fit lent begin long weighed =
    let a = c.args in
    let p = c.greatest-p in
    let f = c.first_bit-low in
    let narrow : a.sh.size ≤ 64 = omega (arith, fit.held, c.requires.narrow) in
    let mask = sym (mask_at a.levels.now p.result.block) in
    chosen k h a.sh fit narrow x from begin _ _ p.result.score p.result.block (subst (λ v. v < 2 ^ 64) mask f.ensures.0) weighed
    p.ensures a.samples.now f.result (λ high. absurd (omega (arith, c.if-score-le8.true)))

pub returns-then-is_empty : goal.returns-then-is_empty
returns-then-is_empty c k h from x fit lent begin long weighed =
    let a = c.args in
    let p = c.greatest-p in
    let f = c.first_bit-low in
    let narrow : a.sh.size ≤ 64 = omega (arith, fit.held, c.requires.narrow) in
    let mask = sym (mask_at a.levels.now p.result.block) in
    chosen k h a.sh fit narrow x from begin _ _ p.result.score p.result.block (subst (λ v. v < 2 ^ 64) mask f.ensures.0) weighed
    p.ensures a.samples.now f.result
    (λ high. f.ensures.1 ∙ ap (λ v. p.result.block * a.sh.size + count_leading_zeros 64 v) mask
    ∙ no_smaller a.samples.now (eqb-true (length a.samples.now) 0 (sym c.is_empty.ensures ∙ c.if-is_empty.true)) _ _ from _)

pub smallest_peak-requires : goal.smallest_peak-requires
smallest_peak-requires c =
    let a = c.args in
    let r = c.requires in
    let p = c.greatest-p in
    let f = c.first_bit-low in
    let narrow : a.sh.size ≤ 64 = omega (arith, r.fit.held, r.narrow) in
    let mask = sym (mask_at a.levels.now p.result.block) in
    let high : 8 < p.result.score = c.if-score-le8.false in
    let long = r.long (omega (arith, eqb-false (length a.samples.now) 0 (sym c.is_empty.ensures ∙ c.if-is_empty.false))) in (
      r.fit.blocks,
      r.fit.some,
      narrow,
      search rules,
      long.0,
      omega (
        arith,
        long.0,
        f.ensures.1,
        ap (λ v. p.result.block * a.sh.size + count_leading_zeros 64 v) mask,
        (top_in r.code r.table a.sh r.fit narrow r.word r.from r.begin _ _ p.result.score p.result.block
            (subst (λ v. v < 2 ^ 64) mask f.ensures.0) r.weighed p.ensures high).under,
      ),
      record {
        marked = _;
        marks = high_marks r.code a.sh r.fit.some narrow r.word _ _ p.result.score p.result.block (weighed_from long.1 r.weighed) p.ensures
            high;
      },
    )

pub returns : goal.returns
returns c k h from x fit lent begin long weighed =
    let a = c.args in
    let p = c.greatest-p in
    let f = c.first_bit-low in
    let narrow : a.sh.size ≤ 64 = omega (arith, fit.held, c.requires.narrow) in
    let mask = sym (mask_at a.levels.now p.result.block) in
    let none = long (omega (arith, eqb-false (length a.samples.now) 0 (sym c.is_empty.ensures ∙ c.if-is_empty.false))) in
    chosen k h a.sh fit narrow x from begin _ _ p.result.score p.result.block (subst (λ v. v < 2 ^ 64) mask f.ensures.0) weighed
    p.ensures a.samples.now c.smallest_peak.result
    (λ high.
    c.smallest_peak.ensures _ (high_marks k a.sh fit.some narrow x _ _ p.result.score p.result.block (weighed_from none weighed) p.ensures
    high)
    ∙ smallest_from (smaller a.samples.now) _ (a.sh.blocks * a.sh.size)
    (f.ensures.1 ∙ ap (λ v. p.result.block * a.sh.size + count_leading_zeros 64 v) mask) none)
