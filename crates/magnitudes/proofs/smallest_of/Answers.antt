-- `magnitudes::smallest_of`: what is left of the mask gives, from the best so far, what all of it gives. Assumes nothing.
use mathlib.Core.Path.{sym, ◌∙◌, subst}
use Prim.Native.Nat.{◌+◌, ◌<◌}
use lib.ListN.{length}
use Rattle.magnitudes.specs.Patterns.{smaller}
use Rattle.magnitudes.proofs.Masks.{masked, masked_none, masked_more, left_less, left_set, smaller_in}
use borrow.Author.Rules.{rules}
use Rattle.magnitudes.proofs.smallest_of.Goals as goal

pub loop-left-smaller : goal.loop-left-smaller
loop-left-smaller c =
    let f = c.first_set-i in
    let l = c.loop-left in
    let a = c.args in
    left_less (smaller a.samples.now) a.first l.left c.with_flipped-left.result f.result f.ensures.0 f.ensures.1
    f.ensures.2 c.with_flipped-left.ensures l.invariant.0 (search rules)

pub loop-left-preserved : goal.loop-left-preserved
loop-left-preserved c =
    let f = c.first_set-i in
    let l = c.loop-left in
    let a = c.args in
    let less = smaller a.samples.now in
    let i = f.result in
    let s = c.smaller-best in (
      search rules,
      subst (λ k. k < length a.samples.now) (sym s.ensures) (smaller_in (less (a.first + i) l.best) (a.first + i) l.best
          (length a.samples.now) (l.invariant.2 i f.ensures.0 f.ensures.1) l.invariant.1),
      λ k h e. l.invariant.2 k h (left_set less a.first l.left c.with_flipped-left.result i f.ensures.0 f.ensures.1 f.ensures.2
          c.with_flipped-left.ensures k h e),
      masked_more less a.first l.left c.with_flipped-left.result i f.ensures.0 f.ensures.1 f.ensures.2
          c.with_flipped-left.ensures l.best s.result s.ensures ∙ l.invariant.3,
    )

pub returns : goal.returns
returns c =
    let l = c.loop-left in
    let a = c.args in
    let less = smaller a.samples.now in (
      l.invariant.1,
      λ marked n h holds. sym (masked_none less a.first l.left l.best c.loop-left-test.false) ∙ l.invariant.3
          ∙ masked less a.first a.mask a.bit marked n h holds,
    )
