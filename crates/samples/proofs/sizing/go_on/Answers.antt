-- `sizing::go_on`: the loop has come to the run's word after so many flips, for every code that is lent. Assumes nothing.
use mathlib.Core.Path.{refl, sym, ap, ◌∙◌, subst}
use Prim.Native.Nat.{◌≤◌}
use native.Mathlib.Omega.{arith}
use Rattle.answers.specs.Calls.{differing}
use Rattle.answers.proofs.Differing.{differ_self}
use Rattle.vectors.specs.Vectors.{wbit}
use Rattle.layout.specs.Lent.{laid}
use Rattle.flipping.proofs.runs.Passing.{going_start}
use Rattle.magnitudes.specs.Patterns.{read, smaller}
use Rattle.magnitudes.specs.Sizes.{by_size}
use Rattle.samples.specs.raising.Knowing.{Sampled}
use Rattle.samples.specs.sizing.Passing.{StartingIn}
use Rattle.samples.proofs.sizing.Passes.{Comes, pass_ends, comes_quiet}
use borrow.Author.Rules.{rules}
use Rattle.samples.proofs.sizing.go_on.Goals as goal

pub loop-left-init : goal.loop-left-init
loop-left-init c =
    let a = c.args in (
      omega arith,
      search rules,
      omega arith,
      refl,
      λ k h lent u fit g e w. record {
        going = going_start (by_size (smaller a.samples.now) k) k a.kept.now.bounds.places.shape a.limit (wbit a.y.now)
            (laid k a.kept.now.bounds.places.shape (wbit a.y.now)) refl;
        left_is = e;
        stands = λ l. w;
        differs = sym (ap (differing k (read a.samples.now)) c.requires.2 ∙ differ_self k (read a.samples.now));
      },
    )

pub go_once-requires : goal.go_once-requires
go_once-requires c =
    let x = c.args.samples.now in
    let l = c.loop-left in
    let i = l.invariant in
    let w = c.requires.3 in
    let e = sym i.3 in
    let was = i.4 w.code w.table w.lent w.unsent w.fit w.gathered w.left_is w.stands in (
      subst (λ p. 1 ≤ p.shape.blocks) e c.requires.0,
      subst (Sampled x) e c.requires.1,
      omega (arith, i.0, i.1, i.2),
      c.loop-left-test.true,
      subst (λ p. StartingIn x l.left (wbit l.y) p l.rows l.kept.bounds.met l.kept.bits) e
          (record {
            code = w.code;
            table = w.table;
            fit = w.fit;
            lent = w.lent;
            gathered = w.gathered;
            unsent = w.unsent;
            left_is = was.left_is;
            stands = was.stands c.loop-left-test.true;
          }),
    )

pub returns-in-Err : goal.returns-in-Err
returns-in-Err c k h lent u fit g eq w =
    let a = c.args in
    let x = a.samples.now in
    let l = c.loop-left in
    let n = c.go_once in
    let e = c.at_end.ensures in
    let passes = subst (Comes x a.limit l.flips l.y l.rows l.kept.bounds.met l.kept.bits l.left l.unlike n.new.y n.new.rows
    n.new.kept.bounds.met n.new.kept.bits _) l.invariant.3 c.in-Err.ensures.2 in
    pass_ends (passes k h (wbit a.y.now) lent u fit g (l.invariant.4 k h lent u fit g eq w)) c.requires.2 c.at_end.result e.0 e.1 e.2 e.3

pub loop-left-preserved : goal.loop-left-preserved
loop-left-preserved c =
    let a = c.args in
    let x = a.samples.now in
    let l = c.loop-left in
    let i = l.invariant in
    let n = c.go_once in
    let p = c.in-Ok in
    let passes = subst (Comes x a.limit l.flips l.y l.rows l.kept.bounds.met l.kept.bits l.left l.unlike n.new.y n.new.rows
    n.new.kept.bounds.met n.new.kept.bits _) i.3 p.ensures.2 in (
      omega (arith, p.ensures.1.0),
      i.1,
      omega (arith, p.ensures.1.1, i.2),
      p.ensures.0 ∙ i.3,
      λ k h lent u fit g eq w. (passes k h (wbit a.y.now) lent u fit g (i.4 k h lent u fit g eq w)).goes,
    )

pub returns : goal.returns
returns c k h lent u fit g eq w =
    let e = c.at_end-2.ensures in
    comes_quiet (c.loop-left.invariant.4 k h lent u fit g eq w) c.loop-left-test.false c.requires.2 c.at_end-2.result e.0 e.1
    e.2 e.3
