-- `wideparity::walk_wide` meets its contract: after k passes the first k steps are taken. Assumes nothing.
use mathlib.Core.Path.{◌≡◌, sym, ap, ◌∙◌, subst}
use mathlib.Core.List.{List, []}
use Prim.Native.Nat.{ℕ, ◌+◌, ◌*◌, ◌<◌}
use native.Mathlib.Omega.{arith}
use lib.Dec.{T}
use lib.ListN.{get_or}
use borrow.Author.Rules.{rules}
use Rattle.bits.specs.Bits.{Word}
use Rattle.vectors.specs.Vectors.{wbit}
use Rattle.syndromes.specs.Rows.{wide}
use Rattle.encoder.specs.steps.Steps.{rows_in, stepped, walked, steps511}
use Rattle.encoder.specs.parityrows.Rows.{held, steps_of}
use Rattle.encoder.proofs.parityrows.Laws.{wide_some, held_kept, walked_none, walked_more}
use Rattle.encoder.proofs.wideparity.walk_wide.Goals as goal

pub loop-step-init : goal.loop-step-init
unfolding steps_of
loop-step-init c = (
  c.requires.3,
  ap steps_of c.requires.1,
  λ f e. e
      ∙ ap (held c.args.sh) (walked_none c.args.sh.size (steps_of c.args.sh.size) f),
)

pub step_wide-requires : goal.step_wide-requires
step_wide-requires c = let l = c.loop-step in
    let h : l.step-index < 15 = omega arith in (
      c.requires.0,
      search rules,
      subst (λ (z : List (List ℕ)). T (rows_in c.args.sh.rows (get_or z l.step-index []))) l.invariant.1
          (c.requires.2 l.step-index h),
      l.invariant.0,
    )

pub loop-step-preserved : goal.loop-step-preserved
loop-step-preserved c =
    let sh = c.args.sh in
    let l = c.loop-step in
    let step = c.step_wide in
    let own : ℕ → Word = λ r i. wbit l.z (wide sh * r + i) in (
      held_kept sh (wide_some sh c.requires.0) (stepped sh.size (get_or steps511 l.step-index []) own) (wbit step.new.z)
          (step.ensures own l.invariant.0),
      l.invariant.1,
      λ f e.
          let before = walked sh.size (steps_of sh.size) l.step-index f in
          step.ensures before (l.invariant.2 f e) ∙ ap (λ (z : List (List ℕ)). held sh (stepped sh.size (get_or z l.step-index []) before))
          (sym l.invariant.1)
          ∙ ap (held sh) (walked_more sh.size (steps_of sh.size) l.step-index f),
    )

pub returns : goal.returns
returns c = λ f e.
    let sh = c.args.sh in
    let l = c.loop-step in
    let all : l.step-index ≡ 15 = omega arith in
    l.invariant.2 f e ∙ ap (λ (n : ℕ). held sh (walked sh.size (steps_of sh.size) n f)) all
