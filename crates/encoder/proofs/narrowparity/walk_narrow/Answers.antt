-- `narrowparity::walk_narrow` meets its contract: after k passes the first k steps are taken. Assumes nothing.
use mathlib.Core.Path.{◌≡◌, sym, ap, ◌∙◌, subst}
use mathlib.Core.List.{List, []}
use Prim.Native.Nat.{ℕ, ◌<◌}
use native.Mathlib.Omega.{arith}
use lib.Dec.{T}
use lib.ListN.{get_or}
use borrow.Author.Rules.{rules}
use Rattle.encoder.specs.steps.Steps.{rows_in, stepped, walked}
use Rattle.encoder.specs.parityrows.Rows.{held, steps_of}
use Rattle.encoder.proofs.parityrows.Laws.{walked_none, walked_more}
use Rattle.encoder.proofs.narrowparity.walk_narrow.Goals as goal

pub narrow_steps-steps-requires : goal.narrow_steps-steps-requires
narrow_steps-steps-requires c = c.requires.3

pub loop-step-init : goal.loop-step-init
loop-step-init c = (
  sym c.narrow_steps-steps.ensures,
  λ f e. e
      ∙ ap (held c.args.sh) (walked_none c.args.sh.size (steps_of c.args.sh.size) f),
)

pub step_narrow-requires : goal.step_narrow-requires
step_narrow-requires c = let l = c.loop-step in
    let h : l.step-index < 15 = omega arith in (
      c.requires.0,
      c.requires.1,
      search rules,
      subst (λ (z : List (List ℕ)). T (rows_in c.args.sh.rows (get_or z l.step-index []))) l.invariant.0
          (c.requires.2 l.step-index h),
    )

pub loop-step-preserved : goal.loop-step-preserved
loop-step-preserved c =
    let sh = c.args.sh in
    let l = c.loop-step in
    let step = c.step_narrow in (
      l.invariant.0,
      λ f e.
          let before = walked sh.size (steps_of sh.size) l.step-index f in
          step.ensures before (l.invariant.1 f e) ∙ ap (λ (z : List (List ℕ)). held sh (stepped sh.size (get_or z l.step-index []) before))
          (sym l.invariant.0)
          ∙ ap (held sh) (walked_more sh.size (steps_of sh.size) l.step-index f),
    )

pub returns : goal.returns
returns c = λ f e.
    let sh = c.args.sh in
    let l = c.loop-step in
    let all : l.step-index ≡ 15 = omega arith in
    l.invariant.1 f e ∙ ap (λ (n : ℕ). held sh (walked sh.size (steps_of sh.size) n f)) all
