-- `wideparity::step_wide` meets its contract: the source row is doubled, its turned copies are added, and the rows are cut at bit M.
-- Assumes nothing.
use mathlib.Core.Path.{◌≡◌, ap, ap₂, ◌∙◌}
use Prim.Native.Nat.{ℕ, ◌+◌, ◌*◌}
use native.Mathlib.Omega.{arith}
use borrow.Author.Rules.{rules}
use Rattle.bits.specs.Bits.{Word}
use Rattle.vectors.specs.Vectors.{wbit, added}
use Rattle.syndromes.specs.Rows.{wide, within}
use Rattle.encoder.specs.steps.Steps.{target, source}
use Rattle.encoder.specs.parityrows.Rows.{held, copies}
use Rattle.encoder.proofs.parityrows.Laws.{copies_are, to_row, row_room, wide_some, step_cut}
use Rattle.encoder.proofs.wideparity.step_wide.Goals as goal

pub double_row-requires : goal.double_row-requires
double_row-requires c =
    (c.requires.0, search rules, c.requires.1, c.requires.2, search rules, c.requires.3)

pub overflow_cast-step : goal.overflow_cast-step
overflow_cast-step c = omega (arith, c.shared_slice_known-2-1.given 0)

pub overflow_mul-step : goal.overflow_mul-step
overflow_mul-step c =
    let h = row_room c.args.sh c.requires.0 (target c.args.step.now) (to_row c.args.sh.rows c.args.step.now c.requires.2)
    in
    omega (arith, h)

pub add_turns-requires : goal.add_turns-requires
add_turns-requires c =
    let fit = c.requires.0 in
    let h = row_room c.args.sh fit (target c.args.step.now) (to_row c.args.sh.rows c.args.step.now c.requires.2) in
    (c.requires.1, fit.held_in, fit.words, omega (arith, h))

pub trim_rows-requires : goal.trim_rows-requires
trim_rows-requires c =
    let fit = c.requires.0 in
    let room = fit.room in
    (fit.some, fit.held_in, fit.close, search rules)

pub returns : goal.returns
returns c = λ f e.
    let a = c.args in
    let sh = a.sh in
    let step = a.step.now in
    let M = sh.size in
    let t = target step in
    let row = c.double_row in
    let g : Word = copies M step (wbit row.new.d) in
    let start : 64 * (t * sh.words) ≡ wide sh * t = omega arith in
    let end : 64 * (t * sh.words + sh.words) ≡ wide sh * (t + 1) = omega arith in
    c.trim_rows.ensures
    ∙ ap (within (wide sh) M sh.rows) (c.add_turns.ensures
    ∙ ap (λ (z : Word). added z (64 * (t * sh.words)) (64 * (t * sh.words + sh.words)) g) e
    ∙ ap₂ (λ (p q : ℕ). added (held sh f) p q g) start end)
    ∙ step_cut sh (wide_some sh c.requires.0) step f g (to_row sh.rows step c.requires.2)
    (λ i hi. ap (λ (z : Word). copies M step z i) (row.ensures f e) ∙ copies_are M step (f (source step)) i hi)
