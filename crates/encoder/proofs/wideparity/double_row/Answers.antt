-- `wideparity::double_row` meets its contract: the words of the source row, twice over. Assumes nothing.
use mathlib.Core.Path.{◌≡◌, ap, ◌∙◌}
use Prim.Native.Nat.{◌+◌, ◌-◌, ◌*◌}
use native.Mathlib.Omega.{arith}
use lib.ListN.{length, take, drop}
use borrow.Author.Rules.{rules}
use Rattle.vectors.specs.Vectors.{wbit, twice}
use Rattle.vectors.proofs.Spans.{up_to_again}
use Rattle.syndromes.specs.Rows.{wide}
use Rattle.encoder.specs.steps.Steps.{source}
use Rattle.encoder.proofs.parityrows.Laws.{from_row, row_room, wide_some, row_slice, slice_long}
use Rattle.encoder.proofs.wideparity.double_row.Goals as goal

pub overflow_cast-at : goal.overflow_cast-at
overflow_cast-at c = omega (arith, c.shared_slice_known-3-1.given 1)

pub overflow_mul-at : goal.overflow_mul-at
overflow_mul-at c = let h = row_room c.args.sh c.requires.0 (source c.args.step.now)
    (from_row c.args.sh.rows c.args.step.now c.requires.3) in
    omega (arith, h)

pub overflow_add-end : goal.overflow_add-end
overflow_add-end c = let h = row_room c.args.sh c.requires.0 (source c.args.step.now)
    (from_row c.args.sh.rows c.args.step.now c.requires.3) in
    omega (arith, h)

pub offset_bounds-z-at : goal.offset_bounds-z-at
offset_bounds-z-at c = let h = row_room c.args.sh c.requires.0 (source c.args.step.now)
    (from_row c.args.sh.rows c.args.step.now c.requires.3) in
    omega (arith, h)

pub slice_bounds-double-end : goal.slice_bounds-double-end
slice_bounds-double-end c = let h = row_room c.args.sh c.requires.0 (source c.args.step.now)
    (from_row c.args.sh.rows c.args.step.now c.requires.3) in
    search rules

pub double-requires : goal.double-requires
double-requires c =
    let a = c.args in
    let sh = a.sh in
    let fit = c.requires.0 in
    let q = source a.step.now in
    let hq = from_row sh.rows a.step.now c.requires.3 in
    let n = q * sh.words + sh.words - q * sh.words in
    let en : n ≡ sh.words = omega arith in
    let x = wbit a.z.now in
    let long : length (take n (drop (q * sh.words) a.z.now)) ≡ n = slice_long a.z.now (q * sh.words) n
    (omega (arith, row_room sh fit q hq)) in (
      up_to_again sh.size (λ i. x (wide sh * q + i)) (wbit (take n (drop (q * sh.words) a.z.now)))
          (row_slice sh (wide_some sh fit) fit.held_in (λ r i. x (wide sh * r + i)) a.z.now c.requires.5 q n hq en),
      fit.some,
      omega (arith, long, fit.held_in),
      omega (arith, fit.held_in, fit.words),
      omega arith,
    )

pub returns : goal.returns
returns c = λ f e.
    let a = c.args in
    let sh = a.sh in
    let fit = c.requires.0 in
    let q = source a.step.now in
    let n = q * sh.words + sh.words - q * sh.words in
    let en : n ≡ sh.words = omega arith in
    c.double.ensures
    ∙ ap (twice sh.size) (row_slice sh (wide_some sh fit) fit.held_in f a.z.now e q n
    (from_row sh.rows a.step.now c.requires.3) en)
