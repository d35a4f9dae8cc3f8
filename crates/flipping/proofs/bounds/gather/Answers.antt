-- `bounds::gather` meets its contract: after r passes the starts are those of the first r rows. Assumes nothing.
use mathlib.Core.Path.{◌≡◌, refl, ◌∙◌, subst}
use Prim.Native.Nat.{◌+◌, ◌-◌, ◌*◌}
use native.Mathlib.Omega.{arith}
use borrow.Author.Rules.{rules}
use Rattle.flipping.specs.bounds.Reading.{Listed, asked}
use Rattle.flipping.proofs.bounds.Entries.{listed_none}
use Rattle.flipping.proofs.bounds.gather.Goals as goal

pub overflow_mul-n : goal.overflow_mul-n
overflow_mul-n c = omega (arith, c.args.parity.fit.blocks)

pub loop-row-init : goal.loop-row-init
loop-row-init c =
    let a = c.args in
    let none : 0 ≡ 8 * a.b - 8 * a.b = omega arith in (
      omega arith,
      omega arith,
      omega arith,
      c.requires.1,
      subst (λ k. Listed a.starts.now (8 * a.b) k (3072 + a.parity.shape.size) (asked a.parity.places.now a.parity.shape a.b 0)) none
          (listed_none a.starts.now (8 * a.b) (3072 + a.parity.shape.size) a.parity.places.now a.parity.shape a.b),
      λ e h. refl,
    )

pub note_row-n-requires : goal.note_row-n-requires
note_row-n-requires c =
    (c.requires.0, search rules, c.loop-row.invariant.3, omega (arith, c.args.parity.fit.blocks, c.args.parity.fit.rows))

pub loop-row-preserved : goal.loop-row-preserved
loop-row-preserved c =
    let l = c.loop-row in
    let row = c.note_row-n in (
      omega arith,
      omega (arith, row.ensures.0, l.invariant.1),
      omega (arith, row.ensures.1, l.invariant.2),
      search rules,
      row.ensures.3 (8 * c.args.b) l.invariant.1 l.invariant.4,
      λ e h. row.ensures.2 e (omega (arith, l.invariant.1)) ∙ l.invariant.5 e h,
    )

pub overflow_mul-result : goal.overflow_mul-result
overflow_mul-result c =
    omega (arith, c.args.parity.fit.blocks)

pub returns : goal.returns
returns c =
    let a = c.args in
    let l = c.loop-row in
    let all : l.row ≡ a.parity.shape.rows = omega arith in (
      omega (arith, c.args.parity.fit.rows),
      subst (λ k. Listed l.starts (8 * a.b) (l.n - 8 * a.b) (3072 + a.parity.shape.size)
          (asked a.parity.places.now a.parity.shape a.b k)) all l.invariant.4,
      l.invariant.5,
    )
