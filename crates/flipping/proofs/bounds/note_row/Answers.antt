-- `bounds::note_row` meets its contract. Assumes nothing.
use mathlib.Core.Path.{◌∙◌}
use Prim.Native.Nat.{◌+◌}
use native.Mathlib.Omega.{arith}
use Rattle.flipping.proofs.bounds.Entries.{place_in, noted_le, noted_ge, noted_before, gathered_row}
use Rattle.flipping.proofs.bounds.note_row.Goals as goal

pub overflow_mul-at : goal.overflow_mul-at
overflow_mul-at c =
    let inside = place_in _ _ c.args.parity.fit c.args.r c.args.b c.requires.1 c.requires.0 in
    omega arith

pub overflow_add-at : goal.overflow_add-at
overflow_add-at c =
    let inside = place_in _ _ c.args.parity.fit c.args.r c.args.b c.requires.1 c.requires.0 in
    omega arith

pub overflow_mul-at-2 : goal.overflow_mul-at-2
overflow_mul-at-2 c =
    let inside = place_in _ _ c.args.parity.fit c.args.r c.args.b c.requires.1 c.requires.0 in
    omega arith

pub note-next-requires : goal.note-next-requires
note-next-requires c =
    let inside = place_in _ _ c.args.parity.fit c.args.r c.args.b c.requires.1 c.requires.0 in
    (omega arith, omega arith, omega (arith, c.args.parity.fit.rows, c.args.parity.fit.held, c.args.parity.fit.words))

pub overflow_add-at-2 : goal.overflow_add-at-2
overflow_add-at-2 c =
    let inside = place_in _ _ c.args.parity.fit c.args.r c.args.b c.requires.1 c.requires.0 in
    omega arith

pub note-requires : goal.note-requires
note-requires c =
    let inside = place_in _ _ c.args.parity.fit c.args.r c.args.b c.requires.1 c.requires.0 in (
      omega arith,
      omega (arith, noted_le c.note-next.ensures, c.note-next.ensures.long),
      omega (arith, c.args.parity.fit.rows, c.args.parity.fit.held, c.args.parity.fit.words),
    )

pub returns : goal.returns
returns c =
    let a = c.args in
    let one = c.note-next in
    let two = c.note in (
      omega (arith, noted_ge one.ensures, noted_ge two.ensures),
      omega (arith, noted_le one.ensures, noted_le two.ensures),
      λ e h. noted_before two.ensures e (omega (arith, noted_ge one.ensures)) ∙ noted_before one.ensures e h,
      λ first from listed. gathered_row a.parity.places.now a.parity.shape a.b a.r a.starts.now _ _ first a.n one.result two.result
          (3072 + a.parity.shape.size) from (omega (arith, c.requires.2, c.requires.3))
          (omega (arith, a.parity.fit.rows, c.requires.1)) one.ensures two.ensures listed,
    )
