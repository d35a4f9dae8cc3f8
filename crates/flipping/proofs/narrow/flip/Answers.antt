-- `narrow::flip` meets its contract: the bit is flipped, and in each row the checks that cover it. Assumes nothing.
use mathlib.Core.Path.{subst}
use Prim.Native.Nat.{◌/◌, ◌%◌}
use native.Mathlib.Nat.{mod-lt, div-add-mod', div-lt_iff_lt-mul}
use native.Mathlib.Omega.{arith}
use borrow.Author.Rules.{rules}
use lib.Dec.{eqb}
use lib.ListN.{get_or}
use Rattle.bits.specs.Bits.{flipped}
use Rattle.flipping.specs.narrow.Weighing.{Rows}
use Rattle.flipping.proofs.narrow.Blocks.{first_of_row, row_flipped}
use Rattle.flipping.proofs.narrow.flip.Goals as goal

pub flip_bit-requires : goal.flip_bit-requires
flip_bit-requires c =
    omega (arith, c.args.parity.fit.bits, c.requires.1, c.flip_bit-arg-1.given)

pub repeated-each-requires : goal.repeated-each-requires
repeated-each-requires c =
    (c.args.parity.fit.some, omega (arith, c.args.parity.fit.held, c.requires.0))

--? div-flip-rows : tie.Need-nonzero-div-flip-rows
--? div-flip-rows c =
--?     let s : tie.Start = search in
--?     omega (arith, s.pre.0.some)

--? rem-flip-rows : tie.Need-nonzero-rem-flip-rows
--? rem-flip-rows c =
--?     let s : tie.Start = search in
--?     omega (arith, s.pre.0.some)

pub flip_rows-requires : goal.flip_rows-requires
flip_rows-requires c =
    let a = c.args in (
      c.requires.0,
      search rules,
      (div-lt_iff_lt-mul c.args.parity.fit.some).1 c.requires.1,
      mod-lt a.bit c.args.parity.fit.some,
      c.repeated-each.ensures (eqb 0) (first_of_row a.parity.shape.size c.args.parity.fit.some),
    )

pub returns : goal.returns
returns c =
    let a = c.args in
    let M = a.parity.shape.size in
    let out = c.flip_rows.new.rows in
    let inside = (div-lt_iff_lt-mul c.args.parity.fit.some).1 c.requires.1 in record {
      word = c.flip_bit.ensures;
      checks = λ k x lent is.
          subst (λ n. Rows k a.parity.shape (flipped x n) out) (div-add-mod' a.bit M)
          (λ q hq.
          row_flipped k a.parity.places.now a.parity.shape lent a.parity.fit x (a.bit / M) (a.bit % M) q (get_or a.rows.now q 0)
          (get_or out q 0) inside (mod-lt a.bit c.args.parity.fit.some) (omega (arith, (c.args.parity.fit.narrow c.requires.0).0)) (is q hq)
          (c.flip_rows.ensures q hq));
    }
