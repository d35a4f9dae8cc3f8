-- What a shape that fits says of the numbers in the code. Assumes nothing.
use mathlib.Core.List.{List}
use Prim.Native.Nat.{ℕ, ◌+◌, ◌*◌, ◌≤◌, ◌<◌}
use native.Mathlib.Nat.{mul-le-mul, mul-le-mul_right}
use native.Mathlib.Omega.{arith}
use lib.Arith.{digits_lt}
use lib.ListN.{length}
use Rattle.layout.specs.Lent.{Fit, place_of}
use Rattle.layout.specs.declared.Shape.{Shape}
use Rattle.syndromes.specs.Rows.{wide}

module _ (h : List ℕ) (sh : Shape) (fit : Fit h sh) where
  pub row_room : (r : ℕ) → r < sh.rows → (r + 1) * sh.words ≤ 16
  row_room r l = omega (arith, fit.room, mul-le-mul_right {m = r + 1} {n = sh.rows} sh.words (omega arith))

  -- both places of a block are in the table, which is small
  pub place_room : (r b : ℕ) → r < sh.rows → b < sh.blocks → (place_of sh r b + 1 < length h) × (length h ≤ 128)
  place_room r b hr hb = (omega (arith, fit.flat, digits_lt hr hb), omega (arith, fit.flat, mul-le-mul fit.rows fit.blocks))

  pub wide_some : 0 < wide sh
  wide_some = omega (arith, fit.some, fit.held)

  -- a block ends within the word
  pub block_room : (b : ℕ) → b < sh.blocks → b * sh.size + sh.size ≤ 8176
  block_room b l = omega (arith, fit.bits, mul-le-mul_right {m = b + 1} {n = sh.blocks} sh.size (omega arith))
