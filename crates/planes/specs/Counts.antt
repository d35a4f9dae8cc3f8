-- 64 counts in three planes of bits.
use Rattle.std.specs.Prelude.{ℕ, ◌+◌, ◌*◌}
use Rattle.bits.specs.Bits.{digit, tally}
use Rattle.planes.specs.declared.Planes.{Planes}

-- Count i is written with bit i of each plane.
unfoldable pub value : Planes → ℕ → ℕ
value p i = tally (digit 64 p.one i) + 2 * tally (digit 64 p.two i) + 4 * tally (digit 64 p.four i)
