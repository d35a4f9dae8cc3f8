-- `bch::divide` meets its contract: after j passes r has the first j coefficients of the remainder. Assumes nothing.
use mathlib.Core.Path.{◌≡◌}
use Prim.Native.Nat.{◌^◌, ◌<◌}
use Rattle.bits.specs.Bits.{digit, number}
use Rattle.bch.specs.Bch.{remainder}
use Rattle.bch.proofs.divide.Given as goal

abbrev pub invariant-loop-row : goal.invariant-loop-row
invariant-loop-row l = (l.r < 2 ^ 7) × (l.r ≡ number l.row-index (digit 7 (remainder 63 (digit 64 l.v))))
