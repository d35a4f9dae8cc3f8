-- `bounds::few_met` meets its contract: after e passes, those of which at most so many of the first e checks are met, and those of which
-- none is. Assumes nothing.
use mathlib.Core.Path.{◌≡◌}
use mathlib.Core.Bool.{◌&&◌}
use Prim.Native.Nat.{ℕ, ◌+◌, ◌%◌, ◌≤◌, ◌<◌}
use lib.Dec.{eqb, leb}
use Rattle.bits.specs.Bits.{digit}
use Rattle.vectors.specs.Vectors.{wbit}
use Rattle.flipping.specs.bounds.Reading.{hits}
use Rattle.flipping.proofs.bounds.few_met.Given as goal

abbrev pub invariant-loop-e : goal.invariant-loop-e
invariant-loop-e l =
    (l.e ≤ l.n)
    × ((i : ℕ) → i < 64 → digit 64 l.found i ≡ leb l.e (hits (wbit l.d) l.starts l.first l.e (l.at + i) + l.met))
    × ((i : ℕ) → i < 64 → digit 64 l.spare i ≡ (eqb (l.met % 2) 1 && leb l.e (hits (wbit l.d) l.starts l.first l.e (l.at + i))))
