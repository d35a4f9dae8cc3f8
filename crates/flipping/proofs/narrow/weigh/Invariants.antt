-- `narrow::weigh`: after r passes the checks of the first r rows are weighed. Assumes nothing.
use mathlib.Core.Path.{◌≡◌}
use Prim.Native.Nat.{◌*◌, ◌≤◌}
use lib.ListN.{length}
use Rattle.bits.specs.Bits.{Word}
use Rattle.rules.specs.Codes.{Code}
use Rattle.vectors.specs.Vectors.{Holds}
use Rattle.layout.specs.Lent.{total, shifts_of}
use Rattle.flipping.specs.narrow.Weighing.{Rows, Weighs, broke}
use Rattle.flipping.proofs.narrow.weigh.Given as goal

abbrev pub invariant-loop-r : goal.invariant-loop-r
invariant-loop-r l =
    (l.r ≤ 4) × (l.w.checks ≡ total l.r (λ q. length (shifts_of l.parity.shape l.parity.places.now q l.b))) × (l.w.checks ≤ 2 * l.r)
    × ((c : Code) (x counts : Word) → Rows c l.parity.shape x l.rows → Holds l.mask counts
    → Weighs counts (broke c l.parity.places.now l.parity.shape l.b x l.r) l.w)
