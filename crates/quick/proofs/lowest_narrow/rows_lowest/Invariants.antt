-- `quicknarrow::rows_lowest`: no check of the rows so far is broken. Assumes nothing.
use mathlib.Core.Path.{◌≡◌}
use mathlib.Core.Bool.{false}
use Prim.Native.Nat.{ℕ, ◌*◌, ◌≤◌, ◌<◌}
use Rattle.rules.specs.Codes.{Code}
use Rattle.rules.specs.Checks.{check}
use Rattle.layout.specs.Lent.{Lent}
use Rattle.vectors.specs.Vectors.{wbit}
use Rattle.quick.proofs.lowest_narrow.rows_lowest.Given as goal

abbrev pub invariant-loop-r : goal.invariant-loop-r
invariant-loop-r l =
    let sh = l.parity.shape in
    (l.r ≤ sh.rows) × ((c : Code) → Lent c l.parity.places.now sh → (j : ℕ) → j < l.r * sh.size → check c (wbit l.y) j ≡ false)
