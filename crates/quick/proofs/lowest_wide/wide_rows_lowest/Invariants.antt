-- `quickwide::wide_rows_lowest`: no check of the rows so far is broken. Assumes nothing.
use mathlib.Core.Path.{◌≡◌}
use mathlib.Core.Bool.{false}
use Prim.Native.Nat.{ℕ, ◌*◌, ◌≤◌, ◌<◌}
use Rattle.bits.specs.Bits.{Word}
use Rattle.rules.specs.Codes.{Code}
use Rattle.rules.specs.Checks.{check}
use Rattle.layout.specs.Lent.{Lent}
use Rattle.quick.specs.groups.Groups.{Twofold}
use Rattle.quick.proofs.lowest_wide.wide_rows_lowest.Given as goal

abbrev pub invariant-loop-row : goal.invariant-loop-row
invariant-loop-row l =
    let sh = l.parity.shape in
    (l.row ≤ sh.rows)
    × ((c : Code) (x : Word) → Lent c l.parity.places.now sh → Twofold sh.blocks sh.size x l.d → (j : ℕ) → j < l.row * sh.size
    → check c x j ≡ false)
