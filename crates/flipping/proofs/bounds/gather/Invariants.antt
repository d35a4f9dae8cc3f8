-- `bounds::gather` meets its contract: after r passes the starts are those of the first r rows. Assumes nothing.
use mathlib.Core.Path.{◌≡◌}
use Prim.Native.Nat.{ℕ, ◌+◌, ◌-◌, ◌*◌, ◌≤◌, ◌<◌}
use lib.ListN.{length, get_or}
use Rattle.flipping.specs.bounds.Reading.{Listed, asked}
use Rattle.flipping.proofs.bounds.gather.Given as goal

abbrev pub invariant-loop-row : goal.invariant-loop-row
invariant-loop-row l =
    (l.row ≤ l.parity.shape.rows) × (8 * l.b ≤ l.n) × (l.n ≤ 8 * l.b + 2 * l.row) × (length l.starts ≡ 128)
    × Listed l.starts (8 * l.b) (l.n - 8 * l.b) (3072 + l.parity.shape.size) (asked l.parity.places.now l.parity.shape l.b l.row)
    × ((e : ℕ) → e < 8 * l.b → get_or l.starts e 0 ≡ get_or l.initial.starts e 0)
