-- `Places::gather` meets its contract: after b passes the starts of the first b blocks are there. Assumes nothing.
use mathlib.Core.Path.{◌≡◌}
use lib.ListN.{length}
use Rattle.flipping.specs.bounds.Reading.{Gathered}
use Rattle.flipping.proofs.bounds.Places.gather.Given as goal

abbrev pub invariant-loop-b : goal.invariant-loop-b
invariant-loop-b l = (l.self.shape ≡ l.parity.shape) × (length l.self.starts ≡ 128) × (length l.self.counts ≡ 16)
    × Gathered l.parity.places.now l.parity.shape l.self.starts l.self.counts l.b
