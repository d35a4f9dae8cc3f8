-- `narrow::weigh_all`: after b passes the first b blocks are weighed. Assumes nothing.
use mathlib.Core.Path.{◌≡◌}
use lib.ListN.{length}
use Rattle.bits.specs.Bits.{Word}
use Rattle.rules.specs.Codes.{Code}
use Rattle.layout.specs.Lent.{Lent}
use Rattle.flipping.specs.narrow.Weighing.{Rows, Weighed, scores_of, masks_of}
use Rattle.flipping.proofs.narrow.weigh_all.Given as goal

abbrev pub invariant-loop-b : goal.invariant-loop-b
invariant-loop-b l =
    (length l.levels ≡ 16)
    × ((c : Code) (x : Word) → Lent c l.parity.places.now l.parity.shape → Rows c l.parity.shape x l.rows
    → Weighed c l.parity.shape l.from x (scores_of l.levels) (masks_of l.levels) l.b)
