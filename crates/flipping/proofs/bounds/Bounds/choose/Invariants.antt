-- `Bounds::choose` meets its contract: where nothing is found, the greatest bound has gone down. Assumes nothing.
use mathlib.Core.Path.{◌≡◌}
use Rattle.vectors.specs.Vectors.{wbit}
use Rattle.flipping.specs.choice.Searching.{highest, Lowers}
use Rattle.flipping.proofs.bounds.Bounds.choose.Given as goal

abbrev pub invariant-loop-from : goal.invariant-loop-from
invariant-loop-from l =
    (l.self.places ≡ l.initial.self.places)
    × Lowers l.initial.self.places l.from (wbit l.rows) l.initial.self.met l.self.met

abbrev pub decreases-loop-from : goal.decreases-loop-from
decreases-loop-from l = highest l.self.places.counts l.self.met l.self.places.shape.blocks
