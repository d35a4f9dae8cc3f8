-- `Kept::choose`: where nothing is found, the greatest bound has gone down. Assumes nothing.
use mathlib.Core.Path.{◌≡◌}
use Rattle.vectors.specs.Vectors.{wbit}
use Rattle.flipping.specs.choice.Searching.{highest}
use Rattle.samples.specs.raising.Knowing.{KnowsIn, whole}
use Rattle.samples.proofs.raising.Kept.choose.Given as goal

abbrev pub invariant-loop-top : goal.invariant-loop-top
invariant-loop-top l =
    let s = l.initial.self in
    let q = s.bounds.places in
    (l.self.bounds.places ≡ q) × (KnowsIn l.samples q (wbit l.rows) whole s.bounds.met s.bits
    → KnowsIn l.samples q (wbit l.rows) whole l.self.bounds.met l.self.bits)

abbrev pub decreases-loop-top : goal.decreases-loop-top
decreases-loop-top l = highest l.self.bounds.places.counts l.self.bounds.met l.self.bounds.places.shape.blocks
