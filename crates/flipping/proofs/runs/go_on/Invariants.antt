-- `runs::go_on`: the loop has come to the run's word after so many flips, for every code that what is kept stands for. Assumes nothing.
use mathlib.Core.Path.{◌≡◌}
use Prim.Native.Nat.{◌-◌, ◌≤◌, ◌<◌}
use Rattle.rules.specs.Codes.{Code}
use Rattle.rules.specs.Checks.{broken}
use Rattle.vectors.specs.Vectors.{wbit}
use Rattle.layout.specs.declared.Shape.{Shape}
use Rattle.layout.specs.Lent.{laid}
use Rattle.magnitudes.specs.Patterns.{smaller}
use Rattle.magnitudes.specs.Sizes.{by_size}
use Rattle.flipping.specs.runs.Passes.{Going}
use Rattle.flipping.proofs.runs.go_on.Given as goal

abbrev pub invariant-loop-left : goal.invariant-loop-left
invariant-loop-left g l =
    let K = g.K.Keeper in
    let x = wbit l.initial.y in
    (l.flips ≤ l.limit) × (l.limit < 65536) × (K.sizes l.kept ≡ K.sizes l.initial.kept)
    × ((c : Code) → K.stands l.initial.kept c x → l.first ≡ broken c x
    → K.stands l.kept c (wbit l.y) × (l.left ≡ broken c (wbit l.y)))
    × ((c : Code) (sh : Shape) → K.stands l.initial.kept c x → l.first ≡ broken c x
    → Going (by_size (smaller (K.sizes l.initial.kept)) c) c sh l.limit x l.flips (wbit l.y) (laid c sh (wbit l.y)))

abbrev pub decreases-loop-left : goal.decreases-loop-left
decreases-loop-left g l = l.limit - l.flips
