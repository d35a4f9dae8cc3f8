-- `sizing::go_on`: the loop has come to the run's word after so many flips, for every code that is lent. Assumes nothing.
use mathlib.Core.Path.{◌≡◌}
use mathlib.Core.List.{List}
use Prim.Native.Nat.{ℕ, ◌-◌, ◌≤◌, ◌<◌}
use Rattle.rules.specs.Codes.{Code}
use Rattle.rules.specs.Checks.{broken}
use Rattle.vectors.specs.Vectors.{wbit}
use Rattle.layout.specs.Lent.{Fit, Lent}
use Rattle.flipping.specs.bounds.Keeping.{Laid}
use Rattle.samples.specs.sizing.Passing.{StandsIn, ComingIn}
use Rattle.samples.proofs.sizing.go_on.Given as goal

abbrev pub invariant-loop-left : goal.invariant-loop-left
invariant-loop-left l =
    let s = l.initial.kept in
    let q = s.bounds.places in
    (l.flips ≤ l.limit) × (l.limit < 65536) × (l.unlike ≤ l.flips) × (l.kept.bounds.places ≡ q)
    × ((c : Code) (h : List ℕ) → Lent c h q.shape → c.unsent ≡ 0 → Fit h q.shape → Laid h q → l.first ≡ broken c (wbit l.initial.y)
    → StandsIn c l.samples (wbit l.initial.y) q l.initial.rows s.bounds.met s.bits
    → ComingIn c l.samples l.limit (wbit l.initial.y) l.flips l.y q l.rows l.kept.bounds.met l.kept.bits l.left l.unlike)

abbrev pub decreases-loop-left : goal.decreases-loop-left
decreases-loop-left l = l.limit - l.flips
