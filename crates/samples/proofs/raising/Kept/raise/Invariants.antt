-- `Kept::raise`: one check more at each pass. Assumes nothing.
use mathlib.Core.Path.{◌≡◌}
use mathlib.Core.Bool.{Bool, ◌||◌}
use Prim.Native.Nat.{ℕ}
use Rattle.vectors.specs.Vectors.{wbit}
use Rattle.samples.specs.raising.Knowing.{KnowsIn, raises}
use Rattle.samples.proofs.raising.Kept.raise.Given as goal

abbrev pub invariant-loop-e : goal.invariant-loop-e
invariant-loop-e l =
    let s = l.initial.self in
    let q = s.bounds.places in
    (l.self.bounds.places ≡ q)
    × ((seen : ℕ → ℕ → Bool) → KnowsIn l.samples q (wbit l.rows) seen s.bounds.met s.bits
    → KnowsIn l.samples q (wbit l.rows) (λ j i. seen j i || raises q (wbit l.rows) l.b l.k l.e j i) l.self.bounds.met l.self.bits)
