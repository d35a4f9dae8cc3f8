-- `Bounds::first_at` meets its contract: no bound of the first b blocks is as great any more. Assumes nothing.
use mathlib.Core.Path.{◌≡◌}
use Prim.Native.Nat.{ℕ, ◌≤◌, ◌<◌}
use Rattle.vectors.specs.Vectors.{wbit}
use Rattle.flipping.specs.bounds.Keeping.{bound}
use Rattle.flipping.specs.choice.Searching.{Lowers}
use Rattle.flipping.proofs.bounds.Bounds.first_at.Given as goal

abbrev pub invariant-loop-b : goal.invariant-loop-b
invariant-loop-b l =
    let p = l.initial.self.places in
    (l.self.places ≡ p) × Lowers p l.from (wbit l.rows) l.initial.self.met l.self.met
    × ((j : ℕ) → j < p.shape.blocks → bound p.counts l.self.met j ≤ l.top)
    × ((j : ℕ) → j < l.b → bound p.counts l.self.met j < l.top)
