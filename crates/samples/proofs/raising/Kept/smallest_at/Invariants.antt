-- `Kept::smallest_at`: one block more at each pass. Assumes nothing.
use mathlib.Core.Path.{◌≡◌}
use Prim.Native.Nat.{ℕ, ◌*◌, ◌≤◌, ◌<◌}
use lib.ListN.{length}
use Rattle.vectors.specs.Vectors.{wbit}
use Rattle.flipping.specs.bounds.Keeping.{bound, Scored}
use Rattle.samples.specs.raising.Knowing.{KnowsIn, whole}
use Rattle.samples.specs.smallest.Settling.{Leads}
use Rattle.samples.proofs.raising.Kept.smallest_at.Given as goal

abbrev pub invariant-loop-b : goal.invariant-loop-b
invariant-loop-b l =
    let s = l.initial.self in
    let q = s.bounds.places in
    (l.self.bounds.places ≡ q) × ((j : ℕ) → j < q.shape.blocks → bound q.counts l.self.bounds.met j ≤ l.top)
    × (length l.samples ≤ l.best → (j : ℕ) → j < l.b → bound q.counts l.self.bounds.met j < l.top)
    × (KnowsIn l.samples q (wbit l.rows) whole s.bounds.met s.bits
    → KnowsIn l.samples q (wbit l.rows) whole l.self.bounds.met l.self.bits
    × ((g : ℕ → ℕ) → Scored g q.shape (wbit l.rows) q.starts q.counts → Leads l.samples g l.top (l.b * q.shape.size) l.best))
