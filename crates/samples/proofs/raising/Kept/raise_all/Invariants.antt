-- `Kept::raise_all`: one block more at each pass. Assumes nothing.
use mathlib.Core.Path.{◌≡◌}
use mathlib.Core.Bool.{Bool}
use Prim.Native.Nat.{ℕ}
use Rattle.vectors.specs.Vectors.{wbit}
use Rattle.samples.specs.raising.Knowing.{KnowsIn, covers}
use Rattle.samples.proofs.raising.Seeing.{up_to}
use Rattle.samples.proofs.raising.Kept.raise_all.Given as goal

abbrev pub invariant-loop-b : goal.invariant-loop-b
invariant-loop-b l =
    let s = l.initial.self in
    let q = s.bounds.places in
    (l.self.bounds.places ≡ q)
    × ((seen : ℕ → ℕ → Bool) → KnowsIn l.samples q (wbit l.rows) seen s.bounds.met s.bits
    → KnowsIn l.samples q (wbit l.rows) (up_to seen (covers q l.p) l.b) l.self.bounds.met l.self.bits)
