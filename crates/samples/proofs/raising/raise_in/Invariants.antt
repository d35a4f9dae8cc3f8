-- `raising::raise_in`: one start more at each pass. Assumes nothing.
use mathlib.Core.Bool.{Bool, ◌||◌}
use Prim.Native.Nat.{ℕ, ◌≤◌}
use Rattle.vectors.specs.Vectors.{wbit}
use Rattle.samples.specs.raising.Knowing.{Known, covered}
use Rattle.samples.proofs.raising.raise_in.Given as goal

abbrev pub invariant-loop-e : goal.invariant-loop-e
invariant-loop-e l =
    (l.e ≤ l.n) × (l.now.met ≤ l.n)
    × ((seen : ℕ → Bool) → Known l.samples (wbit l.d) l.starts l.from l.n l.m l.first seen l.initial.now.met l.initial.now.bit
    → Known l.samples (wbit l.d) l.starts l.from l.n l.m l.first (λ j. seen j || covered l.starts l.from l.m l.p l.e j) l.now.met l.now.bit)
