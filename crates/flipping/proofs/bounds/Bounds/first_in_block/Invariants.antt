-- `Bounds::first_in_block` meets its contract: no bit of the first k words is light. Assumes nothing.
use mathlib.Core.Path.{◌≡◌}
use Prim.Native.Nat.{ℕ, ◌*◌, ◌<◌}
use mathlib.Core.Bool.{false}
use Rattle.vectors.specs.Vectors.{wbit}
use Rattle.flipping.specs.bounds.Reading.{light}
use Rattle.flipping.proofs.bounds.Bounds.first_in_block.Given as goal

abbrev pub invariant-loop-k : goal.invariant-loop-k
invariant-loop-k l =
    (i : ℕ) → i < 64 * l.k → light (wbit l.rows) l.self.places.starts (8 * l.b) l.n l.met l.begin l.m i ≡ false
