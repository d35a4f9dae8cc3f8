-- `bounds::many_broken` meets its contract: after e passes, the counts and what they carried over. Assumes nothing.
use mathlib.Core.Path.{◌≡◌}
use Prim.Native.Nat.{ℕ, ◌+◌, ◌-◌, ◌*◌, ◌≤◌, ◌<◌}
use Rattle.bits.specs.Bits.{digit, tally}
use Rattle.vectors.specs.Vectors.{wbit}
use Rattle.planes.specs.Counts.{value}
use Rattle.flipping.specs.bounds.Reading.{hits}
use Rattle.flipping.proofs.bounds.many_broken.Given as goal

abbrev pub invariant-loop-e : goal.invariant-loop-e
invariant-loop-e l =
    (l.e ≤ l.n)
    × ((i : ℕ) → i < 64
    → value l.counts i + 8 * tally (digit 64 l.over i) ≡ 8 - l.need + hits (wbit l.d) l.starts l.first l.e (l.at + i))
