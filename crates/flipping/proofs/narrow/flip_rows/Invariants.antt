-- `narrow::flip_rows`: after r passes the checks of the first r rows are flipped. Assumes nothing.
use mathlib.Core.Path.{◌≡◌}
use Prim.Native.Nat.{ℕ, ◌+◌, ◌-◌, ◌%◌, ◌≤◌, ◌<◌}
use lib.Dec.{eqb}
use lib.ListN.{length, get_or}
use Rattle.bits.specs.Bits.{Word, ◌⊕◌, over}
use Rattle.vectors.specs.Vectors.{Holds}
use Rattle.layout.specs.Lent.{shifts_of}
use Rattle.flipping.proofs.narrow.flip_rows.Given as goal

abbrev pub invariant-loop-r : goal.invariant-loop-r
invariant-loop-r l =
    (l.r ≤ 4) × (length l.rows ≡ 4) × ((q : ℕ) → l.r ≤ q → get_or l.rows q 0 ≡ get_or l.initial.rows q 0)
    × ((q : ℕ) → q < l.r → (f : Word) → Holds (get_or l.initial.rows q 0) f
    → Holds (get_or l.rows q 0)
    (λ i. f i ⊕ over (shifts_of l.parity.shape l.parity.places.now q l.b)
    (λ s. eqb (i % l.parity.shape.size) ((l.k + (l.parity.shape.size - s)) % l.parity.shape.size))))
