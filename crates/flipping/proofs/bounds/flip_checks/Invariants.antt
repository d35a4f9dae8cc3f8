-- `bounds::flip_checks` meets its contract: after e passes the checks of the first e starts are flipped. Assumes nothing.
use mathlib.Core.Path.{◌≡◌}
use Prim.Native.Nat.{ℕ, ◌+◌, ◌≤◌}
use lib.Dec.{eqb}
use lib.ListN.{length, get_or}
use Rattle.bits.specs.Bits.{sum, ◌⊕◌}
use Rattle.vectors.specs.Vectors.{wbit}
use Rattle.flipping.specs.bounds.Reading.{other}
use Rattle.flipping.proofs.bounds.flip_checks.Given as goal

abbrev pub invariant-loop-e : goal.invariant-loop-e
invariant-loop-e l =
    (l.e ≤ l.n) × (length l.d ≡ 65)
    × ((p : ℕ) → wbit l.d p ≡ wbit l.initial.d p ⊕ sum l.e
    (λ j. eqb p (get_or l.starts (l.first + j) 0 + l.k) ⊕ eqb p (other l.m (get_or l.starts (l.first + j) 0 + l.k))))
