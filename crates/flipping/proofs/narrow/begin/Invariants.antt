-- `narrow::begin`: after r passes the first r rows stand there. Assumes nothing.
use mathlib.Core.Path.{◌≡◌}
use Prim.Native.Nat.{ℕ, ◌+◌, ◌*◌, ◌≤◌, ◌<◌}
use lib.ListN.{length, get_or}
use Rattle.bits.specs.Bits.{Word}
use Rattle.rules.specs.Codes.{Code}
use Rattle.rules.specs.Checks.{check}
use Rattle.vectors.specs.Vectors.{wbit, Holds}
use Rattle.layout.specs.Lent.{laid}
use Rattle.flipping.specs.narrow.Weighing.{around}
use Rattle.flipping.proofs.narrow.begin.Given as goal

abbrev pub invariant-loop-r : goal.invariant-loop-r
invariant-loop-r l =
    (l.r ≤ 4) × (length l.rows ≡ 4)
    × ((c : Code) (x : Word) → wbit l.z ≡ laid c l.sh x → (q : ℕ) → q < l.r
    → Holds (get_or l.rows q 0) (around l.sh.size (λ i. check c x (q * l.sh.size + i))))
