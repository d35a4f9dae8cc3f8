-- `bounds::double_rows` meets its contract: after r passes the first r rows stand twice over. Assumes nothing.
use Prim.Native.Nat.{◌≤◌}
use Rattle.vectors.specs.Vectors.{wbit}
use Rattle.flipping.specs.bounds.Reading.{Twice}
use Rattle.flipping.proofs.bounds.double_rows.Given as goal

abbrev pub invariant-loop-r : goal.invariant-loop-r
invariant-loop-r l =
    (l.r ≤ l.fn.sh.rows) × Twice l.fn.sh l.r (wbit l.z) (wbit l.d)
