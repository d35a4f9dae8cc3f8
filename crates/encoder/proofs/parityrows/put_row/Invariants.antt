-- `parityrows::put_row` meets its contract: after j passes the first j words of the row are added. Assumes nothing.
use mathlib.Core.Path.{◌≡◌}
use Prim.Native.Nat.{◌+◌, ◌*◌, ◌≤◌}
use Rattle.vectors.specs.Vectors.{wbit, from, added}
use Rattle.syndromes.specs.Rows.{wide}
use Rattle.encoder.proofs.parityrows.put_row.Given as goal

abbrev pub invariant-loop-j : goal.invariant-loop-j
invariant-loop-j l =
    (l.j ≤ l.sh.words) × (wbit l.y ≡ added (wbit l.initial.y) l.p (l.p + 64 * l.j) (from (wide l.sh * l.r) (wbit l.z)))
