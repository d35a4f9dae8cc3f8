-- `parityrows::put_rows` meets its contract: after a passes the first a parity blocks stand behind the first bits. Assumes nothing.
use mathlib.Core.Path.{◌≡◌}
use Prim.Native.Nat.{ℕ, ◌+◌, ◌-◌, ◌*◌, ◌≤◌}
use Rattle.bits.specs.Bits.{Word}
use Rattle.vectors.specs.Vectors.{wbit, up_to, joined}
use Rattle.encoder.specs.parityrows.Rows.{held, behind}
use Rattle.encoder.proofs.parityrows.put_rows.Given as goal

abbrev pub invariant-loop-a : goal.invariant-loop-a
invariant-loop-a l =
    (l.a ≤ l.sh.rows) × ((f : ℕ → Word) (x : Word) → wbit l.z ≡ held l.sh f → wbit l.initial.y ≡ up_to l.at x
    → wbit l.y ≡ up_to (l.at + l.a * l.sh.size) (joined l.at x (λ n. behind l.sh l.first f (n - l.at))))
