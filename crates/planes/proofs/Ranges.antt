-- The greatest value of a range, and a count in three planes.
-- Assumes nothing.
use mathlib.Core.Path.{◌≡◌, subst}
use Prim.Native.Nat.{ℕ, ◌≤◌}
use native.Mathlib.Omega.{arith}
use Rattle.bits.specs.Bits.{digit}
use Rattle.bits.proofs.Counting.{tally_le}
use Rattle.planes.specs.declared.Planes.{Planes}
use Rattle.planes.specs.Counts.{value}
use Rattle.planes.specs.Ranges.{Top}

-- The same range by other numbers.
pub top_ends : {g : ℕ → ℕ} {from to from' to' bit score : ℕ} → from ≡ from' → to ≡ to' → Top g from to bit score → Top g from' to' bit score
top_ends {g} {from} {to} {from'} {to'} {bit} {score} p q t =
    subst (λ (n : ℕ). Top g from' n bit score) q (subst (λ (n : ℕ). Top g n to bit score) p t)

-- A count in three planes is at most 7.
pub value_le : (p : Planes) (i : ℕ) → value p i ≤ 7
unfolding value
value_le p i = omega (arith, tally_le (digit 64 p.one i), tally_le (digit 64 p.two i), tally_le (digit 64 p.four i))
