-- `onedigit::in_block` meets its contract.
use mathlib.Core.Path.{ap, ap₂}
use mathlib.Core.Bool.{Bool, ◌||◌}
use Prim.Native.Nat.{ℕ}
use lib.Dec.{eqb}
use Rattle.onedigit.proofs.in_block.Goals as goal

pub returns : goal.returns
returns c =
    let s = c.args.s in
    ap₂ (λ (x y : Bool). x || y) (ap (λ (x : ℕ). eqb x s) c.from.ensures)
    (ap₂ (λ (x y : Bool). x || y) (ap (λ (x : ℕ). eqb x s) c.from-2.ensures)
    (ap (λ (x : ℕ). eqb x s) c.from-3.ensures))
