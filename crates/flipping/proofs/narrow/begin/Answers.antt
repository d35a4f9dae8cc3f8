-- `narrow::begin`: after r passes the first r rows stand there. Assumes nothing.
use Prim.Native.Nat.{◌+◌, ◌*◌}
use native.Mathlib.Omega.{arith}
use borrow.Author.Rules.{rules}
use lib.ListN.{length-set}
use Rattle.rules.specs.Checks.{check}
use Rattle.vectors.specs.Vectors.{Holds}
use Rattle.flipping.specs.narrow.Weighing.{around}
use Rattle.flipping.proofs.narrow.Blocks.{laid_row, set_rows}
use Rattle.flipping.proofs.narrow.begin.Goals as goal

pub loop-r-init : goal.loop-r-init
loop-r-init c = (omega arith, search rules, λ k x e q l. absurd (omega arith))

pub repeated-requires : goal.repeated-requires
repeated-requires c =
    (c.requires.0, c.requires.1)

pub bounds-rows-r : goal.bounds-rows-r
bounds-rows-r c = omega (arith, c.loop-r.invariant.1)

pub loop-r-preserved : goal.loop-r-preserved
loop-r-preserved c =
    let a = c.args in
    let l = c.loop-r in (
      omega arith,
      omega (arith, length-set l.rows l.r c.repeated.result, l.invariant.1),
      λ k x e. set_rows l.rows (λ q v. Holds v (around a.sh.size (λ i. check k x (q * a.sh.size + i)))) l.r
          c.repeated.result (omega (arith, l.invariant.1))
          (c.repeated.ensures (λ i. check k x (l.r * a.sh.size + i))
          (laid_row k a.sh x c.requires.2 c.requires.1 a.z.now e l.r (omega (arith, c.requires.3))))
          (l.invariant.2 k x e),
    )

pub returns : goal.returns
returns c k x e r l = c.loop-r.invariant.2 k x e r (omega arith)
