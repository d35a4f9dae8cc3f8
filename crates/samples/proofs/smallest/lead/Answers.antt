-- `smallest::lead`: the smaller of both, or the one that is there. Assumes nothing.
use mathlib.Core.Path.{refl}
use mathlib.Core.Logic.{inr}
use native.Mathlib.Omega.{arith}
use lib.ListN.{length}
use Rattle.magnitudes.specs.Patterns.{smaller}
use Rattle.magnitudes.proofs.Patterns.{ordered}
use Rattle.samples.proofs.raising.Orders.{ahead_self, either_under}
use Rattle.samples.proofs.smallest.lead.Goals as goal

pub returns-then-best-samples : goal.returns-then-best-samples
returns-then-best-samples c =
    let a = c.args in
    let p = c.lesser.ensures in (
      p.0,
      either_under (length a.samples.now) c.lesser.result a.best a.bit p.0 c.if-best-samples.true c.requires,
      p.2,
      λ u. p.1,
    )

pub returns : goal.returns
returns c =
    let a = c.args in (
      inr refl,
      c.requires,
      ahead_self (smaller a.samples.now) (length a.samples.now) (ordered a.samples.now (length a.samples.now)) a.bit
          c.requires,
      λ u. absurd (omega (arith, c.if-best-samples.false)),
    )
