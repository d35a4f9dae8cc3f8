-- `magnitudes::smaller`: by the patterns without their signs. Assumes nothing.
use mathlib.Core.Path.{sym, ap, ap₂, ◌∙◌}
use lib.Dec.{ltb}
use borrow.Author.Tests.{lt-ltb, le-ltb}
use Rattle.bits.specs.Bits.{when◌then◌else◌}
use Rattle.magnitudes.specs.Patterns.{smaller}
use Rattle.magnitudes.proofs.smaller.Goals as goal

pub returns-then-unsigned : goal.returns-then-unsigned
unfolding smaller
returns-then-unsigned c =
    let a = c.args in
    sym (ap (λ b. when b then a.later else a.earlier)
    (sym (ap₂ ltb c.unsigned.ensures c.unsigned-2.ensures) ∙ lt-ltb _ _ c.if-unsigned.true))

pub returns : goal.returns
unfolding smaller
returns c =
    let a = c.args in
    sym (ap (λ b. when b then a.later else a.earlier)
    (sym (ap₂ ltb c.unsigned.ensures c.unsigned-2.ensures) ∙ le-ltb _ _ c.if-unsigned.false))
