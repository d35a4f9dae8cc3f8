-- `sizing::counted`: one more where the bit was as read, else one less. Assumes nothing.
use mathlib.Core.Path.{◌≡◌, sym, ap₂, ◌∙◌}
use mathlib.Core.Bool.{beq}
use native.Mathlib.Omega.{arith}
use Rattle.bits.specs.Bits.{tally, ◌⊕◌}
use Rattle.vectors.specs.Vectors.{wbit}
use Rattle.magnitudes.specs.Patterns.{read}
use Rattle.samples.proofs.sizing.Unlikes.{alike, apart}
use Rattle.samples.proofs.sizing.counted.Goals as goal

pub returns-then-is_one-is_set : goal.returns-then-is_one-is_set
unfolding read
returns-then-is_one-is_set c =
    let a = c.args in
    let x = read a.samples.now a.bit in
    let same : tally (x ⊕ wbit a.y.now a.bit) ≡ 0 = alike x (wbit a.y.now a.bit)
    (sym (ap₂ beq c.is_one.ensures c.is_set.ensures) ∙ c.if-is_one-is_set.true) in
    (omega arith, λ h. omega arith)

pub returns : goal.returns
unfolding read
returns c =
    let a = c.args in
    let x = read a.samples.now a.bit in
    let other : tally (x ⊕ wbit a.y.now a.bit) ≡ 1 = apart x (wbit a.y.now a.bit)
    (sym (ap₂ beq c.is_one.ensures c.is_set.ensures) ∙ c.if-is_one-is_set.false) in
    (omega (arith, c.saturating_sub.ensures), λ h. omega (arith, c.saturating_sub.ensures))
