-- `bounds::flip_check` meets its contract, by the test's answer. Assumes nothing.
use mathlib.Core.Path.{sym, ap, ap₂, ◌∙◌}
use Prim.Native.Nat.{ℕ, ◌+◌, ◌-◌, ◌%◌}
use borrow.Author.Tests.{lt-ltb, le-ltb}
use Rattle.bits.specs.Bits.{Word, flipped, when◌then◌else◌}
use Rattle.flipping.proofs.bounds.flip_check.Goals as goal

pub returns-then-p-m : goal.returns-then-p-m
returns-then-p-m c =
    let a = c.args in
    c.flip_bit-then-p-m.ensures
    ∙ ap₂ (λ (x : Word) (q : ℕ). flipped x q) c.flip_bit.ensures
    (ap (λ b. when b then a.p + a.m else a.p - a.m) (sym (lt-ltb (a.p % 1024) a.m c.if-p-m.true)))

pub returns-else-p-m : goal.returns-else-p-m
returns-else-p-m c =
    let a = c.args in
    c.flip_bit-else-p-m.ensures
    ∙ ap₂ (λ (x : Word) (q : ℕ). flipped x q) c.flip_bit.ensures
    (ap (λ b. when b then a.p + a.m else a.p - a.m) (sym (le-ltb (a.p % 1024) a.m c.if-p-m.false)))
