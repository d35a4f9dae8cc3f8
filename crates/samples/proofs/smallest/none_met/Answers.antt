-- `smallest::none_met`: the windows one after the other, until no bit is left. Assumes nothing.
use mathlib.Core.Path.{sym, ap, ap₂, ◌∙◌}
use mathlib.Core.Bool.{Bool, ◌&&◌}
use Prim.Native.Nat.{ℕ, ◌+◌}
use lib.Bits.{bit_and}
use Rattle.bits.proofs.Octets.{digit_zero}
use Rattle.vectors.specs.Vectors.{wbit}
use Rattle.vectors.proofs.Places.{digit_and}
use Rattle.samples.proofs.smallest.Masks.{no_digit}
use Rattle.samples.proofs.smallest.none_met.Goals as goal

pub returns-then-x-eq0 : goal.returns-then-x-eq0
returns-then-x-eq0 c i hi =
    let a = c.args in
    let at : ℕ → Bool = λ p. wbit a.d.now (p + i) in
    let w = c.window-x in
    digit_zero 64 i
    ∙ ap (λ t. ((t && at a.b) && at a.c) && at a.e) (sym (no_digit w.result i c.if-x-eq0.true) ∙ w.ensures i hi)

pub returns-then-y-eq0 : goal.returns-then-y-eq0
returns-then-y-eq0 c i hi =
    let a = c.args in
    let at : ℕ → Bool = λ p. wbit a.d.now (p + i) in
    let v = c.window-x in
    let w = c.window in
    digit_zero 64 i ∙ ap (λ t. (t && at a.c) && at a.e) (sym (no_digit (bit_and v.result w.result) i c.if-y-eq0.true)
    ∙ digit_and 64 v.result w.result i ∙ ap₂ ◌&&◌ (v.ensures i hi) (w.ensures i hi))

pub returns : goal.returns
returns c i hi =
    let v = c.window-x in
    let w = c.window in
    let x = c.window-2 in
    let y = c.window-3 in
    let two = bit_and v.result w.result in
    digit_and 64 (bit_and two x.result) y.result i
    ∙ ap₂ ◌&&◌ (digit_and 64 two x.result i
    ∙ ap₂ ◌&&◌ (digit_and 64 v.result w.result i ∙ ap₂ ◌&&◌ (v.ensures i hi) (w.ensures i hi)) (x.ensures i hi)) (y.ensures i hi)
