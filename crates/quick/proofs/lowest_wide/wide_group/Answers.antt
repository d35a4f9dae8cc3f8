-- `quickwide::wide_group`: after k passes the bits from the first k beginnings on were added. Assumes nothing.
use mathlib.Core.Path.{◌≡◌, ap, ap₂, ◌∙◌}
use Prim.Native.Nat.{ℕ, ◌+◌}
use native.Mathlib.Omega.{arith}
use lib.ListN.{length, get_or}
use Rattle.bits.specs.Bits.{sum, ◌⊕◌}
use Rattle.vectors.specs.Vectors.{wbit}
use Rattle.vectors.proofs.Places.{digit_xor}
use Rattle.quick.proofs.lowest_wide.Doubled.{behind_none, behind_more}
use Rattle.quick.proofs.lowest_wide.wide_group.Goals as goal

pub loop-begin-init : goal.loop-begin-init
loop-begin-init c =
    let a = c.args in
    λ i l. behind_none a.d.now a.begins.now i

pub window-v-requires : goal.window-v-requires
window-v-requires c =
    let k = c.loop-begin.begin-index in
    omega (arith, c.requires k (omega arith))

pub loop-begin-preserved : goal.loop-begin-preserved
loop-begin-preserved c =
    let a = c.args in
    let l = c.loop-begin in
    λ i hi.
    digit_xor 64 l.v c.window-v.result i
    ∙ ap₂ ◌⊕◌ (l.invariant i hi) (c.window-v.ensures i hi)
    ∙ behind_more a.d.now a.begins.now l.begin-index i

pub returns : goal.returns
returns c =
    let a = c.args in
    let l = c.loop-begin in
    let e : l.begin-index ≡ length a.begins.now = omega arith in
    λ i hi. l.invariant i hi ∙ ap (λ (n : ℕ). sum n (λ j. wbit a.d.now (get_or a.begins.now j 0 + i))) e
