-- `quicknarrow::narrow_group`: after b passes the first b blocks were added. Assumes nothing.
use mathlib.Core.Path.{◌≡◌, ap, ap₂, ◌∙◌}
use Prim.Native.Nat.{ℕ, ◌*◌}
use native.Mathlib.Omega.{arith}
use Rattle.bits.specs.Bits.{◌⊕◌}
use Rattle.vectors.specs.Vectors.{wbit}
use Rattle.vectors.proofs.Places.{digit_xor}
use Rattle.quick.specs.groups.Groups.{group}
use Rattle.quick.proofs.groups.Groups.{group_none, group_block}
use Rattle.quick.proofs.lowest_narrow.narrow_group.Goals as goal

pub loop-b-init : goal.loop-b-init
loop-b-init c =
    let a = c.args in
    (omega arith, λ i hi. group_none a.parity.shape a.parity.places.now (wbit a.y.now) a.r i)

pub loop-b-preserved : goal.loop-b-preserved
loop-b-preserved c =
    let l = c.loop-b in
    let a = c.args in (
      omega arith,
      λ i hi.
          digit_xor 64 l.v c.narrow_block-v.result i
          ∙ ap₂ ◌⊕◌ (l.invariant.1 i hi) (c.narrow_block-v.ensures i hi)
          ∙ group_block a.parity.shape a.parity.places.now (wbit a.y.now) a.r l.b i,
    )

pub returns : goal.returns
returns c =
    let a = c.args in
    let l = c.loop-b in
    let e : l.b ≡ a.parity.shape.blocks = omega arith in
    λ i hi. l.invariant.1 i hi ∙ ap (λ (b : ℕ). group a.parity.shape a.parity.places.now (wbit a.y.now) a.r (2 * b) i) e
