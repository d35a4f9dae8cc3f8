-- `ties::Tables::cancels_at` meets its contract: the two sums are those of the identity.
use mathlib.Core.Path.{sym, ap, ap₂, ◌∙◌}
use mathlib.Core.Bool.{Bool, not}
use Prim.Native.Nat.{◌<◌}
use native.Mathlib.Nat.{le_refl}
use native.Mathlib.Omega.{arith}
use Rattle.bits.specs.Bits.{◌⊕◌}
use Rattle.identity.specs.ties.Flat.{block, row, numbers}
use Rattle.identity.proofs.ties.Sums.{xor_is}
use Rattle.identity.proofs.ties.Printed.{printed_cancels}
use Rattle.identity.proofs.ties.Tables.cancels_at.Goals as goal

pub returns : goal.returns
returns c =
    let a = c.args.self in
    let m = a.sizes.m in
    let parts = a.sizes.parity_blocks in
    let pos : 0 < m = omega arith in
    ap not (xor_is c.block_own.result c.parity_meets.result
    ∙ ap₂ (λ (x y : Bool). x ⊕ y) c.block_own.ensures c.parity_meets.ensures)
    ∙ sym
    (printed_cancels m m pos (le_refl m) (block m a.parity.now c.args.information)
    (row m parts a.parity.now c.args.first) (numbers m parts a.generator.now c.args.at) c.args.d)
