-- `ties::Tables::block_tied` meets its contract: the differences passed cancel, so the whole is what is left.
use mathlib.Core.Path.{refl, sym, ◌∙◌}
use Prim.Native.Nat.{◌-◌}
use native.Mathlib.Omega.{arith}
use Rattle.bits.specs.Bits.{below}
use Rattle.identity.proofs.ties.Listed.{stops, goes_on, below_step, below_none}
use Rattle.identity.proofs.ties.Tables.block_tied.Goals as goal
use Rattle.identity.proofs.ties.Tables.block_tied.Invariants.{at-difference}
use mathlib.Core.Path.{ap}
use mathlib.Core.Bool.{not}

pub loop-d-init : goal.loop-d-init
loop-d-init c = (omega arith, refl)

pub cancels_at-requires : goal.cancels_at-requires
cancels_at-requires c = (omega arith, omega arith, omega arith, omega arith)

pub returns-then-not-cancels_at : goal.returns-then-not-cancels_at
returns-then-not-cancels_at c =
    let a = c.args.self in
    let parts = a.sizes.parity_blocks in
    let l = c.loop-d in
    let f = at-difference a.sizes.m parts a.parity.now c.args.information c.args.first a.generator.now c.args.at in
    stops (below (l.d - 1) f) l.invariant.1 (below_step l.d f (omega arith)) c.cancels_at.ensures (ap not c.if-not-cancels_at.true)

pub loop-d-preserved : goal.loop-d-preserved
loop-d-preserved c =
    let a = c.args.self in
    let parts = a.sizes.parity_blocks in
    let l = c.loop-d in
    let f = at-difference a.sizes.m parts a.parity.now c.args.information c.args.first a.generator.now c.args.at in (
      omega arith,
      goes_on (below (l.d - 1) f) l.invariant.1 (below_step l.d f (omega arith)) c.cancels_at.ensures
          (ap not c.if-not-cancels_at.false),
    )

pub returns : goal.returns
returns c =
    let a = c.args.self in
    let parts = a.sizes.parity_blocks in
    let l = c.loop-d in
    let f = at-difference a.sizes.m parts a.parity.now c.args.information c.args.first a.generator.now c.args.at in
    below_none l.d f (omega arith) ∙ sym l.invariant.1
