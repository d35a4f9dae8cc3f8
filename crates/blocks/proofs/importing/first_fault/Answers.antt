-- `importing::first_fault`: the blocks that are left have the first fault of all. Assumes nothing.
use mathlib.Core.Path.{refl, sym, ap, ◌∙◌}
use Prim.Native.Nat.{◌*◌, zero-le}
use native.Mathlib.Omega.{arith}
use lib.ListN.{drop}
use Rattle.blocks.specs.Blocks.{first_fault_of}
use Rattle.refusals.proofs.Numbers.{some}
use Rattle.blocks.proofs.Reading.{fault_here, fault_on, fault_end, range_long}
use Rattle.blocks.proofs.importing.first_fault.Goals as goal

pub loop-k-init : goal.loop-k-init
loop-k-init c = (zero-le, ap (λ z. first_fault_of z 0 c.args.blocks.now) (omega arith))

pub fault-requires : goal.fault-requires
fault-requires c =
    range_long c.args.n c.loop-k.k c.args.blocks.now c.requires.0 (omega arith)

pub returns-in-Err : goal.returns-in-Err
returns-in-Err c =
    let h = c.loop-k in
    let e = c.in-Err in
    sym (fault_here c.args.blocks.now c.args.n h.k _ (omega arith) e.ensures (some e.refusal)) ∙ h.invariant.1

pub loop-k-preserved : goal.loop-k-preserved
loop-k-preserved c =
    let h = c.loop-k in
    (omega arith, fault_on c.args.blocks.now c.args.n h.k _ (omega arith) c.in-Ok.ensures refl ∙ h.invariant.1)

pub returns : goal.returns
returns c =
    let h = c.loop-k in
    sym (fault_end (drop (512 * h.k) c.args.blocks.now) c.args.n h.k c.loop-k-test.false) ∙ h.invariant.1
