-- `importing::fault_at`: the block at the place has the fault that is found. Assumes nothing.
use mathlib.Core.Path.{◌≡◌, sym, ap, ◌∙◌}
use mathlib.Core.Bool.{Bool, true, not}
use mathlib.Core.List.{List}
use Prim.Native.Nat.{ℕ, ◌*◌, ◌/◌, ◌<◌}
use native.Mathlib.Omega.{arith}
use lib.ListN.{length}
use borrow.Author.Tests.{not-true, not-false}
use Rattle.std.specs.Prelude.{Some}
use Rattle.blocks.specs.Blocks.{Fault, whole_blocks}
use Rattle.blocks.specs.importing.Answers.{found_in, place_of}
use Rattle.blocks.proofs.Answering.{whole_is}
use Rattle.blocks.proofs.Reading.{fault_found}
use Rattle.blocks.proofs.importing.Faults.{found_whole, found_at, place_some}
use Rattle.blocks.proofs.importing.fault_at.Goals as goal

-- the test has shown whole blocks
whole : (o : List ℕ) (w : Bool) → w ≡ whole_blocks (length o) → not w ≡ not true → whole_blocks (length o) ≡ true
whole o w e n = sym e ∙ not-false w n

-- the place lies inside the blocks
inside : (o : List ℕ) (k : ℕ) → whole_blocks (length o) ≡ true → Some k ≡ place_of (found_in o)
    → (k < length o / 512) × (length o ≡ 512 * (length o / 512))
inside o k w e = ((found_at o k w e).0, (whole_is (length o) w).0)

pub returns-then-not-is_whole : goal.returns-then-not-is_whole
returns-then-not-is_whole c =
    let w = c.is_whole in
    sym (found_whole c.args.blocks.now (sym w.ensures ∙ not-true w.result (ap not c.if-not-is_whole.true)))

pub slice_bounds-fault-end : goal.slice_bounds-fault-end
slice_bounds-fault-end c =
    let o = c.args.blocks.now in
    let w = whole o c.is_whole.result c.is_whole.ensures (ap not c.if-not-is_whole.false) in
    let i = inside o c.args.block w c.requires in
    omega (arith, i.0, i.1)

pub returns-in-Ok : goal.returns-in-Ok
returns-in-Ok c =
    let o = c.args.blocks.now in
    let k = c.args.block in
    let w = whole o c.is_whole.result c.is_whole.ensures (ap not c.if-not-is_whole.false) in
    let f = found_at o k w c.requires in
    absurd ((place_some (found_in o) k c.requires).0
    (ap (λ (r : Fault). r.number) f.1 ∙ sym (fault_found o (length o / 512) k 0 f.0 c.in-Ok.ensures)))

pub returns-in-Err : goal.returns-in-Err
returns-in-Err c =
    let o = c.args.blocks.now in
    let k = c.args.block in
    let w = whole o c.is_whole.result c.is_whole.ensures (ap not c.if-not-is_whole.false) in
    let f = found_at o k w c.requires in
    ap (λ (z : ℕ). record { number = z; block = k }) (fault_found o (length o / 512) k _ f.0 c.in-Err.ensures) ∙ sym f.1
