-- `importing::take_blocks`: the answer, case by case. Assumes nothing.
use mathlib.Core.Path.{sym, ap, ◌∙◌}
use mathlib.Core.List.{List}
use Prim.Native.Nat.{ℕ}
use borrow.Author.Tests.{eq-eqb, ne_eqb}
use Rattle.blocks.specs.Blocks.{Fault}
use Rattle.blocks.proofs.Answering.{import_room_lem, import_done}
use Rattle.blocks.specs.importing.Answers.{found_in}
use Rattle.blocks.proofs.importing.Faults.{found_none, found_blocks, import_found, place_none, place_some}
use Rattle.blocks.proofs.importing.take_blocks.Goals as goal

pub returns-in-Some : goal.returns-in-Some
returns-in-Some c =
    let a = c.args in
    let o = a.blocks.now in
    ap (λ (r : Fault). record { number = r.number; block = r.block; out = a.out.now }) c.fault_at.ensures
    ∙ sym (import_found o a.out.now (place_some (found_in o) _ c.in-Some.ensures).0)

pub room-requires : goal.room-requires
room-requires c = found_blocks c.args.blocks.now (place_none (found_in c.args.blocks.now) c.in_default.ensures)

pub returns-then-out-room : goal.returns-then-out-room
returns-then-out-room c =
    let a = c.args in
    let f = found_none a.blocks.now (place_none (found_in a.blocks.now) c.in_default.ensures) in
    sym (import_room_lem a.blocks.now a.out.now f.0 (eq-eqb _ 0 f.1)
    (ne_eqb _ _ (λ q. c.if-out-room.true (q ∙ sym c.room.ensures))))

pub take_data-requires : goal.take_data-requires
take_data-requires c =
    let f = found_blocks c.args.blocks.now (place_none (found_in c.args.blocks.now) c.in_default.ensures) in
    (f.0, f.1, f.2, c.if-out-room.false ∙ c.room.ensures)

pub returns : goal.returns
returns c =
    let a = c.args in
    let f = found_none a.blocks.now (place_none (found_in a.blocks.now) c.in_default.ensures) in
    ap (λ (l : List ℕ). record { number = 0; block = 0; out = l }) c.take_data.ensures
    ∙ sym (import_done a.blocks.now a.out.now f.0 (eq-eqb _ 0 f.1) (eq-eqb _ _ (c.if-out-room.false ∙ c.room.ensures)))
