-- `importing::imported_octets`: the room, case by case. Assumes nothing.
use mathlib.Core.Path.{sym, ◌∙◌}
use borrow.Author.Tests.{eq-eqb}
use Rattle.blocks.proofs.Answering.{room_done}
use Rattle.blocks.specs.importing.Answers.{found_in}
use Rattle.blocks.proofs.importing.Faults.{found_none, found_blocks, room_found, place_none, place_some}
use Rattle.blocks.proofs.importing.imported_octets.Goals as goal

pub room-requires : goal.room-requires
room-requires c = found_blocks c.args.blocks.now (place_none (found_in c.args.blocks.now) c.in-None.ensures)

pub returns-in-None : goal.returns-in-None
returns-in-None c =
    let o = c.args.blocks.now in
    let f = found_none o (place_none (found_in o) c.in-None.ensures) in
    c.room.ensures ∙ sym (room_done o f.0 (eq-eqb _ 0 f.1))

pub returns-in-Some : goal.returns-in-Some
returns-in-Some c =
    let o = c.args.blocks.now in
    sym (room_found o (place_some (found_in o) _ c.in-Some.ensures).0)
