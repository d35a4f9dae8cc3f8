-- `importing::found`: whole blocks, and then the first fault. Assumes nothing.
use mathlib.Core.Path.{sym, ◌∙◌}
use lib.ListN.{length}
use borrow.Author.Tests.{not-true, not-false}
use Rattle.blocks.proofs.Answering.{whole_is}
use Rattle.blocks.proofs.importing.Faults.{found_whole, found_first}
use Rattle.blocks.proofs.importing.found.Goals as goal
use mathlib.Core.Path.{ap}
use mathlib.Core.Bool.{not}

pub returns-then-not-is_whole : goal.returns-then-not-is_whole
returns-then-not-is_whole c =
    let w = c.is_whole in
    sym (found_whole c.args.blocks.now (sym w.ensures ∙ not-true w.result (ap not c.if-not-is_whole.true)))

pub first_fault-requires : goal.first_fault-requires
first_fault-requires c =
    let w = c.is_whole in
    let o = c.args.blocks.now in
    let i = whole_is (length o) (sym w.ensures ∙ not-false w.result (ap not c.if-not-is_whole.false)) in
    (i.0, i.1)

pub returns : goal.returns
returns c =
    let w = c.is_whole in
    let o = c.args.blocks.now in
    c.first_fault.ensures ∙ sym (found_first o (sym w.ensures ∙ not-false w.result (ap not c.if-not-is_whole.false)))
