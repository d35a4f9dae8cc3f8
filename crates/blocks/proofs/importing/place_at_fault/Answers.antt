-- `importing::place_at_fault`: the place alone of what is found. Assumes nothing.
use mathlib.Core.Path.{sym, ap, ◌∙◌}
use borrow.Author.Tests.{ne_eqb}
use Rattle.refusals.proofs.Numbers.{some}
use Rattle.refusals.specs.Numbers.{number_of}
use Rattle.blocks.specs.importing.Answers.{place_of}
use Rattle.blocks.proofs.importing.Faults.{somewhere}
use Rattle.blocks.proofs.importing.place_at_fault.Goals as goal

pub returns-in-Ok : goal.returns-in-Ok
returns-in-Ok c = ap place_of c.in-Ok.ensures

pub returns-in-Err : goal.returns-in-Err
returns-in-Err c =
    let f = c.in-Err.faulty in
    let n = number_of f.refusal in
    sym (somewhere (record { number = n; block = f.block }) (ne_eqb n 0 (some f.refusal))) ∙ ap place_of c.in-Err.ensures
