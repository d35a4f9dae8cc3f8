-- `exporting::exported`: the answer, case by case. Assumes nothing.
use mathlib.Core.Path.{sym, ap, ◌∙◌}
use borrow.Author.Tests.{eq-eqb, ne_eqb, lt-ltb, le-ltb}
use Rattle.blocks.specs.exporting.Answers.{as_exported}
use Rattle.blocks.proofs.Answering.{export_many, export_room_lem, export_done}
use Rattle.blocks.proofs.exporting.exported.Goals as goal

pub returns-then-octets-gt64512 : goal.returns-then-octets-gt64512
returns-then-octets-gt64512 c =
    let a = c.args in
    sym (export_many a.octets.now a.out.now (lt-ltb _ _ c.if-octets-gt64512.true))

pub returns-then-out-n : goal.returns-then-out-n
returns-then-out-n c =
    let a = c.args in
    sym (export_room_lem a.octets.now a.out.now (le-ltb _ _ c.if-octets-gt64512.false) (ne_eqb _ _ c.if-out-n.true))

pub returns : goal.returns
returns c =
    let w = c.put_blocks in
    let a = c.args in
    ap (as_exported 0) w.ensures ∙ sym (export_done a.octets.now a.out.now (le-ltb _ _ c.if-octets-gt64512.false)
    (eq-eqb _ _ c.if-out-n.false))
