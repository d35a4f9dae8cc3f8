-- `unitreader::begin`: the number that a reading is made with, and the unit where that is 0. Assumes nothing.
use mathlib.Core.Path.{sym, ap, ◌∙◌}
use mathlib.Core.List.{[]}
use borrow.Author.Tests.{eq-eqb, ne_eqb}
use Rattle.bits.specs.Bits.{when◌then◌else◌}
use Rattle.units.specs.unitrules.Units.{reader_number_of}
use Rattle.units.proofs.unitreader.begin.Goals as goal

pub returns-then-kept-ne0 : goal.returns-then-kept-ne0
returns-then-kept-ne0 c =
    let n = c.args.code in
    let u = c.args.unit.now in
    let e = ap (λ x. x.kept.number) c.reader-state.ensures in
    (e, sym (ap (λ b. when b then u else []) (ne_eqb (reader_number_of n u) 0 (λ z. c.if-kept-ne0.true (e ∙ z)))))

pub returns : goal.returns
returns c =
    let n = c.args.code in
    let u = c.args.unit.now in
    let e = ap (λ x. x.kept.number) c.reader-state.ensures in
    (e, sym (ap (λ b. when b then u else []) (eq-eqb (reader_number_of n u) 0 (sym e ∙ c.if-kept-ne0.false))))
