-- `readings::is_shaped`: one or more whole codeblocks, and the tail. Assumes nothing.
use mathlib.Core.Path.{sym, ◌∙◌}
use Rattle.units.proofs.readings.Compared.{shaped_few, shaped_rest, shaped_tail}
use Rattle.units.proofs.readings.is_shaped.Goals as goal

pub returns-then-rest-word : goal.returns-then-rest-word
returns-then-rest-word c = sym
    (shaped_few c.args.code.number c.args.unit.now c.args.code.offered c.between-rest.result c.word_octets-word.result
    c.between-rest.ensures c.word_octets-word.ensures.0 c.if-rest-word.true)

pub returns-then-rest-word-ne0 : goal.returns-then-rest-word-ne0
returns-then-rest-word-ne0 c = sym
    (shaped_rest c.args.code.number c.args.unit.now c.args.code.offered c.between-rest.result
    c.word_octets-word.result c.between-rest.ensures
    c.word_octets-word.ensures.0 c.if-rest-word-ne0.true)

pub returns : goal.returns
returns c = c.is_tail.ensures
    ∙ sym (shaped_tail c.args.code.number c.args.unit.now c.args.code.offered c.between-rest.result
    c.word_octets-word.result c.between-rest.ensures
    c.word_octets-word.ensures.0 c.if-rest-word.false
    c.if-rest-word-ne0.false)
