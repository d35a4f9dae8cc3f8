-- `readings::read_block`: received, then corrected. Assumes nothing.
use mathlib.Core.Path.{sym, ap, ◌∙◌}
use native.Mathlib.Omega.{arith}
use lib.ListN.{length, replicate}
use lib.Seq.{length-take-le}
use Rattle.rules.specs.Codes.{code}
use Rattle.answers.specs.Calls.{correct_answer}
use Rattle.units.specs.readings.Handing.{handed_part}
use Rattle.units.proofs.readings.Answering.{got_room, got_word, got_word_length}
use Rattle.units.proofs.readings.read_block.Goals as goal

pub slice_bounds-receive-end : goal.slice_bounds-receive-end
slice_bounds-receive-end c =
    sym (length-take-le c.word_octets-size.result c.word_buffer-word.result
    (omega (arith, ap length c.word_buffer-word.ensures, c.word_octets-size.ensures.2)))

pub receive-requires : goal.receive-requires
receive-requires c = (
  c.requires.0,
  length-take-le c.word_octets-size.result c.word_buffer-word.result
      (omega (arith, ap length c.word_buffer-word.ensures, c.word_octets-size.ensures.2))
      ∙ c.word_octets-size.ensures.0,
)

pub slice_bounds-word-end-2 : goal.slice_bounds-word-end-2
slice_bounds-word-end-2 c =
    got_room c.args.code.number c.args.unit.now c.receive.new.word c.word_buffer-word.result c.args.k
    c.word_octets-size.result c.args.code.offered
    c.requires.0 c.word_octets-size.ensures.0 c.receive.ensures

pub slice_bounds-correct_part-end : goal.slice_bounds-correct_part-end
slice_bounds-correct_part-end c =
    sym (got_word_length c.args.code.number c.args.unit.now c.receive.new.word c.word_buffer-word.result c.args.k
    c.word_octets-size.result c.args.code.offered
    c.requires.0 c.word_octets-size.ensures.0 c.receive.ensures)

pub correct_part-requires : goal.correct_part-requires
correct_part-requires c = (
  got_word_length c.args.code.number c.args.unit.now c.receive.new.word c.word_buffer-word.result c.args.k
      c.word_octets-size.result c.args.code.offered
      c.requires.0 c.word_octets-size.ensures.0 c.receive.ensures
      ∙ c.word_octets-size.ensures.0,
  c.requires.1,
)

pub returns : goal.returns
returns c =
    c.correct_part.ensures
    ∙ ap (λ w. handed_part c.args.code.number
    (correct_answer c.args.code.number w c.args.limit (replicate (code c.args.code.number).octets_of_word 0)) c.args.out.now)
    (got_word c.args.code.number c.args.unit.now c.receive.new.word c.word_buffer-word.result c.args.k
    c.word_octets-size.result c.args.code.offered
    c.requires.0 c.word_octets-size.ensures.0 c.receive.ensures)
