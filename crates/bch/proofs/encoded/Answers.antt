-- `bch::encoded`: refusals in the order of their numbers, then the information with its parity. Assumes nothing.
use mathlib.Core.Path.{sym, ap, ◌∙◌}
use Rattle.bits.specs.Bits.{bit}
use Rattle.bch.specs.Bch.{encoded}
use Rattle.bch.proofs.Words.{encoded_word}
use Rattle.bch.proofs.Judging.{encode_two, encode_three, encode_done, written_encoded}
use Rattle.bch.proofs.encoded.Goals as goal

pub returns-then-information-ne7 : goal.returns-then-information-ne7
returns-then-information-ne7 c =
    sym (encode_two c.args.information.now c.args.word.now (λ q. c.if-information-ne7.true q))

pub returns-then-word-ne8 : goal.returns-then-word-ne8
returns-then-word-ne8 c =
    sym (encode_three c.args.information.now c.args.word.now c.if-information-ne7.false (λ q. c.if-word-ne8.true q))

pub returns : goal.returns
returns c =
    let o = c.args.information.now in
    let seven = c.if-information-ne7.false in
    ap (λ z. record { number = 0; out = z })
    (c.write.ensures (encoded (bit o))
    (encoded_word o c.taken-v.result c.divide-r.result seven c.taken-v.ensures (c.divide-r.ensures.1 (bit o) c.taken-v.ensures))
    ∙ written_encoded (bit o))
    ∙ sym (encode_done o c.args.word.now seven c.if-word-ne8.false)
