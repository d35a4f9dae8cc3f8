-- `bch::judge`: what is left of the word tells whether it is a codeword, and else which bit was wrong. Assumes nothing.
use mathlib.Core.Path.{sym, ap, ◌∙◌}
use native.Mathlib.Omega.{arith}
use borrow.Author.Tests.{eq-eqb, ne_eqb}
use Rattle.bits.specs.Bits.{bit, flipped}
use Rattle.bch.specs.Bch.{wrong_bit}
use Rattle.bch.specs.Answers.{upright}
use Rattle.bch.proofs.Codewords.{left, codeword_left}
use Rattle.bch.proofs.Words.{upright_word}
use Rattle.bch.proofs.Judging.{judged_codeword, judged_detected, judged_mended, judged_far, none_near, one_near, mended_word}
use Rattle.bch.proofs.judge.Goals as goal

pub returns-then-r-eq0 : goal.returns-then-r-eq0
returns-then-r-eq0 c =
    let x = bit c.args.word.now in
    let e = c.divide-r.ensures.1 (upright x) (upright_word c.taken-v.result x c.taken-v.ensures) in
    ap (λ z. record { number = 0; mended = 0; out = z }) (c.write.ensures x c.taken-v.ensures)
    ∙ sym (judged_codeword x c.args.out.now c.args.detect_only (codeword_left x ∙ eq-eqb (left x) 0 (sym e ∙ c.if-r-eq0.true)))

pub returns-then-detect_only : goal.returns-then-detect_only
returns-then-detect_only c =
    let x = bit c.args.word.now in
    let e = c.divide-r.ensures.1 (upright x) (upright_word c.taken-v.result x c.taken-v.ensures) in
    sym (judged_detected x c.args.out.now c.args.detect_only c.if-detect_only.true (codeword_left x
    ∙ ne_eqb (left x) 0 (λ q. c.if-r-eq0.false (e ∙ q))))

pub returns-then-m-eq0 : goal.returns-then-m-eq0
returns-then-m-eq0 c =
    let x = bit c.args.word.now in
    let e = c.divide-r.ensures.1 (upright x) (upright_word c.taken-v.result x c.taken-v.ensures) in
    sym (judged_far x c.args.out.now c.args.detect_only (codeword_left x ∙ ne_eqb (left x) 0 (λ q. c.if-r-eq0.false (e ∙ q)))
    (none_near x c.taken-v.result c.divide-r.result c.places-m.result (omega arith) c.taken-v.ensures e c.places-m.ensures
    c.if-m-eq0.true))

pub returns : goal.returns
returns c =
    let x = bit c.args.word.now in
    let v = c.taken-v.result in
    let m = c.places-m.result in
    let e = c.divide-r.ensures.1 (upright x) (upright_word v x c.taken-v.ensures) in
    let near = one_near x v c.divide-r.result m (omega arith) c.taken-v.ensures e c.places-m.ensures (λ q. c.if-m-eq0.false q) in
    ap (λ z. record { number = 0; mended = 1; out = z })
    (c.write-2.ensures (flipped x (wrong_bit x)) (mended_word x v c.divide-r.result m (omega arith) c.taken-v.ensures e
    c.places-m.ensures near))
    ∙ sym (judged_mended x c.args.out.now c.args.detect_only c.if-detect_only.false (codeword_left x
    ∙ ne_eqb (left x) 0 (λ q. c.if-r-eq0.false (e ∙ q))) near)
