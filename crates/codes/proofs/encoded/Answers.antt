-- `codes::encoded`: refusals in the order of their numbers, then the encoding. Assumes nothing.
use mathlib.Core.Path.{refl, sym, ap, ◌∙◌}
use lib.ListN.{length}
use Rattle.std.proofs.lemmas.Result.{err_from_is_err_and}
use Rattle.answers.proofs.Answers.{encode_taken, encode_four, encode_refused}
use Rattle.catalogue.proofs.offer.Offers.{is_offered}
use Rattle.refusals.proofs.Admitted.{offered_by, encode_refusal, taken, word_long, information_long}
use Rattle.refusals.proofs.Numbers.{some}
use Rattle.codes.proofs.Encoding.{information_only}
use Rattle.codes.proofs.encoded.Goals as goal

pub returns-in_err-admit : goal.returns-in_err-admit
returns-in_err-admit c =
    let p = err_from_is_err_and c.from_residual.result c.from_residual.ensures.1 in
    rw (p.1, p.2) (sym (encode_refused c.args.code c.args.information.now c.args.word.now _
    (encode_refusal c.args.code c.of-o.ensures _ _ c.in_err-admit.ensures) (some c.in_err-admit.field-0.0)))

pub six_set-requires : goal.six_set-requires
six_set-requires c =
    let n = c.args.code in
    let is = c.of-o.ensures in
    let t = taken n is c.of-o.result.offered (offered_by n is) (length c.args.information.now) _
    (length c.args.word.now) c.of-o.result.word c.in_ok-admit.ensures refl in
    t.input_is

pub returns-then-six_set : goal.returns-then-six_set
returns-then-six_set c =
    let n = c.args.code in
    let is = c.of-o.ensures in
    let t = taken n is c.of-o.result.offered (offered_by n is) (length c.args.information.now) _
    (length c.args.word.now) c.of-o.result.word c.in_ok-admit.ensures refl in
    sym (encode_four n c.args.information.now c.args.word.now (is_offered n t.offers)
    (information_long n is t.offers t.input_is) (word_long n is t.offers t.output-is)
    (sym (c.six_set.ensures n t.offers is) ∙ c.if-six_set.true))

pub encode-requires : goal.encode-requires
encode-requires c =
    let n = c.args.code in
    let is = c.of-o.ensures in
    let t = taken n is c.of-o.result.offered (offered_by n is) (length c.args.information.now) _
    (length c.args.word.now) c.of-o.result.word c.in_ok-admit.ensures refl in
    (t.input_is, t.output-is)

pub returns : goal.returns
returns c =
    let n = c.args.code in
    let is = c.of-o.ensures in
    let t = taken n is c.of-o.result.offered (offered_by n is) (length c.args.information.now) _
    (length c.args.word.now) c.of-o.result.word c.in_ok-admit.ensures refl in
    let six = sym (c.six_set.ensures n t.offers is) ∙ c.if-six_set.false in
    let long = information_long n is t.offers t.input_is in
    ap (λ z. record { number = 0; out = z }) (c.encode.ensures n t.offers is
    (information_only n t.offers c.args.information.now long six))
    ∙ sym (encode_taken n c.args.information.now c.args.word.now (is_offered n t.offers) long
    (word_long n is t.offers t.output-is) six)
