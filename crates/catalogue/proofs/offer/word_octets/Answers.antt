-- `offer::word_octets`: the length that the record has. Assumes nothing.
use mathlib.Core.Path.{◌≡◌, ap, ◌∙◌}
use native.Mathlib.Omega.{arith}
use Rattle.rules.specs.Codes.{code}
use Rattle.catalogue.proofs.offer.Offers.{fixed}
use Rattle.catalogue.proofs.offer.word_octets.Goals as goal

pub returns : goal.returns
returns c =
    let n = c.args.code in
    let f = fixed n c.requires in
    let e : c.of.result.word ≡ (code n).octets_of_word = ap (λ z. z.word) c.of.ensures ∙ f.word in
    (e, omega (arith, e, f.few))
