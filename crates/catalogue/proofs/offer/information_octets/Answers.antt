-- `offer::information_octets`: the length that the record has. Assumes nothing.
use mathlib.Core.Path.{◌≡◌, ap, ◌∙◌}
use native.Mathlib.Omega.{arith}
use Rattle.rules.specs.Codes.{code}
use Rattle.catalogue.proofs.offer.Offers.{fixed}
use Rattle.catalogue.proofs.offer.information_octets.Goals as goal

pub returns : goal.returns
returns c =
    let n = c.args.code in
    let f = fixed n c.requires in
    let e : c.of.result.information ≡ (code n).octets_of_information = ap (λ z. z.information) c.of.ensures ∙ f.information in
    (e, omega (arith, e, f.less))
