-- `codes::six_set`: the last octet and its multiple. Assumes nothing.
use native.Mathlib.Omega.{arith}
use Rattle.catalogue.proofs.offer.Offers.{small}
use Rattle.codes.proofs.Encoding.{six_is}
use Rattle.codes.proofs.six_set.Goals as goal

pub overflow_sub-last : goal.overflow_sub-last
overflow_sub-last c =
    (small c.args.code.known).some

pub bounds-information-last : goal.bounds-information-last
bounds-information-last c =
    omega (arith, c.requires, (small c.args.code.known).some)

--? rem-result : tie.Need-nonzero-rem-result
--? rem-result c =
--?     (small c.args.code.known).multiple

pub returns : goal.returns
returns c =
    λ n off is. six_is n off is c.args.information.now
