-- `listing::count_flips`: a run as correct makes it. Assumes nothing.
use mathlib.Core.Path.{sym, ap, ◌∙◌}
use lib.ListN.{length}
use Rattle.rules.specs.Codes.{code}
use Rattle.rules.specs.Flipping.{by_excess, run}
use Rattle.refusals.proofs.Admitted.{shaped, unsent_is}
use Rattle.flipping.proofs.endings.Ends.{begins, beginning}
use Rattle.lists.proofs.listing.count_flips.Goals as goal

pub invariant_of-parity : goal.invariant_of-parity
invariant_of-parity c =
    let k = c.args.received.code.known in
    record { fit = (c.measure-sh.ensures.1 k.number k.offers k.is).lends.fit }

pub run-ended-requires : goal.run-ended-requires
run-ended-requires c =
    let k = c.args.received.code.known in
    let e = c.measure-sh.ensures.1 k.number k.offers k.is in (
      (shaped k c.measure-sh.ensures.0).0,
      (shaped k c.measure-sh.ensures.0).1,
      beginning k.number c.args.received.word.now _ _ _ _ e c.broken-first.result c.broken-first.ensures c.args.received.code.offer.unsent
          (sym (unsent_is k.number k.is k.offers)),
    )

pub returns : goal.returns
returns c =
    λ n off is.
    let e = c.measure-sh.ensures.1 n off is in
    let counted = begins n c.args.received.word.now _ _ _ _ e c.broken-first.result c.broken-first.ensures c.args.received.code.offer.unsent
    (sym (unsent_is n is off)) in
    (c.run-ended.ensures (code n) counted).0.flips ∙ ap (λ x. length (run (by_excess (code n)) c.args.limit x).flips) e.bits
