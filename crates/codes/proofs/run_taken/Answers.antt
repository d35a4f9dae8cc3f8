-- `codes::run_taken`: the word is measured, and the run made on it. Assumes nothing.
use mathlib.Core.Path.{sym}
use Rattle.rules.specs.Codes.{code}
use Rattle.refusals.proofs.Admitted.{shaped, unsent_is, fitting}
use Rattle.flipping.proofs.endings.Ends.{begins, beginning}
use Rattle.codes.proofs.Correcting.{run_ends}
use Rattle.codes.proofs.run_taken.Goals as goal

pub lowest-lowest-requires : goal.lowest-lowest-requires
lowest-lowest-requires c =
    let k = c.args.received.code.known in
    fitting (c.measure-sh.ensures.1 k.number k.offers k.is).lends.fit

pub invariant_of-parity : goal.invariant_of-parity
invariant_of-parity c =
    let k = c.args.received.code.known in
    record { fit = (c.measure-sh.ensures.1 k.number k.offers k.is).lends.fit }

pub run-ended-requires : goal.run-ended-requires
run-ended-requires c =
    let k = c.args.received.code.known in
    let e = c.measure-sh.ensures.1 k.number k.offers k.is in (
      (shaped k c.measure-sh.ensures.0).0,
      (shaped k c.measure-sh.ensures.0).1,
      beginning k.number _ _ _ _ _ e c.broken-first.result c.broken-first.ensures _ (sym (unsent_is k.number k.is k.offers)),
    )

pub returns : goal.returns
returns c n off is =
    let e = c.measure-sh.ensures.1 n off is in
    let ends = c.run-ended.ensures (code n)
    (begins n _ _ _ _ _ e c.broken-first.result c.broken-first.ensures _ (sym (unsent_is n is off))) in
    run_ends n _ _ _ _ _ e _ _ _ _ ends.0 c.broken-first.ensures ends.1 c.lowest-lowest.ensures
