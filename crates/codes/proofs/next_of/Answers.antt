-- `codes::next_of`: the word is measured, and what comes next is found from its syndrome. Assumes nothing.
use mathlib.Core.Path.{sym, ap, ◌∙◌}
use Rattle.rules.specs.Codes.{code}
use Rattle.rules.specs.Flipping.{by_excess}
use Rattle.refusals.proofs.Admitted.{shaped, unsent_is}
use Rattle.codes.proofs.Correcting.{holding, within_bits}
use Rattle.codes.proofs.next_of.Goals as goal

pub invariant_of-parity : goal.invariant_of-parity
invariant_of-parity c =
    let k = c.args.received.code.known in
    record { fit = (c.measure-sh.ensures.1 k.number k.offers k.is).lends.fit }

pub comes_next-requires : goal.comes_next-requires
comes_next-requires c =
    let k = c.args.received.code.known in
    let e = c.measure-sh.ensures.1 k.number k.offers k.is in (
      (shaped k c.measure-sh.ensures.0).0,
      (shaped k c.measure-sh.ensures.0).1,
      holding k.number _ _ _ _ _ e,
    )

pub returns : goal.returns
returns c =
    let k = c.args.received.code.known in (
      within_bits _ c.comes_next.result (c.measure-sh.ensures.1 k.number k.offers k.is).lends.fit.bits
          c.comes_next.ensures.0,
      λ n off is.
          let e = c.measure-sh.ensures.1 n off is in (
            e.bits,
            ap (by_excess (code n)) (sym e.bits)
                ∙ c.comes_next.ensures.1 (code n) e.lends.lent (sym (unsent_is n is off)) _ e.held,
          ),
    )
