-- `samples::run_within`: what the run begins with is the code's. Assumes nothing.
use mathlib.Core.Path.{sym, ap, ◌∙◌}
use Rattle.rules.specs.Codes.{code}
use Rattle.refusals.proofs.Admitted.{as_truth, shaped, steps_by, bits_are}
use Rattle.samples.proofs.Correcting.{all_sent}
use Rattle.samples.proofs.run_within.Goals as goal

pub begin-begun-requires : goal.begin-begun-requires
begin-begun-requires c =
    let k = c.args.sampled.code.known in
    (record { number = k.number; offers = k.offers; is = ap (λ z. z.shape.size) k.is }, c.requires.1)

pub invariant_of-parity : goal.invariant_of-parity
invariant_of-parity c =
    let k = c.args.sampled.code.known in
    record { fit = (c.begin-begun.ensures k.number k.offers (ap (λ z. z.shape.size) k.is)).1.fit }

pub run_judged-requires : goal.run_judged-requires
run_judged-requires c =
    let k = c.args.sampled.code.known in
    let e = c.begin-begun.ensures k.number k.offers (ap (λ z. z.shape.size) k.is) in (
      (shaped k (e.0 ∙ sym (ap (λ z. z.shape) k.is))).0,
      c.args.sampled.whole ∙ bits_are k.number k.is k.offers ∙ e.1.lent.bits_are,
      c.requires.0,
      record {
        code = code k.number;
        begins = record { lent = e.1.lent; unsent = all_sent k.number k.is c.args.sampled.taken; held = e.2; broken = e.3 };
      },
    )

pub returns : goal.returns
returns c n off is =
    let e = c.begin-begun.ensures n off (ap (λ z. z.shape.size) is) in
    c.run_judged.ensures n off is (as_truth (steps_by n is c.args.sampled.taken))
    (record { lent = e.1.lent; unsent = all_sent n is c.args.sampled.taken; held = e.2; broken = e.3 }) e.4
