-- `codes::open_taken`: the leading part of a codeword, an empty one of another word. Assumes nothing.
use mathlib.Core.Path.{refl, sym, ap, ◌∙◌}
use native.Mathlib.Omega.{arith}
use lib.ListN.{take, length-take}
use Rattle.catalogue.proofs.offer.Offers.{small}
use Rattle.refusals.proofs.Admitted.{information_long}
use Rattle.refusals.specs.Numbers.{number_in}
use Rattle.refusals.proofs.Numbers.{some}
use Rattle.codes.proofs.Opening.{opened_other, opened_codeword}
use Rattle.codes.proofs.open_taken.Goals as goal
use Rattle.codes.proofs.open_taken.Goals.{in-Ok, in-Err}

pub slice_bounds-result-end : goal.slice_bounds-result-end
slice_bounds-result-end c =
    let s = (small c.args.received.code.known).information in
    let t = length-take c.match-found.end c.args.received.word.now in
    elim c.match-found.branch [ in-Ok w ↦ omega (arith, w.end-is, s, t, c.args.received.whole) | in-Err w ↦ omega (arith, w.end-is, t) ]

pub returns : goal.returns
returns c n off is =
    let o = c.args.received.word.now in
    let f = c.fault_of-found in
    let e = f.ensures n off is in
    elim c.match-found.branch [
      | in-Ok w ↦ ap (λ z. record { number = c.number.result; lowest = f.result.lowest; part = take z o })
          (w.end-is ∙ information_long n is off refl)
          ∙ opened_codeword n o (c.number.ensures ∙ e.0, e.1) (c.number.ensures ∙ ap number_in w.in-Ok.is)
      | in-Err w ↦ ap (λ z. record { number = c.number.result; lowest = f.result.lowest; part = take z o }) w.end-is
          ∙ opened_other n o (c.number.ensures ∙ e.0, e.1) (λ z. some _ (sym (c.number.ensures ∙ ap number_in w.in-Err.is) ∙ z))
    ]
