-- `wideparity::encode` meets its contract: the checks of the information, the walk, the inversions, and the word written. Assumes nothing.
use mathlib.Core.Path.{◌≡◌, refl, sym, ap, ap₂, ◌∙◌}
use Prim.Native.Nat.{ℕ, ◌-◌}
use native.Mathlib.Omega.{arith}
use Rattle.bits.specs.Bits.{Word, bit, octets, ◌⊕◌}
use Rattle.rules.specs.Codes.{code, information}
use Rattle.rules.specs.Encoding.{lifted}
use Rattle.vectors.proofs.Filling.{zero_words}
use Rattle.catalogue.proofs.offer.Offers.{fixed}
use Rattle.word.specs.ownparity.Odd.{odd_together_of}
use Rattle.word.proofs.received.Handed.{taken_later}
use Rattle.encoder.specs.parityrows.Rows.{wide_shape, end_rows, informed, completed}
use Rattle.encoder.proofs.parityrows.Ready.{wide_is, ready_as, all_sent, short_of, short_sent}
use Rattle.encoder.proofs.wideparity.encode.Goals as goal

pub solve_wide-requires : goal.solve_wide-requires
solve_wide-requires c =
    let k = c.args.code.known in
    let same = wide_is k.number k.offers k.is c.requires.0 in
    let ok = ready_as k.number k.offers k.is same in (
      record { number = k.number; offers = k.offers; is = sym same ∙ ap (λ z. z.shape) k.is },
      refl,
      omega (arith, ok.enough, c.requires.1, ap (λ z. z.information) k.is, ap (λ z. z.unsent) k.is),
      zero_words 16,
    )

pub returns : goal.returns
returns c =
    λ n off is short.
    let o = c.args.code.offer in
    let info = c.args.information.now in
    let sh = wide_shape in
    let same = wide_is n off is c.requires.0 in
    let ok = ready_as n off is same in
    let own = fixed n off in
    let unsent : o.unsent ≡ (code n).unsent = ap (λ z. z.unsent) is ∙ own.unsent in
    let long = c.requires.2 ∙ ap (λ z. z.word) is ∙ own.word in
    let x : Word = lifted (code n) (bit info) in
    let g : ℕ → Word = λ r i. end_rows n sh.size x r i ⊕ odd_together_of x r in
    let solved = c.solve_wide.ensures n x off (sym same ∙ ap (λ z. z.shape) is)
    (sym (taken_later (code n) o.unsent unsent (bit info))) short in
    let sends : 7154 - o.unsent ≡ informed sh - (code n).unsent = omega (arith, unsent) in
    c.write.ensures g solved (short_sent n (bit info) (7154 - o.unsent) (omega (arith, unsent, own.low, ok.informs))
    short)
    ∙ ap₂ (λ (l m : ℕ). octets l (completed sh 0 g m (bit info))) long sends
    ∙ all_sent n sh ok (omega (arith, own.low)) 0 g (bit info) (ok.near_rows refl x (short_of (information (code n)) x short))
