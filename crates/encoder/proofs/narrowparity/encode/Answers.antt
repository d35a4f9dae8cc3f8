-- `narrowparity::encode` meets its contract: the checks of the information, the walk, and the word written. Assumes nothing.
use mathlib.Core.Path.{◌≡◌, sym, ap, ap₂, ◌∙◌, subst}
use Prim.Native.Nat.{ℕ, ◌-◌, ◌*◌}
use native.Mathlib.Omega.{arith}
use lib.ListN.{length}
use Rattle.bits.specs.Bits.{Word, bit, octets}
use Rattle.rules.specs.Codes.{code, information}
use Rattle.rules.specs.Encoding.{parity_bit}
use Rattle.vectors.specs.Vectors.{up_to}
use Rattle.vectors.proofs.Filling.{zero_words}
use Rattle.layout.specs.declared.Shape.{Shape}
use Rattle.catalogue.proofs.offer.Offers.{fixed}
use Rattle.word.proofs.received.Handed.{taken_whole}
use Rattle.encoder.specs.parityrows.Rows.{held, narrow_shape, end_rows, informed, completed}
use Rattle.encoder.proofs.parityrows.Ready.{narrow_is, last_size, ready_as, all_sent, short_of, short_sent}
use Rattle.encoder.proofs.narrowparity.encode.Goals as goal

pub solve_narrow-requires : goal.solve_narrow-requires
solve_narrow-requires c =
    let k = c.args.code.known in
    let same = narrow_is k.number k.offers k.is c.requires.0 in
    let ok = ready_as k.number k.offers k.is same in
    let e = c.telecommand_shape-sh.ensures in (
      record { number = k.number; offers = k.offers; is = e ∙ sym same ∙ ap (λ z. z.shape) k.is },
      e ∙ ap (λ z. narrow_shape z.size) (sym e),
      subst (λ (m : ℕ). (m ≡ 16 → ⊥) → (m ≡ 32 → ⊥) → m ≡ 64) (sym (ap (λ z. z.size) e))
          (last_size k.number k.offers k.is c.requires.0),
      omega (arith, c.requires.1, (ok.small c.requires.0).0, ap (λ z. z.information) k.is),
      zero_words 16,
    )

pub returns : goal.returns
returns c =
    λ n off is short.
    let info = c.args.information.now in
    let sh = narrow_shape c.args.code.offer.shape.size in
    let same = narrow_is n off is c.requires.0 in
    let ok = ready_as n off is same in
    let own = fixed n off in
    let unsent : 0 ≡ (code n).unsent = sym (ok.small c.requires.0).1 ∙ own.unsent in
    let long = c.requires.2 ∙ ap (λ z. z.word) is ∙ own.word in
    let x : Word = bit info in
    let whole = taken_whole (code n) unsent x in
    let only = subst (λ (z : Word). z ≡ up_to (information (code n)) z) (sym whole) short in
    let f : ℕ → Word = end_rows n sh.size x in
    let is_shape : c.telecommand_shape-sh.result ≡ sh = c.telecommand_shape-sh.ensures in
    let ended = c.solve_narrow.ensures n off (is_shape ∙ sym same ∙ ap (λ z. z.shape) is) only
    ∙ ap (λ (z : Shape). held c.telecommand_shape-sh.result (end_rows n z.size x)) is_shape in
    let sends : 4 * sh.size ≡ informed sh - (code n).unsent = omega (arith, unsent) in
    c.write.ensures f ended (short_sent n x (4 * sh.size) (omega (arith, unsent, ok.informs)) short)
    ∙ ap (λ (z : Shape). octets (length c.args.word.now) (completed z 1 f (4 * sh.size) x)) is_shape
    ∙ ap₂ (λ (l m : ℕ). octets l (completed sh 1 f m x)) long sends
    ∙ all_sent n sh ok (omega (arith, unsent)) 1 f x (λ p h.
    ok.other_rows c.requires.0 x (short_of (information (code n)) x only) p h ∙ ap (λ (z : Word). parity_bit (code n) z p) whole)
