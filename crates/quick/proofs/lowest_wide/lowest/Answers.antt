-- `quickwide::lowest`: the first group, or the word laid out. Assumes nothing.
use mathlib.Core.Path.{◌≡◌, refl, sym, ap, ◌∙◌, subst}
use mathlib.Core.Bool.{true}
use mathlib.Core.List.{List}
use Prim.Native.Nat.{ℕ}
use native.Mathlib.Nat.{pos_of_ne-zero, zero-add}
use native.Mathlib.Omega.{arith}
use lib.Dec.{lit≤, lit<}
use lib.Count.{count_leading_zeros}
use Rattle.bits.specs.Bits.{bit}
use Rattle.rules.specs.Codes.{code, offered}
use Rattle.rules.specs.Encoding.{lifted}
use Rattle.rules.specs.Tables.{parity511}
use Rattle.layout.specs.declared.Shape.{Shape}
use Rattle.catalogue.specs.offer.Offers.{offer_of}
use Rattle.catalogue.proofs.offer.Offers.{fixed}
use Rattle.catalogue.specs.tables.Flat.{Lends, flat16, pairs}
use Rattle.catalogue.proofs.tables.Lending.{by_size_lem}
use Rattle.vectors.proofs.Firsts.{first_digit}
use Rattle.quick.proofs.groups.Groups.{group_found}
use Rattle.quick.specs.groups.Groups.{Full}
use Rattle.quick.proofs.groups.Shapes.{checked, every_shift}
use Rattle.quick.proofs.lowest_wide.lowest.Goals as goal

abbrev near : Shape
near = record { size = 511; words = 8; blocks = 16; rows = 2 }

lent : (n : ℕ) → offered n ≡ true → 511 ≡ (offer_of n).shape.size → (h : List ℕ) → h ≡ flat16 (pairs parity511)
    → Lends n h near
lent n off e h is = (by_size_lem 511 h near (record {
  small = λ e. absurd (omega arith);
  middle = λ e. absurd (omega arith);
  large = λ e. absurd (omega arith);
  near = λ e. (is, refl);
}) n off e).1

full : (h : List ℕ) → h ≡ flat16 (pairs parity511) → Full h near
full h is = subst (λ z. Full z near) (sym is) every_shift

pub invariant_of-parity : goal.invariant_of-parity
invariant_of-parity c =
    let k = c.args.received.code.known in
    let e : 511 ≡ (offer_of k.number).shape.size = sym c.requires ∙ ap (λ o. o.shape.size) k.is in
    record { fit = (lent k.number k.offers e _ c.lend511.ensures).fit }

pub first_group-v-requires : goal.first_group-v-requires
first_group-v-requires c =
    let k = c.args.received.code.known in
    let e : 511 ≡ (offer_of k.number).shape.size = sym c.requires ∙ ap (λ o. o.shape.size) k.is in
    let w = (checked k.number k.offers).wide (sym e) in
    let word = c.args.received.whole ∙ ap (λ o. o.word) k.is in
    let unsent = ap (λ o. o.unsent) k.is in (
      lit≤ tt,
      lit≤ tt,
      omega (arith, w.0, word, unsent),
      omega (arith, w.0, w.1, word),
    )

pub returns-then-v-ne0 : goal.returns-then-v-ne0
returns-then-v-ne0 c n off is =
    let e : 511 ≡ (offer_of n).shape.size = sym c.requires ∙ ap (λ o. o.shape.size) is in
    let l = lent n off e _ c.lend511.ensures in
    let v = c.first_group-v.result in
    let f = first_digit 64 v (pos_of_ne-zero c.if-v-ne0.true) c.first_group-v.type_inv in
    sym (zero-add (count_leading_zeros 64 v))
    ∙ group_found near _ (lifted (code n) (bit c.args.received.word.now)) (code n) l.lent 0 (lit< tt) 64 v
    (count_leading_zeros 64 v) (lit≤ tt)
    (c.first_group-v.ensures (code n) (ap (λ o. o.unsent) is ∙ (fixed n off).unsent))
    f.inside f.here f.clear (λ j h. absurd (omega arith))

pub whole_lowest-requires : goal.whole_lowest-requires
whole_lowest-requires c = (full _ c.lend511.ensures, lit< tt, refl)

pub returns : goal.returns
returns c n off is =
    let e : 511 ≡ (offer_of n).shape.size = sym c.requires ∙ ap (λ o. o.shape.size) is in
    let l = lent n off e _ c.lend511.ensures in
    c.whole_lowest.ensures (code n) l.lent (ap (λ o. o.unsent) is ∙ (fixed n off).unsent)
