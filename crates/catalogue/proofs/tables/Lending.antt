-- The constants are the codes' parity tables: each is compared with the definition's print by a computed test.
use mathlib.Core.Path.{◌≡◌, refl, sym, subst}
use mathlib.Core.Bool.{true}
use mathlib.Core.List.{List}
use Prim.Native.Nat.{ℕ}
use native.Mathlib.Omega.{arith}
use lib.Dec.{lit<, lit≤}
use Rattle.rules.specs.Tables.{parity16, parity32, parity64, parity511, generator16, generator32, generator64, generator511}
use Rattle.rules.specs.Codes.{code, code1, code2, code3, code4, code5, offered}
use Rattle.rules.proofs.Numbers.{five}
use Rattle.layout.specs.declared.Shape.{Shape}
use Rattle.layout.proofs.Lending.{lent}
use Rattle.catalogue.specs.offer.Offers.{telecommand_shape, offer_of}
use Rattle.catalogue.proofs.offer.Offers.{is_offered}
use Rattle.catalogue.specs.tables.Flat.{pairs, flat8, flat16, Lends}

lends1 : Lends 1 (flat8 (pairs parity16)) (offer_of 1).shape
unfolding code code1 parity16 generator16 flat8
lends1 = record {
  fit = record {
    some = lit≤ tt;
    held = lit≤ tt;
    close = lit< tt;
    words = lit≤ tt;
    blocks = lit≤ tt;
    rows = lit≤ tt;
    room = lit≤ tt;
    bits = lit≤ tt;
    flat = refl;
    narrow = λ e. (refl, refl);
  };
  lent = lent 16 8 0 15 parity16 generator16 16 8 1 (flat8 (pairs parity16)) tt refl tt tt;
}

lends2 : Lends 2 (flat8 (pairs parity32)) (offer_of 2).shape
unfolding code code2 parity32 generator32 flat8
lends2 = record {
  fit = record {
    some = lit≤ tt;
    held = lit≤ tt;
    close = lit< tt;
    words = lit≤ tt;
    blocks = lit≤ tt;
    rows = lit≤ tt;
    room = lit≤ tt;
    bits = lit≤ tt;
    flat = refl;
    narrow = λ e. (refl, refl);
  };
  lent = lent 32 16 0 31 parity32 generator32 32 8 1 (flat8 (pairs parity32)) tt refl tt tt;
}

lends3 : Lends 3 (flat8 (pairs parity64)) (offer_of 3).shape
unfolding code code3 parity64 generator64 flat8
lends3 = record {
  fit = record {
    some = lit≤ tt;
    held = lit≤ tt;
    close = lit< tt;
    words = lit≤ tt;
    blocks = lit≤ tt;
    rows = lit≤ tt;
    room = lit≤ tt;
    bits = lit≤ tt;
    flat = refl;
    narrow = λ e. (refl, refl);
  };
  lent = lent 64 32 0 63 parity64 generator64 64 8 1 (flat8 (pairs parity64)) tt refl tt tt;
}

lends4 : Lends 4 (flat16 (pairs parity511)) (offer_of 4).shape
unfolding code code4 parity511 generator511 flat16
lends4 = record {
  fit = record {
    some = lit≤ tt;
    held = lit≤ tt;
    close = lit< tt;
    words = lit≤ tt;
    blocks = lit≤ tt;
    rows = lit≤ tt;
    room = lit≤ tt;
    bits = lit≤ tt;
    flat = refl;
    narrow = λ e. absurd (omega (arith, e));
  };
  lent = lent 1022 895 0 510 parity511 generator511 512 16 8 (flat16 (pairs parity511)) tt refl tt tt;
}

lends5 : Lends 5 (flat16 (pairs parity511)) (offer_of 5).shape
unfolding code code5 parity511 generator511 flat16
lends5 = record {
  fit = lends4.fit;
  lent = lent 1020 892 18 510 parity511 generator511 512 16 8 (flat16 (pairs parity511)) tt refl tt tt;
}

-- the places of the table whose blocks have this size are those of every code that has them
pub record Chosen (size : ℕ) (h : List ℕ) (sh : Shape) : Type 0 where
  pub small : size ≡ 16 → (h ≡ flat8 (pairs parity16)) × (sh ≡ (offer_of 1).shape)
  pub middle : size ≡ 32 → (h ≡ flat8 (pairs parity32)) × (sh ≡ (offer_of 2).shape)
  pub large : size ≡ 64 → (h ≡ flat8 (pairs parity64)) × (sh ≡ (offer_of 3).shape)
  pub near : size ≡ 511 → (h ≡ flat16 (pairs parity511)) × (sh ≡ (offer_of 4).shape)

abbrev Given : ℕ → List ℕ → Shape → Type 0
Given n h sh = (sh ≡ (offer_of n).shape) × Lends n h sh

given : (n : ℕ) {h : List ℕ} {sh : Shape} (h' : List ℕ) → (h ≡ h') × (sh ≡ (offer_of n).shape) → Lends n h' (offer_of n).shape
    → Given n h sh
given n {h} {sh} h' p l = (p.1, subst (λ z. Lends n h z) (sym p.1) (subst (λ z. Lends n z (offer_of n).shape) (sym p.0) l))

pub by_size_lem : (size : ℕ) (h : List ℕ) (sh : Shape) → Chosen size h sh → (n : ℕ) → offered n ≡ true → size ≡ (offer_of n).shape.size
    → (sh ≡ (offer_of n).shape) × Lends n h sh
by_size_lem size h sh ch n o =
    five (λ n. size ≡ (offer_of n).shape.size → Given n h sh)
    (λ e. given 1 (flat8 (pairs parity16)) (ch.small e) lends1)
    (λ e. given 2 (flat8 (pairs parity32)) (ch.middle e) lends2)
    (λ e. given 3 (flat8 (pairs parity64)) (ch.large e) lends3)
    (λ e. given 4 (flat16 (pairs parity511)) (ch.near e) lends4)
    (λ e. given 5 (flat16 (pairs parity511)) (ch.near e) lends5)
    n (is_offered n o)

-- the same of each table, by its size
abbrev Serves : ℕ → List ℕ → Shape → Type 0
Serves size h sh = (n : ℕ) → offered n ≡ true → size ≡ (offer_of n).shape.size → (sh ≡ (offer_of n).shape) × Lends n h sh

module _ (size : ℕ) (h : List ℕ) (sh : Shape) where
  pub serves_16 : size ≡ 16 → h ≡ flat8 (pairs parity16) → sh ≡ telecommand_shape 16 → Serves size h sh
  serves_16 e eh es = by_size_lem size h sh (record {
    small = λ q. (eh, es);
    middle = λ q. absurd (omega arith);
    large = λ q. absurd (omega arith);
    near = λ q. absurd (omega arith);
  })

  pub serves_32 : size ≡ 32 → h ≡ flat8 (pairs parity32) → sh ≡ telecommand_shape 32 → Serves size h sh
  serves_32 e eh es = by_size_lem size h sh (record {
    small = λ q. absurd (omega arith);
    middle = λ q. (eh, es);
    large = λ q. absurd (omega arith);
    near = λ q. absurd (omega arith);
  })

  -- a size that is no other
  pub serves_64 : (size ≡ 16 → ⊥) → (size ≡ 32 → ⊥) → (size ≡ 511 → ⊥) → h ≡ flat8 (pairs parity64) → sh ≡ telecommand_shape 64
      → Serves size h sh
  serves_64 e16 e32 e511 eh es = by_size_lem size h sh (record {
    small = λ q. absurd (e16 q);
    middle = λ q. absurd (e32 q);
    large = λ q. (eh, es);
    near = λ q. absurd (e511 q);
  })

  pub serves_511 : (size ≡ 16 → ⊥) → (size ≡ 32 → ⊥) → (size ≡ 64 → ⊥) → h ≡ flat16 (pairs parity511) → sh ≡ (offer_of 4).shape
      → Serves size h sh
  serves_511 e16 e32 e64 eh es = by_size_lem size h sh (record {
    small = λ q. absurd (e16 q);
    middle = λ q. absurd (e32 q);
    large = λ q. absurd (e64 q);
    near = λ q. (eh, es);
  })
