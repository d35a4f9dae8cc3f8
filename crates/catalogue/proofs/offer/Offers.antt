-- What a code number fixes is what the definitions say of the code.
use mathlib.Core.Path.{◌≡◌, refl, sym, ap, ap₂, ◌∙◌, subst}
use mathlib.Core.Bool.{Bool, true, false, not, ◌&&◌}
use Prim.Native.Nat.{ℕ, zero, suc, ◌+◌, ◌-◌, ◌*◌, ◌/◌, ◌≤◌, ◌<◌}
use native.Mathlib.Omega.{arith}
use lib.Dec.{T, eqb, leb, lit≤, lit<, leb→le}
use borrow.Author.Tests.{ne_eqb, lt-leb}
use Rattle.bits.specs.Bits.{when◌then◌else◌}
use Rattle.rules.specs.Codes.{code, code1, code2, code3, code4, code5, bits, offered, telecommanded}
use Rattle.rules.specs.Tables.{parity16, parity32, parity64, parity511}
use Rattle.bits.proofs.Sums.{and_l, and_r}
use Rattle.rules.proofs.Numbers.{five}
use Rattle.catalogue.specs.declared.offer.Offer.{Offer}
use Rattle.catalogue.specs.offer.Offers.{telecommand_offer, near_earth_offer, offer_of, Known}

-- ---- by number

pub offer_none : (n : ℕ) → (n ≡ 1 → ⊥) → (n ≡ 2 → ⊥) → (n ≡ 3 → ⊥) → (n ≡ 4 → ⊥) → (n ≡ 5 → ⊥) → offer_of 0 ≡ offer_of n
offer_none n d1 d2 d3 d4 d5 = sym (go (eqb n 1) (eqb n 2) (eqb n 3) (eqb n 4) (eqb n 5) (ne_eqb n 1 d1) (ne_eqb n 2 d2) (ne_eqb n 3 d3)
    (ne_eqb n 4 d4) (ne_eqb n 5 d5))
  where
    chosen : Bool → Bool → Bool → Bool → Bool → Offer
    chosen a b d e f =
        when a then telecommand_offer 16 8 128 16
        else when b then telecommand_offer 32 16 256 32
        else when d then telecommand_offer 64 32 512 64
        else when e then near_earth_offer true 1022 895 64 0 0
        else when f then near_earth_offer false 1020 892 1 18 2
        else offer_of 0

    go : (a b d e f : Bool) → a ≡ false → b ≡ false → d ≡ false → e ≡ false → f ≡ false → chosen a b d e f ≡ offer_of 0
    go a b d e f p q r s t = ap₂ (λ a b. chosen a b d e f) p q ∙ ap₂ (λ d e. chosen false false d e f) r s
        ∙ ap (chosen false false false false) t

-- ---- what it fixes

-- a code number that is offered, as a truth and as a number
pub is_offered : (n : ℕ) → offered n ≡ true → T (offered n)
is_offered n o = subst T (sym o) tt

pub offered_low : (n : ℕ) → offered n ≡ true → 1 ≤ n
offered_low n o = leb→le 1 n (and_l (leb 1 n) (leb n 5) (is_offered n o))

pub offered_high : (n : ℕ) → offered n ≡ true → n ≤ 5
offered_high n o = leb→le n 5 (and_r (leb 1 n) (leb n 5) (is_offered n o))

-- whatever the number: whether the calls offer it, and that its table has blocks
pub record Offers (n : ℕ) : Type 0 where
  pub all : (offer_of n).offered ≡ offered n
  pub opens : (offer_of n).opens ≡ (offered n && not (eqb n 4))
  pub steps : (offer_of n).steps ≡ (offered n && not (eqb n 5))
  pub some : 1 ≤ (offer_of n).shape.blocks

not_offered : (n : ℕ) → 5 < n → offered n ≡ false
not_offered n l = ap (λ b. leb 1 n && b) (lt-leb n 5 l) ∙ and-false (leb 1 n)
  where
    and-false : (b : Bool) → (b && false) ≡ false
    and-false true = refl
    and-false false = refl

pub offers : (n : ℕ) → Offers n
offers n = go n
  where
    past : (n : ℕ) → 5 < n → Offers n
    past n l =
        let o : offer_of 0 ≡ offer_of n = offer_none n (λ e. omega arith) (λ e. omega arith) (λ e. omega arith) (λ e. omega arith)
        (λ e. omega arith) in
        let f : false ≡ offered n = sym (not_offered n l) in
        record {
          all = ap (λ o. o.offered) (sym o) ∙ f;
          opens = ap (λ o. o.opens) (sym o) ∙ ap (λ b. b && not (eqb n 4)) f;
          steps = ap (λ o. o.steps) (sym o) ∙ ap (λ b. b && not (eqb n 5)) f;
          some = subst (λ o. 1 ≤ o.shape.blocks) o (lit≤ tt);
        }

    known : (n : ℕ) → (offer_of n).offered ≡ offered n → (offer_of n).opens ≡ (offered n && not (eqb n 4))
        → (offer_of n).steps ≡ (offered n && not (eqb n 5)) → 1 ≤ (offer_of n).shape.blocks
        → Offers n
    known n a b d e = record { all = a; opens = b; steps = d; some = e }

    go : (n : ℕ) → Offers n
    go zero = known 0 refl refl refl (lit≤ tt)
    go (suc zero) = known 1 refl refl refl (lit≤ tt)
    go (suc (suc zero)) = known 2 refl refl refl (lit≤ tt)
    go (suc (suc (suc zero))) = known 3 refl refl refl (lit≤ tt)
    go (suc (suc (suc (suc zero)))) = known 4 refl refl refl (lit≤ tt)
    go (suc (suc (suc (suc (suc zero))))) = known 5 refl refl refl (lit≤ tt)
    go (suc (suc (suc (suc (suc (suc n)))))) = past (suc (suc (suc (suc (suc (suc n)))))) (omega arith)

-- of a code that is offered: its lengths and bits
pub record Fixed (n : ℕ) : Type 0 where
  pub word : (offer_of n).word ≡ (code n).octets_of_word
  pub few : (code n).octets_of_word ≤ 1022
  pub information : (offer_of n).information ≡ (code n).octets_of_information
  pub some : 1 ≤ (code n).octets_of_information
  pub less : (code n).octets_of_information ≤ (code n).octets_of_word
  pub multiple : 1 ≤ (offer_of n).multiple
  pub unsent : (offer_of n).unsent ≡ (code n).unsent
  pub low : (code n).unsent ≤ 18
  -- the word's octets are the bits that are sent, and the filling
  pub bits_are : (offer_of n).bits ≡ bits (code n)
  pub most : bits (code n) ≤ 8176
  pub fill : bits (code n) + (offer_of n).fill ≡ 8 * (code n).octets_of_word + (code n).unsent
  pub filled : (offer_of n).fill ≤ 2
  pub within : (offer_of n).unsent < (offer_of n).shape.size
  pub sends : (offer_of n).unsent < (offer_of n).bits
  -- the bits that are sent fill the word's octets but for less than the last eight
  pub fits : (offer_of n).bits - (offer_of n).unsent ≤ 8 * (offer_of n).word
  -- where nothing is sent after the parity, every bit is sent
  pub plain : 8 * (offer_of n).word + (offer_of n).unsent ≤ (offer_of n).bits → (offer_of n).unsent ≡ 0
  -- what is sent after the parity stands in one word of 64 bits with its end
  pub ends : 8 * (offer_of n).word + (offer_of n).unsent ≤ 64 * ((offer_of n).bits / 64 + 1)
  pub full : (offer_of n).word < 8 * (((offer_of n).bits - (offer_of n).unsent) / 64) + 8
  pub blocks : 1 ≤ (offer_of n).shape.blocks
  pub asked : (offer_of n).asked ≡ not (telecommanded n)

fixed_five : (n : ℕ) → T (offered n) → Fixed n
unfolding code code1 code2 code3 code4 code5 parity16 parity32 parity64 parity511
fixed_five =
    five Fixed
    (record {
      word = refl;
      few = lit≤ tt;
      information = refl;
      some = lit≤ tt;
      less = lit≤ tt;
      multiple = lit≤ tt;
      unsent = refl;
      low = lit≤ tt;
      bits_are = refl;
      most = lit≤ tt;
      fill = refl;
      filled = lit≤ tt;
      within = lit< tt;
      sends = lit< tt;
      fits = lit≤ tt;
      full = lit< tt;
      plain = λ h. refl;
      ends = lit≤ tt;
      blocks = lit≤ tt;
      asked = refl;
    })
    (record {
      word = refl;
      few = lit≤ tt;
      information = refl;
      some = lit≤ tt;
      less = lit≤ tt;
      multiple = lit≤ tt;
      unsent = refl;
      low = lit≤ tt;
      bits_are = refl;
      most = lit≤ tt;
      fill = refl;
      filled = lit≤ tt;
      within = lit< tt;
      sends = lit< tt;
      fits = lit≤ tt;
      full = lit< tt;
      plain = λ h. refl;
      ends = lit≤ tt;
      blocks = lit≤ tt;
      asked = refl;
    })
    (record {
      word = refl;
      few = lit≤ tt;
      information = refl;
      some = lit≤ tt;
      less = lit≤ tt;
      multiple = lit≤ tt;
      unsent = refl;
      low = lit≤ tt;
      bits_are = refl;
      most = lit≤ tt;
      fill = refl;
      filled = lit≤ tt;
      within = lit< tt;
      sends = lit< tt;
      fits = lit≤ tt;
      full = lit< tt;
      plain = λ h. refl;
      ends = lit≤ tt;
      blocks = lit≤ tt;
      asked = refl;
    })
    (record {
      word = refl;
      few = lit≤ tt;
      information = refl;
      some = lit≤ tt;
      less = lit≤ tt;
      multiple = lit≤ tt;
      unsent = refl;
      low = lit≤ tt;
      bits_are = refl;
      most = lit≤ tt;
      fill = refl;
      filled = lit≤ tt;
      within = lit< tt;
      sends = lit< tt;
      fits = lit≤ tt;
      full = lit< tt;
      plain = λ h. refl;
      ends = lit≤ tt;
      blocks = lit≤ tt;
      asked = refl;
    })
    (record {
      word = refl;
      few = lit≤ tt;
      information = refl;
      some = lit≤ tt;
      less = lit≤ tt;
      multiple = lit≤ tt;
      unsent = refl;
      low = lit≤ tt;
      bits_are = refl;
      most = lit≤ tt;
      fill = refl;
      filled = lit≤ tt;
      within = lit< tt;
      sends = lit< tt;
      fits = lit≤ tt;
      full = lit< tt;
      plain = λ h. absurd (omega (arith, h));
      ends = lit≤ tt;
      blocks = lit≤ tt;
      asked = refl;
    })

pub fixed : (n : ℕ) → offered n ≡ true → Fixed n
fixed n o = fixed_five n (is_offered n o)

-- ---- a record that some number fixes

pub record Small (o : Offer) : Type 0 where
  pub word : o.word ≤ 1022
  pub some : 1 ≤ o.information
  pub information : o.information ≤ o.word
  pub multiple : 1 ≤ o.multiple
  pub unsent : o.unsent ≤ 18
  pub bits : o.bits ≤ 8176
  pub fill : o.fill ≤ 2
  pub within : o.unsent < o.shape.size
  pub sends : o.unsent < o.bits
  pub fits : o.bits - o.unsent ≤ 8 * o.word
  pub plain : 8 * o.word + o.unsent ≤ o.bits → o.unsent ≡ 0
  pub ends : 8 * o.word + o.unsent ≤ 64 * (o.bits / 64 + 1)
  pub full : o.word < 8 * ((o.bits - o.unsent) / 64) + 8
  pub blocks : 1 ≤ o.shape.blocks

pub small : {o : Offer} → Known o → Small o
small {o} k =
    let f : Fixed k.number = fixed k.number k.offers in
    subst Small (sym k.is)
    (record {
      word = omega (arith, f.word, f.few);
      some = omega (arith, f.information, f.some);
      information = omega (arith, f.word, f.information, f.less);
      multiple = f.multiple;
      unsent = omega (arith, f.unsent, f.low);
      bits = omega (arith, f.bits_are, f.most);
      fill = omega (arith, f.filled);
      within = f.within;
      sends = f.sends;
      fits = f.fits;
      full = f.full;
      plain = f.plain;
      ends = f.ends;
      blocks = f.blocks;
    })

pub known : (n : ℕ) {o : Offer} → offered n ≡ true → o ≡ offer_of n → Known o
known n a e = record { number = n; offers = a; is = e }
