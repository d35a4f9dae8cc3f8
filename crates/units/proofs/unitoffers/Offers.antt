-- What a code number fixes of units is what the definitions say of the code.
use mathlib.Core.Path.{◌≡◌, refl, sym, ap, ◌∙◌, subst}
use mathlib.Core.Bool.{Bool, true, false, ◌||◌}
use Prim.Native.Nat.{ℕ, ◌+◌, ◌-◌, ◌*◌, ◌/◌, ◌^◌, ◌≤◌, ◌<◌}
use native.Mathlib.Omega.{arith}
use lib.Dec.{eqb}
use lib.ListN.{length, take}
use borrow.Author.Tests.{eq-eqb, ne_eqb}
use Rattle.bits.specs.Bits.{when◌then◌else◌}
use Rattle.rules.specs.Codes.{code, code1, code3}
use Rattle.units.specs.unitrules.Units.{unit_code, tail, unit_length}
use Rattle.units.proofs.unitrules.Shapes.{both}
use Rattle.units.specs.declared.unitoffers.UnitOffer.{UnitOffer}
use Rattle.units.specs.unitoffers.Offers.{short_units, long_units, unit_offer_of}

-- ---- by number

pub offer_one : (n : ℕ) → n ≡ 1 → short_units ≡ unit_offer_of n
offer_one n e = sym (ap (λ b. when b then short_units else long_units (eqb n 3)) (eq-eqb n 1 e))

pub offer_other : (n : ℕ) → (n ≡ 1 → ⊥) → long_units (eqb n 3) ≡ unit_offer_of n
offer_other n d = sym (ap (λ b. when b then short_units else long_units (eqb n 3)) (ne_eqb n 1 d))

-- whatever the number
pub offer_offered : (n : ℕ) → (unit_offer_of n).offered ≡ unit_code n
offer_offered n = go (eqb n 1)
  where
    go : (b : Bool) → (when b then short_units else long_units (eqb n 3)).offered ≡ (b || eqb n 3)
    go true = refl
    go false = refl

pub offer_is : (n : ℕ) (u : UnitOffer) {b : Bool} → u ≡ unit_offer_of n → u.offered ≡ b → unit_code n ≡ b
offer_is n u e h = sym (ap (λ u. u.offered) e ∙ offer_offered n) ∙ h

either : (P : UnitOffer → Type 0) → P short_units → ((b : Bool) → P (long_units b)) → (n : ℕ) → P (unit_offer_of n)
either P s l n = go (eqb n 1)
  where
    go : (b : Bool) → P (when b then short_units else long_units (eqb n 3))
    go true = s
    go false = l (eqb n 3)

pub offer_room : (n : ℕ) → (unit_offer_of n).information ≤ 32
offer_room = either (λ u. u.information ≤ 32) (omega arith) (λ b. omega arith)

-- of a code that has units
pub record Fixed (n : ℕ) (u : UnitOffer) : Type 0 where
  pub word : u.word ≡ (code n).octets_of_word
  pub information : u.information ≡ (code n).octets_of_information
  pub tail : u.tail ≡ length (tail n)

fixed_of : (n : ℕ) → unit_code n ≡ true → Fixed n (unit_offer_of n)
unfolding code code1 code3 tail
fixed_of = both (λ n. Fixed n (unit_offer_of n)) (record { word = refl; information = refl; tail = refl })
    (record { word = refl; information = refl; tail = refl })

pub fixed : (n : ℕ) (u : UnitOffer) → u ≡ unit_offer_of n → unit_code n ≡ true → Fixed n u
fixed n u e h = subst (Fixed n) (sym e) (fixed_of n h)

-- ---- the numbers that a length goes through

pub record Steps (long : ℕ) (u : UnitOffer) : Type 0 where
  pub some : 1 ≤ u.information
  pub blocks : (long ≡ 0 → ⊥) → (long - 1) / u.information + 1 ≤ long
  pub ends : 8 + u.tail ≤ 24
  pub times : (long - 1) / u.information + 1 < u.most → u.word * ((long - 1) / u.information + 1) + (8 + u.tail) < 2 ^ 64

pub steps : (n long : ℕ) (u : UnitOffer) → u ≡ unit_offer_of n → Steps long u
steps n long u e = subst (Steps long) (sym e) (either (Steps long)
    (record { some = omega arith; blocks = λ d. omega arith; ends = omega arith; times = λ h. omega arith })
    (λ b. record { some = omega arith; blocks = λ d. omega arith; ends = omega arith; times = λ h. omega arith }) n)

-- what the calls compute of a length that is not 0
pub record Long (long n : ℕ) (u : UnitOffer) : Type 0 where
  pub is : u.word * ((long - 1) / u.information + 1) + (8 + u.tail) ≡ unit_length n long
  pub great : u.most ≤ (long - 1) / u.information + 1 → 2 ^ 64 ≤ unit_length n long

module _ (n long : ℕ) (u : UnitOffer) (e : u ≡ unit_offer_of n) (o : unit_code n ≡ true) (d : long ≡ 0 → ⊥) where
  short : 16 * ((long - 1) / 8 + 1) + (8 + 16) ≡ 8 + ((long + 7) / 8 * 16 + 16)
  short = omega arith

  wide : 64 * ((long - 1) / 32 + 1) + (8 + 0) ≡ 8 + ((long + 31) / 32 * 64 + 0)
  wide = omega arith

  pub long_unit : Long long n u
  unfolding code code1 code3 tail
  long_unit = subst (Long long n) (sym e) (both (λ n. Long long n (unit_offer_of n))
      (record { is = short; great = λ g. omega (arith, g, short) }) (record { is = wide; great = λ g. omega (arith, g, wide) }) n o)

  pub long_fits : (long - 1) / u.information + 1 < u.most → unit_length n long < 2 ^ 64
  long_fits h = subst (λ z. z < 2 ^ 64) long_unit.is ((steps n long u e).times h)

-- ---- the tail

-- one that is not empty is code 1's
pub front_tail : (n : ℕ) → unit_code n ≡ true → (r : ℕ) → r ≡ length (tail n) → take r (tail 1) ≡ tail n
unfolding tail
front_tail n o r = both (λ n. r ≡ length (tail n) → take r (tail 1) ≡ tail n) (ap (λ z. take z (tail 1))) (ap (λ z. take z (tail 1))) n o
