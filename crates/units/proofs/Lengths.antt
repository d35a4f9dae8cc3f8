-- The lengths of units, as the calls compute them.
use mathlib.Core.Path.{◌≡◌, refl, sym, ap, ◌∙◌, subst}
use mathlib.Core.Bool.{Bool, true, false, not}
use mathlib.Core.List.{List}
use Prim.Native.Nat.{ℕ, ◌^◌, ◌≤◌, ◌<◌}
use native.Mathlib.Omega.{arith}
use native.Mathlib.Decide.{dec_lt}
use native.Mathlib.Nat.{lt_of_not-le}
use lib.Dec.{eqb, ltb}
use lib.ListN.{length}
use borrow.Author.Tests.{eq-eqb, ne_eqb, eqb-true, lt-ltb, le-ltb}
use Rattle.bits.specs.Bits.{when◌then◌else◌}
use Rattle.answers.specs.Calls.{Encoded}
use Rattle.units.specs.unitrules.Units.{unit_code, unit, unit_length, unit_octets_of, write_answer}
use Rattle.units.proofs.unitrules.Answering.{if_is, if_isnt, not_is, not_isnt}
use Rattle.units.specs.Numbers.{write_number_of}

module _ (n long : ℕ) where
  pub octets_other : unit_code n ≡ false → unit_octets_of n long ≡ 0
  unfolding unit_octets_of
  octets_other e = not_isnt (unit_code n) 0 _ e

  pub octets_none : unit_code n ≡ true → long ≡ 0 → unit_octets_of n long ≡ 0
  unfolding unit_octets_of
  octets_none u e = not_is (unit_code n) 0 _ u ∙ if_is (eqb long 0) 0 _ (eq-eqb long 0 e)

  pub octets_fit : unit_code n ≡ true → (long ≡ 0 → ⊥) → unit_length n long < 2 ^ 64 → unit_octets_of n long ≡ unit_length n long
  unfolding unit_octets_of
  octets_fit u d h =
      not_is (unit_code n) 0 _ u ∙ if_isnt (eqb long 0) 0 _ (ne_eqb long 0 d)
      ∙ not_is (ltb (unit_length n long) (2 ^ 64)) 0 (unit_length n long) (lt-ltb (unit_length n long) (2 ^ 64) h)

  pub octets_great : unit_code n ≡ true → (long ≡ 0 → ⊥) → 2 ^ 64 ≤ unit_length n long → unit_octets_of n long ≡ 0
  unfolding unit_octets_of
  octets_great u d h =
      not_is (unit_code n) 0 _ u ∙ if_isnt (eqb long 0) 0 _ (ne_eqb long 0 d)
      ∙ not_isnt (ltb (unit_length n long) (2 ^ 64)) 0 (unit_length n long) (le-ltb (unit_length n long) (2 ^ 64) h)

-- ---- the writer's number

abbrev ladder : Bool → Bool → Bool → ℕ
ladder a b c = when not a then 1 else when b then 2 else when not c then 3 else 0

module _ (n long room : ℕ) where
  pub number_one : unit_code n ≡ false → write_number_of n long room ≡ 1
  unfolding write_number_of
  number_one e = not_isnt (unit_code n) 1 _ e

  module _ (u : unit_code n ≡ true) where
    pub number_two : long ≡ 0 → write_number_of n long room ≡ 2
    unfolding write_number_of
    number_two e = not_is (unit_code n) 1 _ u ∙ if_is (eqb long 0) 2 _ (eq-eqb long 0 e)

    module _ (d : long ≡ 0 → ⊥) where
      pub number_three : (room ≡ unit_length n long → ⊥) → write_number_of n long room ≡ 3
      unfolding write_number_of
      number_three x =
          not_is (unit_code n) 1 _ u ∙ if_isnt (eqb long 0) 2 _ (ne_eqb long 0 d)
          ∙ not_isnt (eqb room (unit_length n long)) 3 0 (ne_eqb room (unit_length n long) x)

      pub number-none : room ≡ unit_length n long → write_number_of n long room ≡ 0
      unfolding write_number_of
      number-none x =
          not_is (unit_code n) 1 _ u ∙ if_isnt (eqb long 0) 2 _ (ne_eqb long 0 d)
          ∙ not_is (eqb room (unit_length n long)) 3 0 (eq-eqb room (unit_length n long) x)

  -- by number 0 alone: the code is a unit's, and the room as long as needed
  pub none_says : write_number_of n long room ≡ 0 → (unit_code n ≡ true) × (room ≡ unit_length n long)
  unfolding write_number_of
  none_says e = let b = says (unit_code n) (eqb long 0) (eqb room (unit_length n long)) e in (b.0, eqb-true room (unit_length n long) b.1)
    where
      says : (a b c : Bool) → ladder a b c ≡ 0 → (a ≡ true) × (c ≡ true)
      says true true c e = absurd (omega (arith, e))
      says true false true e = (refl, refl)
      says true false false e = absurd (omega (arith, e))
      says false b c e = absurd (omega (arith, e))

-- the answer by its number
module _ (n : ℕ) (information out : List ℕ) where
  abbrev numbered : ℕ → Encoded
  numbered r = when eqb r 0 then record { number = 0; out = unit n information } else record { number = r; out = out }

  write_by : write_answer n information out ≡ numbered (write_number_of n (length information) (length out))
  unfolding write_answer write_number_of
  write_by = by (unit_code n) (eqb (length information) 0) (eqb (length out) (unit_length n (length information)))
    where
      by : (a b c : Bool) → (when not a then record { number = 1; out = out }
          else when b then record { number = 2; out = out }
          else when not c then record { number = 3; out = out }
          else record { number = 0; out = unit n information }) ≡ numbered (ladder a b c)
      by true true c = refl
      by true false true = refl
      by true false false = refl
      by false b c = refl

  module _ (r : ℕ) (e : r ≡ write_number_of n (length information) (length out)) where
    pub write_refused : (r ≡ 0 → ⊥) → write_answer n information out ≡ record { number = r; out = out }
    write_refused d = write_by ∙ ap numbered (sym e)
        ∙ if_isnt (eqb r 0) (record { number = 0; out = unit n information }) (record { number = r; out = out }) (ne_eqb r 0 d)

    pub write_done : r ≡ 0 → write_answer n information out ≡ record { number = 0; out = unit n information }
    write_done z = write_by ∙ ap numbered (sym e)
        ∙ if_is (eqb r 0) (record { number = 0; out = unit n information }) (record { number = r; out = out }) (eq-eqb r 0 z)

-- a length that is given is the unit's
pub octets_some : (n long r : ℕ) → unit_code n ≡ true → (long ≡ 0 → ⊥) → r ≡ unit_octets_of n long → (r ≡ 0 → ⊥) → r ≡ unit_length n long
octets_some n long r u d e some = go (dec_lt (unit_length n long) (2 ^ 64))
  where
    go : Dec (unit_length n long < 2 ^ 64) → r ≡ unit_length n long
    go (yes h) = e ∙ octets_fit n long u d h
    go (no g) = absurd (some (e ∙ octets_great n long u d (omega (arith, lt_of_not-le g))))

-- and an output as long as the unit has the length that is given
pub octets_given : (n long r room : ℕ) → unit_code n ≡ true → (long ≡ 0 → ⊥) → r ≡ unit_octets_of n long → room < 2 ^ 64
    → room ≡ unit_length n long → room ≡ r
octets_given n long r room u d e h q = q ∙ sym (e ∙ octets_fit n long u d (subst (λ z. z < 2 ^ 64) q h))
