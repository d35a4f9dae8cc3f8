-- Octets compared up to a place, and the parts of a unit that is read.
use mathlib.Core.Path.{◌≡◌, refl, sym, ap, ap₂, ◌∙◌, subst}
use mathlib.Core.Bool.{Bool, true, false, ◌&&◌}
use mathlib.Core.List.{List, [], ◌∷◌}
use Prim.Native.Nat.{ℕ, ◌+◌, ◌-◌, ◌*◌, ◌/◌, ◌%◌, ◌≤◌, ◌<◌}
use native.Mathlib.Omega.{arith}
use lib.Dec.{eqb, leb}
use lib.Pointwise.{pointwise}
use mathlib.Core.Logic.{⊎_elim}
use lib.ListN.{length, take, drop, length-drop}
use lib.Seq.{take_all}
use borrow.Author.Tests.{eq-eqb, ne_eqb, le-leb}
use Rattle.bits.proofs.Orders.{eq_or_not}
use Rattle.rules.specs.Codes.{code, code1, code3}
use Rattle.randomiser.specs.Randomiser.{telecommand, randomised}
use Rattle.units.specs.unitrules.Units.{unit_code, tail, same, between, blocks_in_of, shaped, received}
use Rattle.units.proofs.unitrules.Shapes.{both}

-- the library's comparison is the definition's, either way round
pub same_is : (a b : List ℕ) → pointwise eqb a b ≡ same a b
same_is [] [] = refl
same_is [] (y ∷ b) = refl
same_is (x ∷ a) [] = refl
same_is (x ∷ a) (y ∷ b) = ap (λ z. eqb x y && z) (same_is a b)

eqb_turned : (x y : ℕ) → eqb x y ≡ eqb y x
eqb_turned x y = ⊎_elim (λ (e : x ≡ y). eq-eqb x y e ∙ sym (eq-eqb y x (sym e)))
    (λ (d : x ≡ y → ⊥). ne_eqb x y d ∙ sym (ne_eqb y x (λ q. d (sym q)))) (eq_or_not x y)

pub same_turned : (a b : List ℕ) → pointwise eqb a b ≡ same b a
same_turned [] [] = refl
same_turned [] (y ∷ b) = refl
same_turned (x ∷ a) [] = refl
same_turned (x ∷ a) (y ∷ b) = ap₂ ◌&&◌ (eqb_turned x y) (same_turned a b)

-- ---- a codeblock of a unit

room_at : (k long n : ℕ) → unit_code n ≡ true → k < (long - 8 - length (tail n)) / (code n).octets_of_word
    → 8 + k * (code n).octets_of_word + (code n).octets_of_word ≤ long
unfolding code code1 code3 tail
room_at k long = both (λ n. k < (long - 8 - length (tail n)) / (code n).octets_of_word
    → 8 + k * (code n).octets_of_word + (code n).octets_of_word ≤ long)
    (λ h. omega arith) (λ h. omega arith)

pub block_room : (n : ℕ) (unit : List ℕ) (k size : ℕ) → unit_code n ≡ true → k < blocks_in_of n unit → size ≡ (code n).octets_of_word
    → 8 + k * size + size ≤ length unit
block_room n unit k size u h e = subst (λ z. 8 + k * z + z ≤ length unit) (sym e) (room_at k (length unit) n u h)

pub received_is : (n : ℕ) (unit word : List ℕ) (k size : ℕ) → size ≡ (code n).octets_of_word
    → word ≡ take (8 + k * size + size - (8 + k * size)) (drop (8 + k * size) unit)
    → randomised telecommand (k * size) word ≡ received n unit k
received_is n unit word k size e ew =
    let m : 8 + k * size + size - (8 + k * size) ≡ size = omega arith in
    ap (randomised telecommand (k * size)) (ew ∙ ap (λ z. take z (drop (8 + k * size) unit)) m)
    ∙ ap (λ z. randomised telecommand (k * z) (take z (drop (8 + k * z) unit))) e

-- ---- what follows the start

and_none : (p : Bool) → (p && false) ≡ false
and_none true = refl
and_none false = refl

module _ (n : ℕ) (unit : List ℕ) (u : unit_code n ≡ true) where
  some_word : (n : ℕ) → unit_code n ≡ true → 0 < (code n).octets_of_word
  unfolding code code1 code3
  some_word = both (λ n. 0 < (code n).octets_of_word) (omega arith) (omega arith)

  few_at : (long n : ℕ) → unit_code n ≡ true → long < (code n).octets_of_word → long / (code n).octets_of_word ≡ 0
  unfolding code code1 code3
  few_at long = both (λ n. long < (code n).octets_of_word → long / (code n).octets_of_word ≡ 0) (λ h. omega arith) (λ h. omega arith)

  one_at : (long n : ℕ) → unit_code n ≡ true → (code n).octets_of_word ≤ long → 1 ≤ long / (code n).octets_of_word
  unfolding code code1 code3
  one_at long = both (λ n. (code n).octets_of_word ≤ long → 1 ≤ long / (code n).octets_of_word) (λ h. omega arith) (λ h. omega arith)

  pub shaped_few : (rest word : ℕ) → rest ≡ between n unit → word ≡ (code n).octets_of_word → rest < word → shaped n unit ≡ false
  unfolding shaped
  shaped_few rest word er ew h =
      ap (λ z. leb 1 z && (eqb (between n unit % (code n).octets_of_word) 0 && same (drop (8 + between n unit) unit) (tail n)))
      (few_at (between n unit) n u (omega arith))

  pub shaped_rest : (rest word : ℕ) → rest ≡ between n unit → word ≡ (code n).octets_of_word → (rest % word ≡ 0 → ⊥) → shaped n unit ≡ false
  unfolding shaped
  shaped_rest rest word er ew d =
      ap (λ z. leb 1 (blocks_in_of n unit) && (z && same (drop (8 + between n unit) unit) (tail n)))
      (ne_eqb (between n unit % (code n).octets_of_word) 0 (λ q. d (ap₂ (λ x y. x % y) er ew ∙ q)))
      ∙ and_none (leb 1 (blocks_in_of n unit))

  pub shaped_tail : (rest word : ℕ) → rest ≡ between n unit → word ≡ (code n).octets_of_word → word ≤ rest → rest % word ≡ 0
      → shaped n unit ≡ same (take (length unit - (8 + rest)) (drop (8 + rest) unit)) (tail n)
  unfolding shaped
  shaped_tail rest word er ew h e =
      ap₂ (λ x y. x && (y && same (drop (8 + between n unit) unit) (tail n)))
      (le-leb 1 (blocks_in_of n unit) (one_at (between n unit) n u (omega arith)))
      (eq-eqb (between n unit % (code n).octets_of_word) 0 (sym (ap₂ (λ x y. x % y) er ew) ∙ e))
      ∙ ap (λ z. same (drop (8 + z) unit) (tail n)) (sym er)
      ∙ ap (λ z. same z (tail n)) (sym
      (take_all (length unit - (8 + rest)) (drop (8 + rest) unit) (omega (arith, length-drop (8 + rest) unit))))
