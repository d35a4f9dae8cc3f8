-- The reader's answers by cases.
use mathlib.Core.Path.{◌≡◌, refl, ap, ◌∙◌}
use mathlib.Core.Bool.{Bool, true, false, not}
use mathlib.Core.List.{List}
use Prim.Native.Nat.{ℕ, ◌≤◌, ◌<◌}
use lib.Dec.{eqb, ltb}
use lib.ListN.{length, replicate}
use borrow.Author.Tests.{eq-eqb, ne_eqb, lt-ltb, le-ltb, not-false}
use Rattle.bits.specs.Bits.{when◌then◌else◌}
use Rattle.rules.specs.Codes.{code}
use Rattle.answers.specs.Calls.{Corrected, refused_correct_of, correct_answer}
use Rattle.units.specs.unitrules.Units.{unit_code, started, shaped, blocks_in_of, received, Reading}
use Rattle.units.specs.unitrules.Units.{Handed, with_out, handed_out, handed_last_of}
use Rattle.units.specs.unitrules.Units.{handed_again_of, read_next_of, read_answer, reader_number_of}

pub if_is : {A : Type 0} (b : Bool) (a r : A) → b ≡ true → (when b then a else r) ≡ a
if_is b a r e = ap (λ b. when b then a else r) e

pub if_isnt : {A : Type 0} (b : Bool) (a r : A) → b ≡ false → (when b then a else r) ≡ r
if_isnt b a r e = ap (λ b. when b then a else r) e

pub not_is : {A : Type 0} (b : Bool) (a r : A) → b ≡ true → (when not b then a else r) ≡ r
not_is b a r e = ap (λ b. when not b then a else r) e

pub not_isnt : {A : Type 0} (b : Bool) (a r : A) → b ≡ false → (when not b then a else r) ≡ a
not_isnt b a r e = ap (λ b. when not b then a else r) e

pub if_cases : {A : Type 0} (P : A → Type 0) (b : Bool) (a r : A) → (b ≡ true → P a) → (b ≡ false → P r) → P (when b then a else r)
if_cases P true a r p q = p refl
if_cases P false a r p q = q refl

module _ (n : ℕ) (unit : List ℕ) where
  pub number_one : unit_code n ≡ false → reader_number_of n unit ≡ 1
  unfolding reader_number_of
  number_one e = not_isnt (unit_code n) 1 _ e

  pub number_eleven : unit_code n ≡ true → started unit ≡ false → reader_number_of n unit ≡ 11
  unfolding reader_number_of
  number_eleven u e = not_is (unit_code n) 1 _ u ∙ not_isnt (started unit) 11 _ e

  pub number_twelve : unit_code n ≡ true → started unit ≡ true → shaped n unit ≡ false → reader_number_of n unit ≡ 12
  unfolding reader_number_of
  number_twelve u e d = not_is (unit_code n) 1 _ u ∙ not_is (started unit) 11 _ e ∙ not_isnt (shaped n unit) 12 0 d

  pub number-none : unit_code n ≡ true → started unit ≡ true → shaped n unit ≡ true → reader_number_of n unit ≡ 0
  unfolding reader_number_of
  number-none u e d = not_is (unit_code n) 1 _ u ∙ not_is (started unit) 11 _ e ∙ not_is (shaped n unit) 12 0 d

module _ (s : Reading) (unit out : List ℕ) where
  pub read_one : unit_code s.code ≡ false → read_answer s unit out ≡ handed_again_of s (refused_correct_of out 1) false
  unfolding read_answer
  read_one e = not_isnt (unit_code s.code) (handed_again_of s (refused_correct_of out 1) false) _ e

  pub read_three : unit_code s.code ≡ true → (length out ≡ (code s.code).octets_of_information → ⊥)
      → read_answer s unit out ≡ handed_again_of s (refused_correct_of out 3) false
  unfolding read_answer
  read_three u d =
      not_is (unit_code s.code) (handed_again_of s (refused_correct_of out 1) false) _ u
      ∙ not_isnt (eqb (length out) (code s.code).octets_of_information) (handed_again_of s (refused_correct_of out 3) false) _
      (ne_eqb (length out) (code s.code).octets_of_information d)

  module _ (u : unit_code s.code ≡ true) (lo : length out ≡ (code s.code).octets_of_information) where
    pub read_kept : (s.kept.number ≡ 0 → ⊥) → read_answer s unit out ≡ handed_again_of s (with_out s.kept out) false
    unfolding read_answer
    read_kept d =
        not_is (unit_code s.code) (handed_again_of s (refused_correct_of out 1) false) _ u
        ∙ not_is (eqb (length out) (code s.code).octets_of_information) (handed_again_of s (refused_correct_of out 3) false) _
        (eq-eqb (length out) (code s.code).octets_of_information lo)
        ∙ not_isnt (eqb s.kept.number 0) (handed_again_of s (with_out s.kept out) false) _ (ne_eqb s.kept.number 0 d)

    pub read_none : s.kept.number ≡ 0 → blocks_in_of s.code unit ≤ s.place
        → read_answer s unit out ≡ handed_again_of s (refused_correct_of out 0) true
    unfolding read_answer
    read_none z h =
        not_is (unit_code s.code) (handed_again_of s (refused_correct_of out 1) false) _ u
        ∙ not_is (eqb (length out) (code s.code).octets_of_information) (handed_again_of s (refused_correct_of out 3) false) _
        (eq-eqb (length out) (code s.code).octets_of_information lo)
        ∙ not_is (eqb s.kept.number 0) (handed_again_of s (with_out s.kept out) false) _ (eq-eqb s.kept.number 0 z)
        ∙ not_isnt (ltb s.place (blocks_in_of s.code unit)) (handed_again_of s (refused_correct_of out 0) true) (read_next_of s unit out)
        (le-ltb s.place (blocks_in_of s.code unit) h)

    pub read_more : s.kept.number ≡ 0 → s.place < blocks_in_of s.code unit → read_answer s unit out ≡ read_next_of s unit out
    unfolding read_answer
    read_more z h =
        not_is (unit_code s.code) (handed_again_of s (refused_correct_of out 1) false) _ u
        ∙ not_is (eqb (length out) (code s.code).octets_of_information) (handed_again_of s (refused_correct_of out 3) false) _
        (eq-eqb (length out) (code s.code).octets_of_information lo)
        ∙ not_is (eqb s.kept.number 0) (handed_again_of s (with_out s.kept out) false) _ (eq-eqb s.kept.number 0 z)
        ∙ not_is (ltb s.place (blocks_in_of s.code unit)) (handed_again_of s (refused_correct_of out 0) true) (read_next_of s unit out)
        (lt-ltb s.place (blocks_in_of s.code unit) h)

  -- the next codeblock, by what correct answers
  abbrev pub corrected_at : Corrected
  corrected_at = correct_answer s.code (received s.code unit s.place) s.limit (replicate (code s.code).octets_of_word 0)

  pub next_out : (r : Corrected) → corrected_at ≡ r → r.number ≡ 0 → read_next_of s unit out ≡ handed_out s r
  unfolding read_next_of
  next_out r e z = ap (λ r. when eqb r.number 0 then handed_out s r else handed_last_of s r out) e
      ∙ if_is (eqb r.number 0) (handed_out s r) (handed_last_of s r out) (eq-eqb r.number 0 z)

  pub next_last : (r : Corrected) → corrected_at ≡ r → (r.number ≡ 0 → ⊥) → read_next_of s unit out ≡ handed_last_of s r out
  unfolding read_next_of
  next_last r e d = ap (λ r. when eqb r.number 0 then handed_out s r else handed_last_of s r out) e
      ∙ if_isnt (eqb r.number 0) (handed_out s r) (handed_last_of s r out) (ne_eqb r.number 0 d)

  -- an answer by its ladder
  pub read_cases : (P : Handed → Type 0) → P (handed_again_of s (refused_correct_of out 1) false)
      → P (handed_again_of s (refused_correct_of out 3) false)
      → P (handed_again_of s (with_out s.kept out) false) → P (handed_again_of s (refused_correct_of out 0) true)
      → (unit_code s.code ≡ true → P (handed_out s corrected_at)) → (unit_code s.code ≡ true → P (handed_last_of s corrected_at out))
      → P (read_answer s unit out)
  unfolding read_answer read_next_of
  read_cases P p1 p3 kept none handed last =
      if_cases P (not (unit_code s.code)) _ _ (λ e. p1) (λ e.
      if_cases P (not (eqb (length out) (code s.code).octets_of_information)) _ _ (λ _. p3) (λ _.
      if_cases P (not (eqb s.kept.number 0)) _ _ (λ _. kept) (λ _.
      if_cases P (not (ltb s.place (blocks_in_of s.code unit))) _ _ (λ _. none) (λ _.
      if_cases P (eqb corrected_at.number 0) (handed_out s corrected_at) (handed_last_of s corrected_at out)
      (λ _. handed (not-false (unit_code s.code) e)) (λ _. last (not-false (unit_code s.code) e))))))
