-- Codes 4 and 5: the walk of the checks of the information, inverted where the ones of whole blocks say so, is the encoder's parity.
use mathlib.Core.Path.{◌≡◌, refl, sym, ap, ap₂, ◌∙◌, fun_ext}
use mathlib.Core.Bool.{Bool, false, ◌&&◌}
use mathlib.Core.List.{[]}
use Prim.Native.Nat.{ℕ, zero, suc, ◌+◌, ◌/◌, ◌%◌, ◌≤◌, ◌<◌}
use native.Mathlib.Nat.{zero-lt-suc, add-zero, mod-eq_of_lt, div-lt_iff_lt-mul}
use native.Mathlib.Omega.{arith}
use lib.Dec.{T}
use lib.ListN.{get_or}
use Rattle.bits.specs.Bits.{Word, digit, ◌⊕◌, sum}
use Rattle.bits.proofs.Sums.{⊕-false, ⊕-self, ⊕-assoc}
use Rattle.rules.specs.Tables.{parity511, generator511}
use Rattle.rules.specs.Codes.{Code, near_earth}
use Rattle.rules.specs.Encoding.{parity_bit}
use Rattle.rules.proofs.Unique.{even}
use Rattle.rules.proofs.Published.{near_tests, near_inverted, near_inverted_lem}
use Rattle.word.specs.ownparity.Odd.{counted, odd_together_of}
use Rattle.word.proofs.ownparity.Near.{together_inverted}
use Rattle.encoder.specs.steps.Steps.{walked, check_rows, steps511}
use Rattle.encoder.proofs.steps.Walk.{weighted}
use Rattle.encoder.proofs.steps.Facts.{others, facts511}
use Rattle.encoder.proofs.steps.Solved.{by_others, checks_even, finished, finished_met, finished_odd, ending_parity}

-- every block of a row has two shifts
rows_even : (r : ℕ) → r < 2 → T (even (get_or parity511 r []))
unfolding parity511
rows_even zero h = tt
rows_even (suc zero) h = tt
rows_even (suc (suc r)) h = absurd (omega arith)

twice_added : (a b : Bool) → a ⊕ b ⊕ b ≡ a
twice_added a b = ⊕-assoc a b b ∙ ap (λ z. a ⊕ z) (⊕-self b) ∙ ⊕-false a

module _ (octets_of_word octets_of_information unsent : ℕ) (y : Word) (short : (n : ℕ) → 7154 ≤ n → y n ≡ false) where
  abbrev c : Code
  c = near_earth octets_of_word octets_of_information unsent

  rows : (r : ℕ) → r < 2 → sum 511 (check_rows c y r) ≡ false
  unfolding parity511 generator511
  rows r h =
      checks_even octets_of_word octets_of_information unsent 510 parity511 generator511 512 14 1 0 others steps511
      (near_tests octets_of_word octets_of_information unsent).shape refl refl tt facts511
      y r h (rows_even r h)

  weighs : (r i : ℕ) → r < 2 → i < 511 → weighted 511 others (check_rows c y r) i ≡ check_rows c y r i
  weighs r i hr hi = by_others 510 (check_rows c y r) i hi (rows r hr)

  whole : Word
  unfolding parity511 generator511
  whole =
      finished octets_of_word octets_of_information unsent 510 parity511 generator511 512 14 1 0 others steps511
      (near_tests octets_of_word octets_of_information unsent).shape refl refl tt facts511
      y short weighs

  pub walk_near : (p : ℕ) → p < 1022
      → walked 511 steps511 15 (check_rows c y) ((p / 511 + 0) % 2) (p % 511) ⊕ odd_together_of y ((p / 511 + 0) % 2) ≡ parity_bit c y p
  unfolding parity511 generator511 whole
  walk_near p l =
      let b = p / 511 in
      let hb : b < 2 = (div-lt_iff_lt-mul (zero-lt-suc 510)).1 l in
      let met = finished_met octets_of_word octets_of_information unsent 510 parity511 generator511 512 14 1 0 others steps511
      (near_tests octets_of_word octets_of_information unsent).shape refl refl tt facts511 y short weighs in
      ap₂ (λ u v. u ⊕ v)
      (ending_parity octets_of_word octets_of_information unsent 510 parity511 generator511 512 14 1 0 others steps511
      (near_tests octets_of_word octets_of_information unsent).shape refl refl tt facts511 y short weighs
      (near_inverted octets_of_word octets_of_information unsent whole) p
      (near_inverted_lem octets_of_word octets_of_information unsent whole met p l))
      (ap (odd_together_of y) (ap (λ z. z % 2) (add-zero b) ∙ mod-eq_of_lt hb)
      ∙ sym (ap (sum 16) (fun_ext (λ j. ap (λ z. digit 16 (get_or counted b 0) j && z)
      (finished_odd octets_of_word octets_of_information unsent 510 parity511 generator511 512 14 1 0 others steps511
      (near_tests octets_of_word octets_of_information unsent).shape refl refl tt facts511 y short weighs rows j))))
      ∙ together_inverted octets_of_word octets_of_information unsent whole met b hb)
      ∙ twice_added (parity_bit c y p) (near_inverted octets_of_word octets_of_information unsent whole b)
