-- Numbers that are never given: 7 by no code, and by the telecommand codes, whose runs that end quiet are never refused, no 8.
use mathlib.Core.Path.{◌≡◌, refl, sym, ap, ap₂, ◌∙◌, subst}
use mathlib.Core.Bool.{Bool, true, false, not}
use mathlib.Core.List.{List}
use Prim.Native.Nat.{ℕ, ◌<◌}
use native.Mathlib.Nat.{not-suc-le-zero, le_of_eq}
use native.Mathlib.Omega.{arith}
use lib.Dec.{T, ltb}
use borrow.Author.Tests.{eq-eqb, le-ltb}
use Rattle.bits.proofs.Counting.{count_none}
use Rattle.bits.specs.Bits.{Word, bit, count, when◌then◌else◌}
use Rattle.rules.specs.Codes.{Code, code, telecommanded}
use Rattle.rules.specs.Encoding.{lifted, sent, codeword}
use Rattle.rules.specs.Flipping.{quiet, Way, Run, run}
use Rattle.answers.specs.Calls.{judged, ran_correct, correct_answer}
use Rattle.rules.proofs.Runs.{run_ends, End, ends_quiet, ends_stuck, ends_limit}
use Rattle.rules.proofs.Ways.{Chooses, run_unsent}
use Rattle.rules.proofs.Codewords.{own_codeword, lifted_unsent}
use Rattle.answers.proofs.Answers.{correct_cases}
use Rattle.rules.proofs.Numbers.{published, telecommand_offered, telecommand_whole, whole, met_own_telecommand}
use Rattle.answers.proofs.Corrections.{judged_done, judged_other, chooses}

module _ (n : ℕ) (t : T (telecommanded n)) {way : Way} (ch : Chooses (code n) way) (limit : ℕ) (x : Word) where
  abbrev the_run : Run
  the_run = run way limit x

  done : the_run.number ≡ 0 → way the_run.word ≡ quiet → judged (code n) the_run ≡ 0
  done e w =
      judged_done (code n) the_run e
      (λ k h. absurd (not-suc-le-zero (subst (λ u. k < u) (whole n (telecommand_whole n t)).unsent h)))
      (own_codeword (code n) (published n (telecommand_offered n t)) the_run.word
      (met_own_telecommand n t the_run.word (ch.quiet_met the_run.word w))
      (λ k h. absurd (not-suc-le-zero (subst (λ u. k < u) (whole n (telecommand_whole n t)).unsent h))))

  -- 0, 5 or 6, as the run has it
  pub few_numbers : (k : ℕ) → judged (code n) the_run ≡ k → (k ≡ 7 → ⊥) × (k ≡ 8 → ⊥)
  few_numbers k e = go (run_ends way limit x)
    where
      go : End way limit the_run → (k ≡ 7 → ⊥) × (k ≡ 8 → ⊥)
      go (ends_quiet f w) = let z = done f w in ((λ q. omega arith), (λ q. omega arith))
      go (ends_stuck f b ex w) = let z = judged_other (code n) the_run 5 f (λ q. omega arith) in ((λ q. omega arith), (λ q. omega arith))
      go (ends_limit f l b ex w) = let z = judged_other (code n) the_run 6 f (λ q. omega arith) in ((λ q. omega arith), (λ q. omega arith))

-- correct gives neither 7 nor 8 for codes 1 to 3
pub telecommand_numbers : (n : ℕ) → T (telecommanded n) → (word : List ℕ) (limit : ℕ) (out : List ℕ)
    → ((correct_answer n word limit out).number ≡ 7 → ⊥) × ((correct_answer n word limit out).number ≡ 8 → ⊥)
unfolding ran_correct
telecommand_numbers n t word limit out =
    correct_cases n word limit out (λ r. (r.number ≡ 7 → ⊥) × (r.number ≡ 8 → ⊥))
    ((λ q. omega arith), (λ q. omega arith)) ((λ q. omega arith), (λ q. omega arith)) ((λ q. omega arith), (λ q. omega arith))
    (λ off lw lo. few_numbers n t (chooses n off) limit (lifted (code n) (bit word)) _ refl)

-- ---- number 7 never occurs

-- no run sets a bit that is not sent, so none is 1 at its end
module _ (c : Code) {way : Way} (ch : Chooses c way) (limit : ℕ) (x : Word) (none : (k : ℕ) → k < c.unsent → x k ≡ false) where
  pub unsent_stay : (k : ℕ) → k < c.unsent → (run way limit x).word k ≡ false
  unsent_stay k h = run_unsent ch limit x k h ∙ none k h

  pub never_seven : judged c (run way limit x) ≡ 7 → ⊥
  never_seven e = go (run_ends way limit x)
    where
      go : End way limit (run way limit x) → ⊥
      go (ends_quiet f w) = by (codeword c (sent c (run way limit x).word)) refl
        where
          spelled : (b : Bool) → codeword c (sent c (run way limit x).word) ≡ b → ◌≡◌ {A = ℕ} (when not b then 8 else 0) 7
          spelled b is =
              sym (ap (λ p. when not p then (run way limit x).number else when ltb 0 (count c.unsent (run way limit x).word) then 7 else
              when not (codeword c (sent c (run way limit x).word)) then 8 else 0) (eq-eqb (run way limit x).number 0 f)
              ∙ ap₂ (λ q s. when q then 7 else when not s then 8 else 0)
              (le-ltb 0 (count c.unsent (run way limit x).word)
              (le_of_eq (count_none c.unsent (run way limit x).word unsent_stay))) is) ∙ e

          by : (b : Bool) → codeword c (sent c (run way limit x).word) ≡ b → ⊥
          by true is = let z = spelled true is in omega arith
          by false is = let z = spelled false is in omega arith
      go (ends_stuck f b ex w) = let z = judged_other c (run way limit x) 5 f (λ q. omega arith) in omega arith
      go (ends_limit f l b ex w) = let z = judged_other c (run way limit x) 6 f (λ q. omega arith) in omega arith

pub seven_never_given : (n : ℕ) (word : List ℕ) (limit : ℕ) (out : List ℕ) → (correct_answer n word limit out).number ≡ 7 → ⊥
unfolding ran_correct
seven_never_given n word limit out =
    correct_cases n word limit out (λ r. r.number ≡ 7 → ⊥) (λ q. omega arith) (λ q. omega arith) (λ q. omega arith)
    (λ off lw lo. never_seven (code n) (chooses n off) limit (lifted (code n) (bit word)) (lifted_unsent (code n) (bit word)))
