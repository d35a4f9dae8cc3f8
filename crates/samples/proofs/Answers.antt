-- The answer by cases: what it is for a call that is refused, and for one that is taken.
use mathlib.Core.Path.{◌≡◌, refl, ap, sym, ◌∙◌}
use mathlib.Core.Bool.{Bool, true, false, not, ◌&&◌}
use mathlib.Core.List.{List}
use Prim.Native.Nat.{ℕ}
use lib.Dec.{T, eqb}
use lib.Ieee.{Float}
use lib.ListN.{length}
use Rattle.bits.specs.Bits.{when◌then◌else◌}
use Rattle.rules.specs.Codes.{bits, code, offered}
use Rattle.answers.specs.Calls.{refusal, unless, Corrected, refused_correct_of}
use Rattle.answers.proofs.Answers.{unless_cases, unless_taken, unless_refused, refusal_not}
use Rattle.magnitudes.specs.Samples.{all_finite}
use Rattle.samples.specs.Answers.{ran_samples, finite_from, samples_answer}

module _ (n : ℕ) (samples : List Float) (limit : ℕ) (out : List ℕ) where
  pub samples_cases : (P : Corrected → Type 0) → P (refused_correct_of out 1) → P (refused_correct_of out 2) → P (refused_correct_of out 3)
      → P (refused_correct_of out 16)
      → (T (offered n && not (eqb n 5)) → length samples ≡ bits (code n) → length out ≡ (code n).octets_of_word → all_finite samples ≡ true
      → P (ran_samples n samples limit out))
      → P (samples_answer n samples limit out)
  unfolding samples_answer
  samples_cases P p1 p2 p3 p16 p =
      unless_cases (offered n && not (eqb n 5)) (length samples) (bits (code n)) (length out) (code n).octets_of_word P
      (refused_correct_of out)
      (finite_from n samples limit out) p1 p2 p3
      (λ t ls lo. go (all_finite samples) (p t ls lo))
    where
      go : (b : Bool) → (b ≡ true → P (ran_samples n samples limit out))
          → P (when b then ran_samples n samples limit out else refused_correct_of out 16)
      go true q = q refl
      go false q = p16

  module _ (t : T (offered n && not (eqb n 5))) (ls : length samples ≡ bits (code n)) (lo : length out ≡ (code n).octets_of_word) where
    from_samples : samples_answer n samples limit out ≡ finite_from n samples limit out
    unfolding samples_answer
    from_samples =
        unless_taken (refused_correct_of out) (finite_from n samples limit out)
        (refusal (offered n && not (eqb n 5)) (length samples) (bits (code n)) (length out) (code n).octets_of_word)
        (refusal_not (offered n && not (eqb n 5)) (length samples) (bits (code n)) (length out) (code n).octets_of_word t ls lo)

    pub samples_taken : all_finite samples ≡ true → samples_answer n samples limit out ≡ ran_samples n samples limit out
    samples_taken f = from_samples ∙ ap (λ b. when b then ran_samples n samples limit out else refused_correct_of out 16) f

    -- an infinite sample, or one that is not a number, is 16
    pub samples_sixteen : all_finite samples ≡ false → samples_answer n samples limit out ≡ refused_correct_of out 16
    samples_sixteen f = from_samples ∙ ap (λ b. when b then ran_samples n samples limit out else refused_correct_of out 16) f

  pub samples_refused : (k : ℕ) → k ≡ refusal (offered n && not (eqb n 5)) (length samples) (bits (code n)) (length out)
      (code n).octets_of_word → (k ≡ 0 → ⊥)
      → samples_answer n samples limit out ≡ refused_correct_of out k
  unfolding samples_answer
  samples_refused k e d =
      ap (λ z. unless z (refused_correct_of out) (finite_from n samples limit out)) (sym e)
      ∙ unless_refused (refused_correct_of out) (finite_from n samples limit out) k d
