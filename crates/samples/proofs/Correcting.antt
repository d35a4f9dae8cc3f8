-- Correct on samples, put together from what the engine ensures.
use mathlib.Core.Path.{◌≡◌, refl, sym, ap, ap₂, ◌∙◌, subst}
use mathlib.Core.Bool.{Bool, true, false, not, ◌&&◌}
use mathlib.Core.List.{List}
use Prim.Native.Nat.{ℕ, ◌<◌}
use native.Mathlib.Nat.{not-suc-le-zero}
use lib.Dec.{T, eqb}
use lib.Ieee.{of_bits, binary32}
use lib.ListN.{length, length-map}
use borrow.Author.Tests.{eq-eqb, ne_eqb}
use Rattle.bits.specs.Bits.{Word, when◌then◌else◌}
use Rattle.rules.specs.Codes.{code, bits, offered}
use Rattle.rules.specs.Checks.{broken, lowest}
use Rattle.rules.specs.Encoding.{written}
use Rattle.rules.specs.Flipping.{Run, run}
use Rattle.rules.proofs.Ways.{run_met}
use Rattle.rules.proofs.Numbers.{whole}
use Rattle.answers.specs.Calls.{refusal, Corrected, differing, judged, ran_correct}
use Rattle.answers.proofs.Answers.{refusal_as}
use Rattle.layout.specs.declared.Shape.{Shape}
use Rattle.catalogue.specs.declared.offer.Offer.{Offer}
use Rattle.catalogue.specs.offer.Offers.{offer_of}
use Rattle.catalogue.proofs.offer.Offers.{offers}
use Rattle.refusals.proofs.Admitted.{steps_by, bits_are, word_long}
use Rattle.magnitudes.specs.Patterns.{samples_of, read, smaller, all_finite}
use Rattle.magnitudes.specs.Sizes.{by_size}
use Rattle.magnitudes.proofs.Patterns.{read_same, way_same}
use Rattle.flipping.specs.runs.Endings.{number_of}
use Rattle.samples.specs.declared.sizing.Ended.{Ended}
use Rattle.samples.specs.sizing.Passing.{SizesTo}
use Rattle.samples.specs.Answers.{ran_samples}
use Rattle.samples.specs.Found.{ran_patterns}
use Rattle.samples.proofs.Promises.{some, sizes_choose}

module _ (n : ℕ) {o : Offer} (is : o ≡ offer_of n) where
  -- the refusal that was worked out is the definition's
  pub samples_refusal : {k : ℕ} (input output : ℕ) → k ≡ refusal o.steps input o.bits output o.word
      → k ≡ refusal (offered n && not (eqb n 5)) input (bits (code n)) output (code n).octets_of_word
  samples_refusal input output e =
      e ∙ refusal_as input output (ap (λ z. z.steps) is ∙ (offers n).steps) (λ f. bits_are n is (first (offered n) _ f))
      (λ f. word_long n is (first (offered n) _ f) refl)
    where
      first : (a b : Bool) → (a && b) ≡ true → a ≡ true
      first true b e = refl
      first false b e = e

  pub patterns_refusal : {k : ℕ} (patterns : List ℕ) (output : ℕ) → k ≡ refusal o.steps (length patterns) o.bits output o.word
      → k ≡ refusal (offered n && not (eqb n 5)) (length (samples_of patterns)) (bits (code n)) output (code n).octets_of_word
  patterns_refusal patterns output e =
      samples_refusal (length (samples_of patterns)) output
      (e ∙ ap (λ l. refusal o.steps l o.bits output o.word) (sym (length-map patterns (of_bits binary32))))

  -- a code of this call sends every bit
  pub all_sent : o.steps ≡ true → (code n).unsent ≡ 0
  all_sent s = (whole n (subst T (sym (steps_by n is s)) tt)).unsent

-- the numbers and the output, one by one
abbrev numbers : ℕ → ℕ → ℕ → ℕ → ℕ → ℕ → List ℕ → Corrected
numbers number flips first last unlike lowest out =
    record { number = number; flips = flips; first = first; last = last; unlike = unlike; lowest = lowest; out = out }

numbers_same : {a a' b b' c c' d d' e e' f f' : ℕ} {o o' : List ℕ} → a ≡ a' → b ≡ b' → c ≡ c' → d ≡ d' → e ≡ e' → f ≡ f' → o ≡ o'
    → numbers a b c d e f o ≡ numbers a' b' c' d' e' f' o'
numbers_same {a} {a'} {b} {b'} {c} {c'} {d} {d'} {e} {e'} {f} {f'} {o} {o'} p q r s t u v =
    ap₂ (λ x y. numbers x y c d e f o) p q ∙ ap₂ (λ x y. numbers a' b' x y e f o) r s
    ∙ ap₂ (λ x y. numbers a' b' c' d' x y o) t u ∙ ap (numbers a' b' c' d' e' f') v

module _ (n : ℕ) (t : T (offered n && not (eqb n 5))) (sh : Shape) (samples : List ℕ) (limit : ℕ) (end : Ended) (x y : Word)
    (read_is : x ≡ read samples)
    (to : SizesTo (code n) sh samples limit x end y) where
  abbrev pub the_run : Run
  the_run = run (by_size (smaller samples) (code n)) limit (read samples)

  same : run (by_size (smaller samples) (code n)) limit x ≡ the_run
  same = ap (run (by_size (smaller samples) (code n)) limit) read_is

  pub ran_number : the_run.number ≡ number_of end.ran.ending
  ran_number = sym (to.runs.number ∙ ap (λ r. r.number) same)

  pub ran_word : the_run.word ≡ y
  ran_word = sym (to.runs.word ∙ ap (λ r. r.word) same)

  pub ran_met : number_of end.ran.ending ≡ 0 → broken (code n) y ≡ 0
  ran_met e = ap (broken (code n)) (sym ran_word) ∙ run_met (sizes_choose n t (smaller samples)) limit (read samples) (ran_number ∙ e)

  pub ran_unsent : (k : ℕ) → k < (code n).unsent → y k ≡ false
  ran_unsent k h = absurd (not-suc-le-zero (subst (λ u. k < u) (whole n t).unsent h))

  module _ (first low number : ℕ) (at_first : first ≡ broken (code n) x) (at_lowest : low ≡ lowest (code n) x)
      (judge : number ≡ judged (code n) the_run) (out out' : List ℕ)
      (wrote : out' ≡ (when eqb number 0 then written (code n) y else out)) where
    pub corrected_is : numbers number end.ran.flips first end.last end.unlike low out' ≡ ran_patterns n samples limit out
    unfolding ran_correct
    corrected_is =
        numbers_same judge (to.runs.flips ∙ ap (λ r. length r.flips) same) (at_first ∙ ap (broken (code n)) read_is)
        (to.last ∙ ap (broken (code n)) (sym ran_word)) (to.differs ∙ ap₂ (differing (code n)) read_is (sym ran_word)) (at_lowest
        ∙ ap (lowest (code n)) read_is)
        (wrote ∙ ap₂ (λ k z. when eqb k 0 then written (code n) z else out) judge (sym ran_word))

-- finite samples run as their patterns do
pub by_patterns : (n : ℕ) → T (offered n && not (eqb n 5)) → (patterns : List ℕ) → length patterns ≡ bits (code n)
    → all_finite patterns ≡ true → (limit : ℕ) (out : List ℕ)
    → ran_patterns n patterns limit out ≡ ran_samples n (samples_of patterns) limit out
by_patterns n t patterns long finite limit out =
    ap₂ (λ x way. ran_correct (code n) x (run way limit x) out) (sym (read_same patterns finite))
    (sym (way_same patterns finite (code n) (some n t) long))

-- the output of a run that was taken, and of one that was refused
pub wrote_word : (number : ℕ) (w out out' : List ℕ) → number ≡ 0 → out' ≡ w → out' ≡ (when eqb number 0 then w else out)
wrote_word number w out out' e f = f ∙ sym (ap (λ b. when b then w else out) (eq-eqb number 0 e))

pub wrote_none : (number : ℕ) (w out : List ℕ) → (number ≡ 0 → ⊥) → out ≡ (when eqb number 0 then w else out)
wrote_none number w out d = sym (ap (λ b. when b then w else out) (ne_eqb number 0 d))
