-- A stream of markers and randomised codewords of code 5.
use mathlib.Core.Path.{◌≡◌, refl, ap, ap₂, ◌∙◌}
use mathlib.Core.Bool.{Bool, true, false, ◌&&◌}
use mathlib.Core.List.{List, [], ◌∷◌, ◌++◌}
use Prim.Native.Nat.{ℕ, zero, suc, ◌+◌, ◌-◌, ◌<◌}
use lib.Dec.{eqb}
use lib.ListN.{length, take, drop, replicate, length-replicate}
use Rattle.bits.specs.Bits.{bit, when◌then◌else◌}
use Rattle.bits.proofs.Octets.{Octets}
use Rattle.rules.specs.Codes.{code, code5, checks}
use Rattle.rules.specs.Encoding.{codeword, lifted, written}
use Rattle.rules.specs.Flipping.{by_excess, run}
use Rattle.answers.specs.Calls.{Corrected, judged, ran_correct, correct_answer}
use Rattle.answers.proofs.Answers.{correct_cases}
use borrow.Author.Tests.{ne_eqb}
use Rattle.answers.proofs.Corrections.{codeword_back}
use Rattle.randomiser.specs.Randomiser.{Generator, randomised}
use Rattle.randomiser.proofs.Randomising.{length_randomised, randomised_twice}
use Rattle.telemetry.specs.taker.Stream.{marker, begins, answered, Found, found_from, found}
use Rattle.telemetry.specs.sequences.Telemetry.{generator_of}
use Rattle.telemetry.specs.taker.Taking.{Told, fresh_taker, matched}
use Rattle.telemetry.proofs.taker.Laws.{four, if_isnt}
use Rattle.telemetry.proofs.taker.Streams.{found_word}
use Rattle.telemetry.proofs.taker.Calls.{joined, calls, asked}
use Rattle.telemetry.proofs.taker.Same.{cut_as_found}

-- a codeword of code 5
pub record IsCodeword (word : List ℕ) : Type 0 where
  pub long : length word ≡ 1020
  pub octets : Octets word
  pub is : codeword (code 5) (bit word) ≡ true

abbrev pub AllCodewords : List (List ℕ) → Type 0
AllCodewords [] = Unit {0}
AllCodewords (word ∷ words) = IsCodeword word × AllCodewords words

-- The stream of some words: each behind a marker, randomised from the sequence's start.
unfoldable pub sent : Generator → List (List ℕ) → List ℕ
sent g [] = []
sent g (word ∷ words) = marker ++ (randomised g 0 word ++ sent g words)

-- Each word as it was, with 0 flips; no check is broken, so the lowest is their number.
abbrev pub unchanged : List ℕ → Corrected
unchanged word = record { number = 0; flips = 0; first = 0; last = 0; unlike = 0; lowest = checks (code 5); out = word }

unfoldable pub back_from : ℕ → List (List ℕ) → List Found
back_from at [] = []
back_from at (word ∷ words) = record { offset = at + 4; corrected = unchanged word } ∷ back_from (at + 1024) words

module _ (g : Generator) (limit : ℕ) where
  -- a randomised codeword answers as it was
  pub answered_back : (word : List ℕ) → IsCodeword word → answered g limit (randomised g 0 word) ≡ unchanged word
  unfolding answered code code5
  answered_back word w =
      ap (λ z. correct_answer 5 z limit (replicate 1020 0)) (randomised_twice g 0 word w.octets)
      ∙ codeword_back 5 tt word (replicate 1020 0) w.long (length-replicate {A = ℕ} 1020 0) w.octets w.is limit

  sent_from : (words : List (List ℕ)) → AllCodewords words → (at : ℕ) → found_from g limit 0 at (sent g words) ≡ back_from at words
  unfolding sent back_from found_from
  sent_from [] all at = refl
  sent_from (word ∷ words) all at =
      found_word g limit at (randomised g 0 word) (sent g words) (length_randomised g 0 word ∙ all.0.long)
      ∙ ap₂ (λ r rest. record { offset = at + 4; corrected = r } ∷ rest) (answered_back word all.0)
      (sent_from words all.1 (at + 1024))

  -- the words come back, each with 0 flips, whatever the limit
  pub sent_back : (words : List (List ℕ)) → AllCodewords words → found g limit (sent g words) ≡ back_from 0 words
  sent_back words all = sent_from words all 0

-- so a taker that is told the edition hands them out, however the stream is cut
pub cut_back : (told : Told) (words : List (List ℕ)) → AllCodewords words → (parts : List (List ℕ)) → joined parts
    ≡ sent (generator_of told.edition) words
    → (n : ℕ) → calls parts < n → asked n (fresh_taker told) 0 [] parts ≡ back_from 0 words
cut_back told words all parts e n enough =
    let g = generator_of told.edition in
    cut_as_found told parts n enough ∙ ap (found g told.limit) e ∙ sent_back g told.limit words all

-- ---- a refused word is not handed out

pub refused_zeros : (g : Generator) (limit : ℕ) (octets : List ℕ) → ((answered g limit octets).number ≡ 0 → ⊥)
    → (answered g limit octets).out ≡ replicate 1020 0
unfolding answered ran_correct
refused_zeros g limit octets =
    let out : List ℕ = replicate 1020 0 in
    correct_cases 5 (randomised g 0 octets) limit out (λ r. (r.number ≡ 0 → ⊥) → r.out ≡ out) (λ _. refl) (λ _. refl) (λ _. refl)
    (λ t lw lo d.
    let c = code 5 in
    let r = run (by_excess c) limit (lifted c (bit (randomised g 0 octets))) in
    if_isnt (eqb (judged c r) 0) (written c r.word) out (ne_eqb (judged c r) 0 d))

-- ---- the octets matched are the longest front of the marker that what was searched ends with

-- The greatest k, up to so many, for which the last k octets are the marker's first k.
abbrev pub longest : ℕ → List ℕ → ℕ
longest zero seen = 0
longest (suc k) seen = when begins (take (suc k) marker) (drop (length seen - suc k) seen) then suc k else longest k seen

pub matched_longest : (m : ℕ) → m < 4 → (o : ℕ) → longest 4 (take m marker ++ (o ∷ [])) ≡ matched m o
matched_longest =
    four (λ m. (o : ℕ) → longest 4 (take m marker ++ (o ∷ [])) ≡ matched m o)
    (λ o. zeroth (eqb o 0x1A)) (λ o. first (eqb o 0xCF) (eqb o 0x1A)) (λ o. second (eqb o 0xFC) (eqb o 0x1A))
    (λ o. third (eqb o 0x1D) (eqb o 0x1A))
  where
    zeroth : (b : Bool)
        → ◌≡◌ {A = ℕ} (when b && false then 4 else when b && false then 3 else when b && false then 2 else when b && true then 1
        else 0) (when b then 1 else when b then 1 else 0)
    zeroth true = refl
    zeroth false = refl

    first : (a b : Bool)
        → ◌≡◌ {A = ℕ} (when a && false then 4 else when a && false then 3 else when a && true then 2 else when b && true then 1
        else 0) (when a then 2 else when b then 1 else 0)
    first true b = refl
    first false true = refl
    first false false = refl

    second : (a b : Bool)
        → ◌≡◌ {A = ℕ} (when a && false then 4 else when a && true then 3 else when false then 2 else when b && true then 1 else
        0) (when a then 3 else when b then 1 else 0)
    second true b = refl
    second false true = refl
    second false false = refl

    third : (a b : Bool)
        → ◌≡◌ {A = ℕ} (when a && true then 4 else when false then 3 else when false then 2 else when b && true then 1 else 0)
        (when a then 4 else when b then 1 else 0)
    third true b = refl
    third false true = refl
    third false false = refl
