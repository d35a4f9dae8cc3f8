-- Step and correct: a step changes exactly one bit, and as many steps as flips give correct's word.
use mathlib.Core.Path.{◌≡◌, refl, sym, ap, ap₂, ◌∙◌, subst}
use mathlib.Core.Bool.{Bool, true, false, not, ◌&&◌}
use mathlib.Core.List.{List}
use Prim.Native.Nat.{ℕ, zero, suc, ◌*◌, ◌<◌}
use native.Mathlib.Omega.{arith}
use lib.Dec.{T, eqb, ltb}
use lib.IntN.{ℤ}
use lib.ListN.{length}
use borrow.Author.Tests.{ne_eqb, eqb-true}
use Rattle.bits.specs.Bits.{Word, bit, count, ◌⊕◌, flipped, when◌then◌else◌}
use Rattle.rules.specs.Codes.{Code, code, bits, offered}
use Rattle.rules.specs.Encoding.{lifted, sent, codeword, written}
use Rattle.rules.specs.Flipping.{Next, quiet, stuck, flip, by_excess, Run, run}
use Rattle.answers.specs.Calls.{judged, ran_correct, correct_answer, next_step, step_answer}
use Rattle.bits.proofs.Sums.{and_l}
use Rattle.bits.proofs.Octets.{Octets, length_octets, octets_lt}
use Rattle.rules.proofs.Runs.{every_run}
use Rattle.rules.proofs.Choosing.{by_excess_lem}
use Rattle.rules.proofs.Published.{Published}
use Rattle.rules.proofs.Codewords.{bit_written, written_back}
use Rattle.answers.proofs.Answers.{correct_cases, step_cases, step_taken}
use Rattle.rules.proofs.Numbers.{published, whole, lifted_whole, sent_whole, past_word}

-- a step flips the one bit that it names, and no other of the same excess
pub one_flipped : (c : Code) (word : List ℕ) (x : Word) (out : List ℕ) (k : ℕ) (e : ℤ)
    → (next_step c word x out (flip k e)).out ≡ written c (flipped x k)
unfolding next_step
one_flipped c word x out k e = refl

-- the codes of step
abbrev pub stepped : ℕ → Bool
stepped n = offered n && not (eqb n 5)

module _ (n : ℕ) (t : T (stepped n)) (word : List ℕ) (lw : length word ≡ (code n).octets_of_word) where
  pb : Published (code n)
  pb = published n (and_l (offered n) (not (eqb n 5)) t)

  as_bits : lifted (code n) (bit word) ≡ bit word
  as_bits = lifted_whole (code n) (whole n t) (bit word)

  -- the bits of a word with one bit flipped, as it is written
  flip_bits : (k : ℕ) → k < bits (code n) → bit (written (code n) (flipped (lifted (code n) (bit word)) k)) ≡ flipped (bit word) k
  flip_bits k h =
      ap (λ x. bit (written (code n) (flipped x k))) as_bits ∙ bit_written (code n) pb (flipped (bit word) k)
      ∙ sent_whole (code n) (whole n t) (flipped (bit word) k) (λ i l.
      ap₂ (λ a b. a ⊕ b) (past_word (code n) (whole n t) word lw i l) (ne_eqb i k (λ e. omega (arith, (whole n t).full))))

  bit_lt : (k : ℕ) (ex : ℤ) → by_excess (code n) (lifted (code n) (bit word)) ≡ flip k ex → k < bits (code n)
  bit_lt k ex e = ((by_excess_lem (code n) pb.some).flips (lifted (code n) (bit word)) k ex e).under

-- a step that is neither quiet nor refused changes exactly one bit, the one that it names
pub step_one : (n : ℕ) (word out : List ℕ) → (step_answer n word out).number ≡ 0 → (step_answer n word out).quiet ≡ false
    → ((step_answer n word out).bit < 8 * length word)
    × (bit (step_answer n word out).out ≡ flipped (bit word) (step_answer n word out).bit)
unfolding next_step
step_one n word out =
    step_cases n word out (λ r. r.number ≡ 0 → r.quiet ≡ false → (r.bit < 8 * length word)
    × (bit r.out ≡ flipped (bit word) r.bit))
    (λ e q. absurd (omega arith)) (λ e q. absurd (omega arith)) (λ e q. absurd (omega arith))
    (λ t lw lo. go t lw (by_excess (code n) (lifted (code n) (bit word))) refl)
  where
    x : Word
    x = lifted (code n) (bit word)

    go : T (stepped n) → length word ≡ (code n).octets_of_word → (nx : Next) → by_excess (code n) (lifted (code n) (bit word)) ≡ nx
        → (next_step (code n) word (lifted (code n) (bit word)) out nx).number ≡ 0
        → (next_step (code n) word (lifted (code n) (bit word)) out nx).quiet ≡ false
        → ((next_step (code n) word (lifted (code n) (bit word)) out nx).bit < 8 * length word)
        × (bit (next_step (code n) word (lifted (code n) (bit word)) out nx).out ≡ flipped (bit word)
        (next_step (code n) word (lifted (code n) (bit word)) out nx).bit)
    go t lw quiet e z q = absurd (subst T q tt)
    go t lw (stuck k ex) e z q = absurd (omega arith)
    go t lw (flip k ex) e z q =
        (omega (arith, bit_lt n t word lw k ex e, (whole n t).full, lw), flip_bits n t word lw k (bit_lt n t word lw k ex e))

-- one step after another, each on the word that the last one gave
unfoldable pub steps : ℕ → ℕ → List ℕ → List ℕ
steps n zero word = word
steps n (suc k) word = steps n k (step_answer n word word).out

-- where a run ends quiet, as many steps as it has flips give its word
run_steps : (n : ℕ) → T (stepped n) → (limit : ℕ) (x : Word) → (word : List ℕ) → length word ≡ (code n).octets_of_word → Octets word
    → lifted (code n) (bit word) ≡ x
    → (run (by_excess (code n)) limit x).number ≡ 0 → steps n (length (run (by_excess (code n)) limit x).flips) word ≡ written (code n)
    (run (by_excess (code n)) limit x).word
unfolding steps next_step
run_steps n t =
    every_run (by_excess (code n)) (λ limit x r. (word : List ℕ) → length word ≡ (code n).octets_of_word → Octets word
    → lifted (code n) (bit word) ≡ x → r.number ≡ 0 → steps n (length r.flips) word ≡ written (code n) r.word)
    (λ limit x e word lw oct same z. sym (back word lw oct x same))
    (λ limit x k ex e word lw oct same z. absurd (omega arith))
    (λ x k ex e word lw oct same z. absurd (omega arith))
    (λ limit x k ex e r ih word lw oct same z. later k ex x e r ih word lw oct same z)
  where
    back : (word : List ℕ) → length word ≡ (code n).octets_of_word → Octets word → (x : Word) → lifted (code n) (bit word) ≡ x
        → written (code n) x ≡ word
    back word lw oct x same =
        written_back (code n) (pb n t word lw) word lw oct x (λ i l. ap (λ z. z i)
        (ap (sent (code n)) (sym same ∙ as_bits n t word lw)
        ∙ sent_whole (code n) (whole n t) (bit word) (past_word (code n) (whole n t) word lw)))

    later : (k : ℕ) (ex : ℤ) (x : Word) → by_excess (code n) x ≡ flip k ex → (r : Run)
        → ((word : List ℕ) → length word ≡ (code n).octets_of_word → Octets word → lifted (code n) (bit word) ≡ flipped x k → r.number ≡ 0
        → steps n (length r.flips) word ≡ written (code n) r.word)
        → (word : List ℕ) → length word ≡ (code n).octets_of_word → Octets word → lifted (code n) (bit word) ≡ x → r.number ≡ 0
        → steps n (length r.flips) (step_answer n word word).out ≡ written (code n) r.word
    later k ex x e r ih word lw oct same z =
        let next : by_excess (code n) (lifted (code n) (bit word)) ≡ flip k ex = ap (by_excess (code n)) same ∙ e in
        let gives : (step_answer n word word).out ≡ written (code n) (flipped (lifted (code n) (bit word)) k) =
        ap (λ a. a.out) (step_taken n word word t lw lw)
        ∙ ap (λ nx. (next_step (code n) word (lifted (code n) (bit word)) word nx).out) next in
        ap (steps n (length r.flips)) gives
        ∙ ih (written (code n) (flipped (lifted (code n) (bit word)) k))
        (length_octets (code n).octets_of_word (sent (code n) (flipped (lifted (code n) (bit word)) k)))
        (octets_lt (code n).octets_of_word (sent (code n) (flipped (lifted (code n) (bit word)) k)))
        (as_bits n t (written (code n) (flipped (lifted (code n) (bit word)) k))
        (length_octets (code n).octets_of_word (sent (code n) (flipped (lifted (code n) (bit word)) k)))
        ∙ flip_bits n t word lw k (bit_lt n t word lw k ex next) ∙ ap (λ y. flipped y k) (sym (as_bits n t word lw) ∙ same))
        z

-- where correct answers 0 for codes 1 to 4, as many steps as flips give correct's word
pub steps_correct : (n : ℕ) → T (stepped n) → (word : List ℕ) → Octets word → (limit : ℕ) (out : List ℕ)
    → (correct_answer n word limit out).number ≡ 0
    → steps n (correct_answer n word limit out).flips word ≡ (correct_answer n word limit out).out
unfolding ran_correct
steps_correct n t word oct limit out =
    correct_cases n word limit out (λ r. r.number ≡ 0 → steps n r.flips word ≡ r.out)
    (λ e. absurd (omega arith)) (λ e. absurd (omega arith)) (λ e. absurd (omega arith)) (λ off lw lo e.
    run_steps n t limit (lifted (code n) (bit word)) word lw oct refl (quiet_end e)
    ∙ sym (ap (λ z. when eqb z 0 then written (code n) (run (by_excess (code n)) limit (lifted (code n) (bit word))).word else out) e))
  where
    r : Run
    r = run (by_excess (code n)) limit (lifted (code n) (bit word))

    quiet_end : judged (code n) (run (by_excess (code n)) limit (lifted (code n) (bit word))) ≡ 0
        → (run (by_excess (code n)) limit (lifted (code n) (bit word))).number ≡ 0
    quiet_end e = go (eqb (run (by_excess (code n)) limit (lifted (code n) (bit word))).number 0) refl
      where
        go : (b : Bool) → eqb (run (by_excess (code n)) limit (lifted (code n) (bit word))).number 0 ≡ b
            → (run (by_excess (code n)) limit (lifted (code n) (bit word))).number ≡ 0
        go true f = eqb-true (run (by_excess (code n)) limit (lifted (code n) (bit word))).number 0 f
        go false f =
            sym (ap (λ b. when not b then (run (by_excess (code n)) limit (lifted (code n) (bit word))).number
            else when ltb 0 (count (code n).unsent (run (by_excess (code n)) limit (lifted (code n) (bit word))).word) then 7
            else when not (codeword (code n) (sent (code n) (run (by_excess (code n)) limit (lifted (code n) (bit word))).word)) then 8 else
            0) f) ∙ e
