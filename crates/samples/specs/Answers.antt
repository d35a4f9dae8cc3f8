-- Correct on samples: for every input, every number returned and the output octets afterwards.
use Rattle.std.specs.Prelude.{not, ◌&&◌, List, ℕ, eqb, Float, length}
use Rattle.bits.specs.Bits.{when◌then◌else◌}
use Rattle.rules.specs.Codes.{bits, code, offered}
use Rattle.rules.specs.Flipping.{run}
use Rattle.answers.specs.Calls.{refusal, unless, Corrected, refused_correct_of, ran_correct}
use Rattle.magnitudes.specs.Samples.{read, smaller, all_finite}
use Rattle.magnitudes.specs.Sizes.{by_size}

-- The run from the bits read, by the sizes of the samples. All numbers are correct's, for the word that was read.
abbrev pub ran_samples : ℕ → List Float → ℕ → List ℕ → Corrected
ran_samples n samples limit out =
    let c = code n in
    let x = read samples in
    ran_correct c x (run (by_size (smaller samples) c) limit x) out

-- 16 if a sample is infinite or not a number, with all other numbers 0.
abbrev pub finite_from : ℕ → List Float → ℕ → List ℕ → Corrected
finite_from n samples limit out = when all_finite samples then ran_samples n samples limit out else refused_correct_of out 16

-- A mode for codes 1 to 4. Refusals: 1 for code 5 too, 2 counts samples, one for each bit, then 3, then 16, then 5, 6, 8.
unfoldable pub samples_answer : ℕ → List Float → ℕ → List ℕ → Corrected
samples_answer n samples limit out =
    let c = code n in
    unless (refusal (offered n && not (eqb n 5)) (length samples) (bits c) (length out) c.octets_of_word) (refused_correct_of out)
    (finite_from n samples limit out)
