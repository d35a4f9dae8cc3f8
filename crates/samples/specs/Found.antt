-- What a run on samples by their bit patterns finds, before anything is written.
use Rattle.std.specs.Prelude.{◌≡◌, List, ℕ, eqb}
use Rattle.bits.specs.Bits.{Word, when◌then◌else◌}
use Rattle.rules.specs.Codes.{code}
use Rattle.rules.specs.Encoding.{written}
use Rattle.rules.specs.Flipping.{run}
use Rattle.answers.specs.Calls as calls
use Rattle.flipping.specs.declared.endings.Corrected.{Corrected}
use Rattle.flipping.specs.endings.Answers.{as_corrected}
use Rattle.magnitudes.specs.Patterns.{read, smaller}
use Rattle.magnitudes.specs.Sizes.{by_size}

-- The run from the bits read, by the sizes of the patterns.
abbrev pub ran_patterns : ℕ → List ℕ → ℕ → List ℕ → calls.Corrected
ran_patterns n patterns limit out =
    let c = code n in
    let x = read patterns in
    calls.ran_correct c x (run (by_size (smaller patterns) c) limit x) out

-- The numbers r are the answer's, once the word y is written where the first of them is 0.
pub record Finds (n : ℕ) (patterns : List ℕ) (limit : ℕ) (y : Word) (r : Corrected) : Type 0 where
  pub answers : (out out' : List ℕ) → out' ≡ (when eqb r.number 0 then written (code n) y else out)
      → as_corrected r out' ≡ ran_patterns n patterns limit out
