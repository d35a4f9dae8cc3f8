-- What is known of a run that has ended.
use Rattle.std.specs.Prelude.{◌≡◌, List, ℕ, length}
use Rattle.bits.specs.Bits.{Word}
use Rattle.rules.specs.Codes.{code}
use Rattle.rules.specs.Checks.{broken, lowest}
use Rattle.flipping.specs.endings.Ends.{word_of, run_of}
use Rattle.flipping.specs.runs.Endings.{number_of}
use Rattle.codes.specs.declared.Course.{Course}

-- The run on a received word has ended with the word y, and these are its numbers.
pub record RunEnds (n : ℕ) (word : List ℕ) (limit : ℕ) (r : Course) (y : Word) : Type 0 where
  pub number : number_of r.ended.ran.ending ≡ (run_of n word limit).number
  pub flips : r.ended.ran.flips ≡ length (run_of n word limit).flips
  pub word_is : y ≡ (run_of n word limit).word
  pub first : r.first ≡ broken (code n) (word_of n word)
  pub last : r.ended.last ≡ broken (code n) y
  pub lowest : r.lowest ≡ lowest (code n) (word_of n word)
