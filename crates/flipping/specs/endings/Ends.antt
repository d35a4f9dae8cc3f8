-- The run on a received word, and what is known of the word at its end.
use Rattle.std.specs.Prelude.{◌≡◌, false, List, ℕ, ◌+◌, ◌%◌, ◌≤◌, ◌<◌}
use Rattle.bits.specs.Bits.{Word, bit}
use Rattle.rules.specs.Codes.{Code, code}
use Rattle.rules.specs.Encoding.{lifted}
use Rattle.rules.specs.Flipping.{Run, by_excess, run}
use Rattle.answers.specs.Calls.{differing}

-- The received word as the run has it, and its run.
abbrev pub word_of : ℕ → List ℕ → Word
word_of n word = lifted (code n) (bit word)

abbrev pub run_of : ℕ → List ℕ → ℕ → Run
run_of n word limit = run (by_excess (code n)) limit (word_of n word)

-- Its end differs from the received word in no more bits than flips were made, both even or both odd; and no unsent bit is set.
pub record EndsAt (c : Code) (received end : Word) (flips : ℕ) : Type 0 where
  pub within : differing c (lifted c received) end ≤ flips
  pub even : (differing c (lifted c received) end + flips) % 2 ≡ 0
  pub unsent : (i : ℕ) → i < c.unsent → end i ≡ false
