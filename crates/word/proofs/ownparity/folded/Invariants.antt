-- `ownparity::folded` meets its contract: v is the sum of the words so far. Assumes nothing.
use mathlib.Core.Path.{◌≡◌}
use Rattle.bits.specs.Bits.{digit, sum}
use Rattle.word.proofs.ownparity.Words.{odd_word}
use Rattle.word.proofs.ownparity.folded.Given as goal

abbrev pub invariant-loop-word : goal.invariant-loop-word
invariant-loop-word l = sum 64 (digit 64 l.v) ≡ sum l.word-index (odd_word l.ws)
