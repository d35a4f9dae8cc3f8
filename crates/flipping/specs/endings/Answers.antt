-- Correct's result as the definition's answer.
use Rattle.std.specs.Prelude.{List, ℕ}
use Rattle.answers.specs.Calls.{Corrected as CorrectedAnswer}
use Rattle.flipping.specs.declared.endings.Corrected.{Corrected}

-- the output octets afterwards are part of the answer
abbrev pub as_corrected : Corrected → List ℕ → CorrectedAnswer
as_corrected r out = record {
  number = r.number;
  flips = r.flips;
  first = r.first;
  last = r.last;
  unlike = r.unlike;
  lowest = r.lowest;
  out = out;
}
