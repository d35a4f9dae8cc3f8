-- The calls' results as the definition's answers.
use Rattle.std.specs.Prelude.{List, ℕ}
use Rattle.answers.specs.Calls.{Encoded as EncodedAnswer, Checked as CheckedAnswer, Opened as OpenedAnswer}
use Rattle.answers.specs.Calls.{Stepped as SteppedAnswer}
use Rattle.codes.specs.declared.Checked.{Checked}
use Rattle.codes.specs.declared.Stepped.{Stepped}

abbrev pub as_encoded : ℕ → List ℕ → EncodedAnswer
as_encoded number out = record { number = number; out = out }

abbrev pub as_checked : Checked → CheckedAnswer
as_checked r = record { number = r.number; broken = r.broken; lowest = r.lowest }

abbrev pub as_opened : ℕ → ℕ → List ℕ → OpenedAnswer
as_opened number lowest part = record { number = number; lowest = lowest; part = part }

-- the output octets afterwards are part of the answer
abbrev pub as_stepped : Stepped → List ℕ → SteppedAnswer
as_stepped r out = record { number = r.number; quiet = r.quiet; bit = r.bit; excess = r.excess; out = out }
