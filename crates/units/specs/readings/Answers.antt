-- The calls' results as the definition's answers.
use Rattle.std.specs.Prelude.{List, [], ℕ}
use Rattle.flipping.specs.endings.Answers.{as_corrected}
use Rattle.units.specs.unitrules.Units.{Reading as ReadingAnswer, Handed as HandedAnswer}
use Rattle.units.specs.declared.readings.Reading.{Reading}
use Rattle.units.specs.declared.readings.Handed.{Handed}

abbrev pub as_reading : Reading → ReadingAnswer
as_reading s = record { kept = as_corrected s.kept []; code = s.code; limit = s.limit; place = s.place }

abbrev pub as_handed : Handed → List ℕ → HandedAnswer
as_handed h out = record { corrected = as_corrected h.corrected out; none = h.none; next = as_reading h.next }
