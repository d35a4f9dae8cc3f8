-- The call's results as the definition's answers.
use Rattle.flipping.specs.endings.Answers.{as_corrected}
use Rattle.telemetry.specs.taker.Taking.{Taker as TakerAnswer, Made as MadeAnswer, Taken as TakenAnswer, tell}
use Rattle.telemetry.specs.declared.taker.Taker.{Taker}
use Rattle.telemetry.specs.declared.taker.Made.{Made}
use Rattle.telemetry.specs.declared.taker.Taken.{Taken}

abbrev pub as_taker : Taker → TakerAnswer
as_taker t = record { place = t.place; told = tell t.edition t.limit; octets = t.octets }

abbrev pub as_made : Made → MadeAnswer
as_made m = record { number = m.number; taker = as_taker m.taker }

abbrev pub as_taken : Taken → TakenAnswer
as_taken t = record { next = as_taker t.next; taken = t.taken; complete = t.complete; corrected = as_corrected t.corrected t.word }
