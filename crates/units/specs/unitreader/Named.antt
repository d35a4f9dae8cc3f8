-- The named form of the reader: a struct that stands on the lent unit.
use Rattle.std.specs.Prelude.{List, [], ◌++◌, ℕ, ◌-◌, eqb, replicate}
use Rattle.bits.specs.Bits.{when◌then◌else◌}
use Rattle.units.specs.unitrules.Units.{Handed, with_out, reader_number_of, reading_from, read_answer}
use Rattle.units.specs.readings.Answers.{as_handed}
use Rattle.units.specs.declared.unitreader.Block.{Block}
use Rattle.units.specs.declared.unitreader.Reader.{Reader}

-- The information octets of a code, 1 or 3; where no unit is of the code, as many as code 3's.
abbrev pub room_for : ℕ → ℕ
room_for n = when eqb n 1 then 8 else 32

-- An answer with so many zeros behind the octets that it hands out.
abbrev pub with_zeros : ℕ → Handed → Handed
with_zeros more h = record {
  corrected = with_out h.corrected (h.corrected.out ++ replicate more 0);
  none = h.none;
  next = h.next;
}

-- What a reader that stands at a place answers, into zeros; a block has 32 octets, those behind the information zeros too.
abbrev pub handed_at : List ℕ → ℕ → ℕ → ℕ → Handed
handed_at unit place n limit = with_zeros (32 - room_for n) (read_answer (reading_from 0 n limit place) unit (replicate (room_for n) 0))

abbrev pub as_block : Block → Handed
as_block b = as_handed b.handed b.octets

-- A reader as it is made: its number, the octets that it stands on, the place, its code and limit.
pub record Made : Type 0 where
  pub number : ℕ
  pub unit : List ℕ
  pub place : ℕ
  pub code : ℕ
  pub limit : ℕ

-- Made over (code, unit, limit): 1, 11 or 12 come before there is a reader, and what is given then stands on no octets.
abbrev pub made_over : ℕ → List ℕ → ℕ → Made
made_over n unit limit =
    let number = reader_number_of n unit in
    record { number = number; unit = when eqb number 0 then unit else []; place = 0; code = n; limit = limit }

abbrev pub as_made : ℕ → Reader → Made
as_made number r = record { number = number; unit = r.unit.now; place = r.place; code = r.code; limit = r.limit }

-- The reader at another place.
abbrev pub moved_to : Reader → ℕ → Reader
moved_to r to = record { unit = r.unit; place = to; code = r.code; limit = r.limit }
