-- The call's result as the definition's answer.
use Rattle.std.specs.Prelude.{not, List, ℕ, ◌/◌, eqb, length, Result, Ok, Err, Option, Some, None}
use Rattle.bits.specs.Bits.{when◌then◌else◌}
use Rattle.blocks.specs.Blocks.{Fault, first_fault_of, whole_blocks, Imported as ImportedAnswer}
use Rattle.blocks.specs.declared.importing.Imported.{Imported}
use Rattle.blocks.specs.declared.importing.Faulty.{Faulty}
use Rattle.refusals.specs.Numbers.{number_of}

abbrev pub as_fault : Imported → Fault
as_fault r = record { number = r.number; block = r.block }

abbrev pub as_imported : Imported → List ℕ → ImportedAnswer
as_imported r out = record { number = r.number; block = r.block; out = out }

-- What is at fault with some octets: 20, or the lowest block at fault.
unfoldable pub found_in : List ℕ → Fault
found_in octets =
    when not (whole_blocks (length octets)) then record { number = 20; block = 0 } else first_fault_of (length octets / 512) 0 octets

-- The place of what is at fault, where something is.
abbrev pub place_of : Fault → Option ℕ
place_of f = when eqb f.number 0 then None else Some f.block

-- What is found, and what is taken, as the definition's.
abbrev pub as_faulty : {A : Type 0} → Result A Faulty → Fault
as_faulty (Ok x) = record { number = 0; block = 0 }
as_faulty (Err f) = record { number = number_of f.refusal; block = f.block }

abbrev pub as_taken : {A : Type 0} → Result A Faulty → List ℕ → ImportedAnswer
as_taken r out = record { number = (as_faulty r).number; block = (as_faulty r).block; out = out }
