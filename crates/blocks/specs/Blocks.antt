-- Recordings in blocks: for every input, every number returned and the output octets afterwards.
use Rattle.std.specs.Prelude.{Bool, true, false, not, ◌&&◌, List, [], ◌∷◌, ◌++◌, ℕ, zero, suc, ◌+◌, ◌-◌, ◌*◌, ◌/◌, ◌%◌, eqb, leb, ltb}
use Rattle.std.specs.Prelude.{length, get_or, take, drop, replicate}
use Rattle.bits.specs.Bits.{when◌then◌else◌}
use Rattle.blocks.specs.framecheck.FrameCheck.{framed, sound}

-- Two octets and four octets of a number, high octet first.
abbrev pub two : ℕ → List ℕ
two v = v / 256 % 256 ∷ v % 256 ∷ []

abbrev pub four : ℕ → List ℕ
four v = v / 16777216 % 256 ∷ v / 65536 % 256 ∷ two v

-- A block of 512 octets: number in octets 0 to 3, count of used octets in 4 and 5, data in 6 to 509, zeros after the used ones,
-- and in 510 and 511 the frame check over the first 510.
abbrev pub front : ℕ → List ℕ → List ℕ
front place used = four place ++ (two (length used) ++ (used ++ replicate (504 - length used) 0))

unfoldable pub block : ℕ → List ℕ → List ℕ
block place used = framed (front place used)

-- ---- export

-- So many blocks, numbered from a place on. All blocks but the last are full.
unfoldable pub exported : ℕ → ℕ → List ℕ → List ℕ
exported zero place octets = []
exported (suc n) place octets = block place (take 504 octets) ++ exported n (suc place) (drop 504 octets)

-- As many as hold the octets; no blocks for no octets.
abbrev pub blocks_for : ℕ → ℕ
blocks_for long = (long + 503) / 504

pub record Exported : Type 0 where
  pub number : ℕ
  pub out : List ℕ

-- Refusals of export: 20 for more than 64,512 octets, then 3 if the output is not exactly as long as needed.
unfoldable pub export_answer : List ℕ → List ℕ → Exported
export_answer octets out =
    let n = blocks_for (length octets) in
    when ltb 64512 (length octets) then record { number = 20; out = out }
    else when not (eqb (length out) (512 * n)) then record { number = 3; out = out }
    else record { number = 0; out = exported n 0 octets }

-- The room that export needs, 0 where there is none.
abbrev pub export_room : ℕ → ℕ
export_room long = when ltb 64512 long then 0 else 512 * blocks_for long

-- ---- import

-- What a block says of itself: its number, how many octets are used, and those octets.
abbrev pub number_in : List ℕ → ℕ
number_in b = 16777216 * get_or b 0 0 + 65536 * get_or b 1 0 + 256 * get_or b 2 0 + get_or b 3 0

abbrev pub used_in : List ℕ → ℕ
used_in b = 256 * get_or b 4 0 + get_or b 5 0

abbrev pub data_in : List ℕ → List ℕ
data_in b = take (used_in b) (drop 6 b)

-- The count is 1 to 504, and all blocks but the last are full.
abbrev pub count_right_of : Bool → ℕ → Bool
count_right_of true used = leb 1 used && leb used 504
count_right_of false used = eqb used 504

-- Whether all of the octets are zeros.
unfoldable pub clear : List ℕ → Bool
clear [] = true
clear (o ∷ octets) = eqb o 0 && clear octets

-- Zeros after the used octets.
abbrev pub filling_in : List ℕ → List ℕ
filling_in b = take (504 - used_in b) (drop (6 + used_in b) b)

-- The fault of a block at a place, 0 for none: 21 check, 22 number, 23 count or filling.
unfoldable pub fault : ℕ → Bool → List ℕ → ℕ
fault place last b =
    when not (sound 510 b) then 21
    else when not (eqb (number_in b) place) then 22
    else when not (count_right_of last (used_in b)) then 23
    else when not (clear (filling_in b)) then 23
    else 0

-- The fault of the lowest block at fault, and the number of that block by its place; block by block, n of them.
pub record Fault : Type 0 where
  pub number : ℕ
  pub block : ℕ

unfoldable pub first_fault_of : ℕ → ℕ → List ℕ → Fault
first_fault_of zero place octets = record { number = 0; block = 0 }
first_fault_of (suc n) place octets =
    let f = fault place (eqb n 0) (take 512 octets) in
    when eqb f 0 then first_fault_of n (suc place) (drop 512 octets)
    else record { number = f; block = place }

-- The used octets of n blocks, one after another.
unfoldable pub imported : ℕ → List ℕ → List ℕ
imported zero octets = []
imported (suc n) octets = data_in (take 512 octets) ++ imported n (drop 512 octets)

-- Whole blocks, and at most 128 of them.
abbrev pub whole_blocks : ℕ → Bool
whole_blocks long = eqb (long % 512) 0 && leb (long / 512) 128

pub record Imported : Type 0 where
  pub number : ℕ
  pub block : ℕ
  pub out : List ℕ

-- Refusals of import, in this order, 21 to 23 with the number of the lowest block at fault, the others with 0: 20 length not whole
-- blocks or too many, then block by block 21, 22, 23; then 3 if the output is not exactly as long as needed.
unfoldable pub import_answer : List ℕ → List ℕ → Imported
import_answer octets out =
    let n = length octets / 512 in
    let f = first_fault_of n 0 octets in
    when not (whole_blocks (length octets)) then record { number = 20; block = 0; out = out }
    else when not (eqb f.number 0) then record { number = f.number; block = f.block; out = out }
    else when not (eqb (length out) (length (imported n octets))) then record { number = 3; block = 0; out = out }
    else record { number = 0; block = 0; out = imported n octets }

-- The room that import needs, 0 where there is none.
unfoldable pub import_room : List ℕ → ℕ
import_room octets =
    let n = length octets / 512 in
    when not (whole_blocks (length octets)) then 0
    else when not (eqb (first_fault_of n 0 octets).number 0) then 0
    else length (imported n octets)
