-- The taker: a state that every octet moves on, and one call on a part of the stream.
use Rattle.std.specs.Prelude.{◌≡◌, Bool, true, false, List, [], ◌∷◌, ℕ, suc, ◌-◌, eqb, ltb, get_or, set, drop, replicate}
use Rattle.bits.specs.Bits.{when◌then◌else◌}
use Rattle.answers.specs.Calls.{Corrected, refused_correct_of}
use Rattle.telemetry.specs.sequences.Telemetry.{known, generator_of}
use Rattle.telemetry.specs.taker.Stream.{Found, marker, answered}

-- What a taker is told at the start: the edition, for the whole stream, and the limit.
pub record Told : Type 0 where
  pub edition : ℕ
  pub limit : ℕ

abbrev pub tell : ℕ → ℕ → Told
tell edition limit = record { edition = edition; limit = limit }

-- A word's answer under what was told.
abbrev pub answered_by : Told → List ℕ → Corrected
answered_by told octets = answered (generator_of told.edition) told.limit octets

-- A taker: its place, 0 to 3 for so many octets of the marker that are matched, or 4 and the octets held of the word; what it was told;
-- and room for a word's octets, of which those held stand in front.
pub record Taker : Type 0 where
  pub place : ℕ
  pub told : Told
  pub octets : List ℕ

abbrev pub standing : ℕ → Told → List ℕ → Taker
standing place told octets = record { place = place; told = told; octets = octets }

abbrev pub fresh_taker : Told → Taker
fresh_taker told = standing 0 told (replicate 1020 0)

-- Without a stated edition the old sequence stays.
abbrev pub new_taker : ℕ → Taker
new_taker limit = fresh_taker (tell 0 limit)

-- Told an edition: 19 for one that is not known, before the first octet is taken, with a fresh state for the old sequence.
pub record Made : Type 0 where
  pub number : ℕ
  pub taker : Taker

unfoldable pub taker_for_answer : ℕ → ℕ → Made
taker_for_answer edition limit =
    when known edition then record { number = 0; taker = fresh_taker (tell edition limit) }
    else record { number = 19; taker = new_taker limit }

-- After m octets of the marker and one more, so many are matched: the longest front of the marker that what was searched ends with.
-- No end of a front is a front of the marker itself, so that is one octet more, or the octet alone, or none (`matched_longest`).
abbrev pub matched : ℕ → ℕ → ℕ
matched m octet =
    when eqb octet (get_or marker m 0) then suc m
    else when eqb octet 0x1A then 1
    else 0

-- The taker after one octet more, which completes no word.
abbrev pub moved : Taker → ℕ → Taker
moved s octet =
    when ltb s.place 4 then standing (matched s.place octet) s.told s.octets
    else standing (suc s.place) s.told (set s.octets (s.place - 4) octet)

-- The octets of the word that an octet more completes.
abbrev pub whole : Taker → ℕ → List ℕ
whole s octet = set s.octets 1019 octet

-- The search begins again after a word, taken or refused.
abbrev pub after : Taker → ℕ → Taker
after s octet = standing 0 s.told (whole s octet)

-- The words that a taker gives octet by octet of the rest of a stream, which begins at octet number `at`.
unfoldable pub given_from : Taker → ℕ → List ℕ → List Found
given_from s at [] = []
given_from s at (octet ∷ rest) =
    when eqb s.place 1023
    then (record { offset = suc at - 1020; corrected = answered_by s.told (whole s octet) } ∷ given_from (after s octet) (suc at) rest)
    else given_from (moved s octet) (suc at) rest

-- A call's answer: the moved taker, how many octets it took, whether a word is complete, and correct's numbers with the word.
pub record Taken : Type 0 where
  pub next : Taker
  pub taken : ℕ
  pub complete : Bool
  pub corrected : Corrected

-- Where no word is complete, all numbers are 0 and the word is all zeros.
abbrev pub waiting : ℕ → Taker → Taken
waiting taken s = record { next = s; taken = taken; complete = false; corrected = refused_correct_of (replicate 1020 0) 0 }

abbrev pub completed : ℕ → Told → List ℕ → Taken
completed taken told octets =
    record { next = standing 0 told octets; taken = taken; complete = true; corrected = answered_by told octets }

-- One call goes on until a word is complete or the part is used up; so many octets were taken before.
unfoldable pub taken_from : ℕ → Taker → List ℕ → Taken
taken_from taken s [] = waiting taken s
taken_from taken s (octet ∷ part) =
    when eqb s.place 1023 then completed (suc taken) s.told (whole s octet)
    else taken_from (suc taken) (moved s octet) part

-- A place past 1023, which no call gives, is read as 0: such a taker searches.
abbrev pub read_place : ℕ → ℕ
read_place place = when ltb place 1024 then place else 0

unfoldable pub take_answer : Taker → List ℕ → Taken
take_answer s part = taken_from 0 (standing (read_place s.place) s.told s.octets) part

-- What the search ensures: a call that is at place m with i octets of a part behind it goes on as one at place m' with i'.
abbrev pub GoesOn : List ℕ → ℕ → ℕ → ℕ → ℕ → Type 0
GoesOn part i m i' m' =
    (told : Told) → (octets : List ℕ) → taken_from i (standing m told octets) (drop i part)
    ≡ taken_from i' (standing m' told octets) (drop i' part)
