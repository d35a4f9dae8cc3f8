-- Telecommand transmission units: a start sequence, one or more codeblocks of code 1 or code 3, and a tail.
use Rattle.std.specs.Prelude.{Bool, true, false, not, ◌&&◌, ◌||◌, List, [], ◌∷◌, ◌++◌, ℕ, zero, suc, ◌+◌, ◌-◌, ◌*◌, ◌/◌, ◌%◌, ◌^◌, eqb, leb}
use Rattle.std.specs.Prelude.{ltb, length, take, drop, replicate}
use Rattle.bits.specs.Bits.{bit, when◌then◌else◌}
use Rattle.rules.specs.Codes.{code}
use Rattle.rules.specs.Encoding.{lifted, encoded, written}
use Rattle.answers.specs.Calls.{Encoded, Corrected, refused_correct_of, correct_answer}
use Rattle.randomiser.specs.Randomiser.{telecommand, randomised}

-- Units are of codes 1 and 3.
abbrev pub unit_code : ℕ → Bool
unit_code n = eqb n 1 || eqb n 3

abbrev pub start : List ℕ
start = 0x03 ∷ 0x47 ∷ 0x76 ∷ 0xC7 ∷ 0x27 ∷ 0x28 ∷ 0x95 ∷ 0xB0 ∷ []

-- Where the standard offers a tail for the code, even as an option, it is always written and always demanded; otherwise there is none.
unfoldable pub tail : ℕ → List ℕ
tail n =
    when eqb n 1 then
    (0x55 ∷ 0x55 ∷ 0x55 ∷ 0x56 ∷ 0xAA ∷ 0xAA ∷ 0xAA ∷ 0xAA ∷ 0x55 ∷ 0x55 ∷ 0x55 ∷ 0x55 ∷ 0x55 ∷ 0x55 ∷ 0x55 ∷ 0x55 ∷ [])
    else []

-- How many codeblocks hold so many octets of information.
abbrev pub blocks_for : ℕ → ℕ → ℕ
blocks_for n long = (long + ((code n).octets_of_information - 1)) / (code n).octets_of_information

-- The fill: octets 55 after the information, to a whole number of codeblocks.
unfoldable pub filled : ℕ → List ℕ → List ℕ
filled n information = information ++ replicate
    (blocks_for n (length information) * (code n).octets_of_information - length information) 0x55

-- Part k of the information with its fill, and the codeblock that is encoded of it.
abbrev pub part : ℕ → List ℕ → ℕ → List ℕ
part n information k = take (code n).octets_of_information (drop (k * (code n).octets_of_information) (filled n information))

unfoldable pub codeblock : ℕ → List ℕ → ℕ → List ℕ
codeblock n information k = written (code n) (encoded (code n) (lifted (code n) (bit (part n information k))))

-- The first codeblocks, one after another.
unfoldable pub codeblocks : ℕ → List ℕ → ℕ → List ℕ
codeblocks n information zero = []
codeblocks n information (suc k) = codeblocks n information k ++ codeblock n information k

-- The unit. Randomised are the codeblocks, from the first bit of the first to the last bit of the last; start and tail are not.
unfoldable pub unit : ℕ → List ℕ → List ℕ
unit n information = start ++ (randomised telecommand 0 (codeblocks n information (blocks_for n (length information))) ++ tail n)

abbrev pub unit_length : ℕ → ℕ → ℕ
unit_length n long = 8 + (blocks_for n long * (code n).octets_of_word + length (tail n))

-- How many octets the unit of so many octets of information has; 0 where there is none, and where no length of a slice is as great.
unfoldable pub unit_octets_of : ℕ → ℕ → ℕ
unit_octets_of n long =
    when not (unit_code n) then 0
    else when eqb long 0 then 0
    else when not (ltb (unit_length n long) (2 ^ 64)) then 0
    else unit_length n long

-- The writer: 1 for another code; 2 if there is no information; 3 if the output is not exactly as long as needed.
unfoldable pub write_answer : ℕ → List ℕ → List ℕ → Encoded
write_answer n information out =
    when not (unit_code n) then record { number = 1; out = out }
    else when eqb (length information) 0 then record { number = 2; out = out }
    else when not (eqb (length out) (unit_length n (length information))) then record { number = 3; out = out }
    else record { number = 0; out = unit n information }

-- ---- the reader

-- Whether two lists of octets are the same.
abbrev pub same : List ℕ → List ℕ → Bool
same [] [] = true
same [] (b ∷ y) = false
same (a ∷ x) [] = false
same (a ∷ x) (b ∷ y) = eqb a b && same x y

-- The whole start is there.
unfoldable pub started : List ℕ → Bool
started unit = same (take 8 unit) start

-- How many octets lie between the start and the tail, and how many codeblocks they hold.
abbrev pub between : ℕ → List ℕ → ℕ
between n unit = length unit - 8 - length (tail n)

abbrev pub blocks_in_of : ℕ → List ℕ → ℕ
blocks_in_of n unit = between n unit / (code n).octets_of_word

-- What follows the start is one or more whole codeblocks and the tail.
unfoldable pub shaped : ℕ → List ℕ → Bool
shaped n unit = leb 1 (blocks_in_of n unit) && (eqb (between n unit % (code n).octets_of_word) 0 && same (drop (8 + between n unit) unit)
    (tail n))

-- A reading: its code and limit, how many codeblocks were handed out, and the answer that ended it; number 0 there means that it goes on.
pub record Reading : Type 0 where
  pub kept : Corrected
  pub code : ℕ
  pub limit : ℕ
  pub place : ℕ

-- Correct's numbers, with another output.
abbrev pub with_out : Corrected → List ℕ → Corrected
with_out r out = record {
  number = r.number;
  flips = r.flips;
  first = r.first;
  last = r.last;
  unlike = r.unlike;
  lowest = r.lowest;
  out = out;
}

-- Made over (code, unit, limit): 1 for another code; then 11 if the whole start is not there; then 12 if what follows is not
-- one or more whole codeblocks and the tail.
unfoldable pub reader_number_of : ℕ → List ℕ → ℕ
reader_number_of n unit =
    when not (unit_code n) then 1
    else when not (started unit) then 11
    else when not (shaped n unit) then 12
    else 0

abbrev pub reading_from : ℕ → ℕ → ℕ → ℕ → Reading
reading_from number n limit place = record { kept = refused_correct_of [] number; code = n; limit = limit; place = place }

abbrev pub reader_answer : ℕ → List ℕ → ℕ → Reading
reader_answer n unit limit = reading_from (reader_number_of n unit) n limit 0

-- An asking's answer: correct's numbers with the output octets afterwards, the mark that there is none, and the reading as it stands then.
pub record Handed : Type 0 where
  pub corrected : Corrected
  pub none : Bool
  pub next : Reading

-- Codeblock k of a unit, as it was before it was randomised.
abbrev pub received : ℕ → List ℕ → ℕ → List ℕ
received n unit k = randomised telecommand (k * (code n).octets_of_word)
    (take (code n).octets_of_word (drop (8 + k * (code n).octets_of_word) unit))

-- A codeblock that is taken is handed out as its information octets, and the reading moves on.
abbrev pub handed_out : Reading → Corrected → Handed
handed_out s r = record {
  corrected = with_out r (take (code s.code).octets_of_information r.out);
  none = false;
  next = record { kept = s.kept; code = s.code; limit = s.limit; place = suc s.place };
}

-- A codeblock that correct refuses ends the reading, and nothing is written.
abbrev pub handed_last_of : Reading → Corrected → List ℕ → Handed
handed_last_of s r out = record {
  corrected = with_out r out;
  none = false;
  next = record { kept = with_out r []; code = s.code; limit = s.limit; place = s.place };
}

-- An answer that leaves the reading as it is.
abbrev pub handed_again_of : Reading → Corrected → Bool → Handed
handed_again_of s r none = record { corrected = r; none = none; next = s }

unfoldable pub read_next_of : Reading → List ℕ → List ℕ → Handed
read_next_of s unit out =
    let n = s.code in
    let r = correct_answer n (received n unit s.place) s.limit (replicate (code n).octets_of_word 0) in
    when eqb r.number 0 then handed_out s r else handed_last_of s r out

-- Asked with an output: 3 first if it is not the code's information length, which ends nothing; else the answer that ended the reading,
-- or that there is none, again and again; or the next codeblock. A reading of another code, which no reader made, answers 1.
unfoldable pub read_answer : Reading → List ℕ → List ℕ → Handed
read_answer s unit out =
    when not (unit_code s.code) then handed_again_of s (refused_correct_of out 1) false
    else when not (eqb (length out) (code s.code).octets_of_information) then handed_again_of s (refused_correct_of out 3) false
    else when not (eqb s.kept.number 0) then handed_again_of s (with_out s.kept out) false
    else when not (ltb s.place (blocks_in_of s.code unit)) then handed_again_of s (refused_correct_of out 0) true
    else read_next_of s unit out
