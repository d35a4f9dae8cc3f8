-- The calls: for every input, every number returned and the output octets afterwards.
use Rattle.std.specs.Prelude.{Bool, true, false, not, ◌&&◌, ◌||◌, List, [], ℕ, ◌%◌, eqb, ltb, length, get_or, take, ℤ, pos}
use Rattle.bits.specs.Bits.{Word, bit, count, ◌⊕◌, flipped, when◌then◌else◌}
use Rattle.rules.specs.Codes.{Code, bits, code, offered}
use Rattle.rules.specs.Checks.{broken, lowest}
use Rattle.rules.specs.Encoding.{lifted, sent, encoded, codeword, written}
use Rattle.rules.specs.Flipping.{Next, quiet, stuck, flip, by_excess, Run, run}

-- A call refuses, in this order: 1, a code that it does not offer; 2, an input whose length differs; 3, an output whose length differs.
-- 0 stands for none of these.
abbrev pub refusal : Bool → ℕ → ℕ → ℕ → ℕ → ℕ
refusal offered input long output room =
    when not offered then 1
    else when not (eqb input long) then 2
    else when not (eqb output room) then 3
    else 0

-- What a call gives that is refused by a number, or taken where that is 0.
abbrev pub unless : {A : Type 0} → ℕ → (ℕ → A) → A → A
unless number refused taken = when eqb number 0 then taken else refused number

-- Encode: information in, word out.
pub record Encoded : Type 0 where
  pub number : ℕ
  pub out : List ℕ

-- A refused encode writes nothing.
abbrev pub refused_encode : List ℕ → ℕ → Encoded
refused_encode out number = record { number = number; out = out }

-- For code 4 the information fills 7154 bits; the last six bits of octet 894 must be 0, else the number is 4.
abbrev pub six_set_of : ℕ → List ℕ → Bool
six_set_of n information = eqb n 4 && not (eqb (get_or information 894 0 % 64) 0)

abbrev pub encoded_from : ℕ → List ℕ → List ℕ → Encoded
encoded_from n information out =
    let c = code n in
    when six_set_of n information then refused_encode out 4
    else record { number = 0; out = written c (encoded c (lifted c (bit information))) }

unfoldable pub encode_answer : ℕ → List ℕ → List ℕ → Encoded
encode_answer n information out =
    let c = code n in
    unless (refusal (offered n) (length information) c.octets_of_information (length out) c.octets_of_word)
    (refused_encode out)
    (encoded_from n information out)

-- Check: the count of broken checks, and the lowest of them, or the number of checks if none is broken;
-- for code 5 with the unsent bits 0 and the last two unread.
pub record Checked : Type 0 where
  pub number : ℕ
  pub broken : ℕ
  pub lowest : ℕ

abbrev pub refused_check_of : ℕ → Checked
refused_check_of number = record { number = number; broken = 0; lowest = 0 }

abbrev pub checked_from : ℕ → List ℕ → Checked
checked_from n word =
    let c = code n in
    let x = lifted c (bit word) in
    record { number = 0; broken = broken c x; lowest = lowest c x }

unfoldable pub check_answer : ℕ → List ℕ → Checked
check_answer n word = unless (refusal (offered n) (length word) (code n).octets_of_word 0 0) refused_check_of (checked_from n word)

-- Open: for a codeword, its information octets, lent back as a part of the caller's own word; a refused open lends back an empty part.
-- The lowest broken check is passed on.
pub record Opened : Type 0 where
  pub number : ℕ
  pub lowest : ℕ
  pub part : List ℕ

abbrev pub refused_open : ℕ → Opened
refused_open number = record { number = number; lowest = 0; part = [] }

-- Code 5's last two bits are not both 0.
abbrev pub last_two_set : ℕ → List ℕ → Bool
last_two_set n word = eqb n 5 && (bit word 8158 || bit word 8159)

-- What is wrong with a word: 9 if a check is broken, else 14 if code 5's last two bits are not 0, else 15 if the parity is not the
-- encoder's.
-- 0 stands for none of these.
abbrev pub fault : ℕ → List ℕ → ℕ
fault n word =
    let c = code n in
    when not (eqb (broken c (lifted c (bit word))) 0) then 9
    else when last_two_set n word then 14
    else when not (codeword c (bit word)) then 15
    else 0

abbrev pub opened_from : ℕ → List ℕ → Opened
opened_from n word =
    let c = code n in
    record {
      number = fault n word;
      lowest = lowest c (lifted c (bit word));
      part = when eqb (fault n word) 0 then take c.octets_of_information word else [];
    }

-- Offered by open are all codes but 4.
unfoldable pub open_answer : ℕ → List ℕ → Opened
open_answer n word =
    unless (refusal (offered n && not (eqb n 4)) (length word) (code n).octets_of_word 0 0) refused_open (opened_from n word)

-- Correct: received word, limit, output word. Gives number, flips, broken checks at the start, broken checks at the end,
-- in how many bits the received and the final word differ, and the lowest broken check of the word as received.
pub record Corrected : Type 0 where
  pub number : ℕ
  pub flips : ℕ
  pub first : ℕ
  pub last : ℕ
  pub unlike : ℕ
  pub lowest : ℕ
  pub out : List ℕ

-- After a quiet end: an unsent bit that is 1 gives refusal 7; then parity unlike the encoder's gives refusal 8.
abbrev pub judged : Code → Run → ℕ
judged c r =
    when not (eqb r.number 0) then r.number
    else when ltb 0 (count c.unsent r.word) then 7
    else when not (codeword c (sent c r.word)) then 8
    else 0

-- How many of the bits that the checks are over differ: code 5's unsent bits are counted, its two last bits are not.
abbrev pub differing : Code → Word → Word → ℕ
differing c x y = count (bits c) (λ n. x n ⊕ y n)

-- Refusals 1 to 4 return all other numbers as 0; refusals 5 to 8 return the flips made and the true counts. On 0 the output is written
-- whole.
abbrev pub refused_correct_of : List ℕ → ℕ → Corrected
refused_correct_of out number = record { number = number; flips = 0; first = 0; last = 0; unlike = 0; lowest = 0; out = out }

unfoldable pub ran_correct : Code → Word → Run → List ℕ → Corrected
ran_correct c x r out =
    record {
      number = judged c r;
      flips = length r.flips;
      first = broken c x;
      last = broken c r.word;
      unlike = differing c x r.word;
      lowest = lowest c x;
      out = when eqb (judged c r) 0 then written c r.word else out;
    }

-- The run from a word of the code's length.
abbrev pub ran_from : ℕ → List ℕ → ℕ → List ℕ → Corrected
ran_from n word limit out =
    let c = code n in
    let x = lifted c (bit word) in
    ran_correct c x (run (by_excess c) limit x) out

unfoldable pub correct_answer : ℕ → List ℕ → ℕ → List ℕ → Corrected
correct_answer n word limit out =
    let c = code n in
    unless (refusal (offered n) (length word) c.octets_of_word (length out) c.octets_of_word) (refused_correct_of out)
    (ran_from n word limit out)

-- Step: one flip of the run into an output word, with the bit's number and excess; or quiet and marked so, in which case
-- the word is copied and both numbers are 0; or refusal 5. A refused step returns 0 for both, and is not marked quiet.
pub record Stepped : Type 0 where
  pub number : ℕ
  pub quiet : Bool
  pub bit : ℕ
  pub excess : ℤ
  pub out : List ℕ

abbrev pub refused_step_of : List ℕ → ℕ → Stepped
refused_step_of out number = record { number = number; quiet = false; bit = 0; excess = pos 0; out = out }

unfoldable pub next_step : Code → List ℕ → Word → List ℕ → Next → Stepped
next_step c word x out quiet = record { number = 0; quiet = true; bit = 0; excess = pos 0; out = word }
next_step c word x out (stuck k e) = refused_step_of out 5
next_step c word x out (flip k e) = record { number = 0; quiet = false; bit = k; excess = e; out = written c (flipped x k) }

abbrev pub stepped_from : ℕ → List ℕ → List ℕ → Stepped
stepped_from n word out =
    let c = code n in
    let x = lifted c (bit word) in
    next_step c word x out (by_excess c x)

-- Offered by step are all codes but 5.
unfoldable pub step_answer : ℕ → List ℕ → List ℕ → Stepped
step_answer n word out =
    let c = code n in
    unless (refusal (offered n && not (eqb n 5)) (length word) c.octets_of_word (length out) c.octets_of_word) (refused_step_of out)
    (stepped_from n word out)

-- The octets of a word, and of its information, as the table of the codes has them; 0 for a code that is not offered.
unfoldable pub word_octets_answer : ℕ → ℕ
word_octets_answer n = when offered n then (code n).octets_of_word else 0

unfoldable pub information_octets_answer : ℕ → ℕ
information_octets_answer n = when offered n then (code n).octets_of_information else 0
