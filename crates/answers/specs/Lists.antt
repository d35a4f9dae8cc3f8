-- The list of a run: a record for each flip in the caller's table, correct's numbers, and the reason for a refusal 5.
use Rattle.std.specs.Prelude.{List, [], ◌∷◌, ◌++◌, ℕ, eqb, ltb, length, drop, ℤ, pos}
use Rattle.bits.specs.Bits.{Word, bit, flipped, when◌then◌else◌}
use Rattle.rules.specs.Codes.{Code, code, offered}
use Rattle.rules.specs.Checks.{broken, excess}
use Rattle.rules.specs.Encoding.{lifted}
use Rattle.rules.specs.Flipping.{greatest_sent, by_excess, Flip, Run, run}
use Rattle.answers.specs.Calls.{refusal, unless, Corrected, refused_correct_of, ran_correct}

-- For each flip, its bit number, its excess and the broken checks left.
pub record Entry : Type 0 where
  pub bit : ℕ
  pub excess : ℤ
  pub left : ℕ

-- One record for each flip, in the run's order; the broken checks are those of the word after the flip.
unfoldable pub entries : Code → Word → List Flip → List Entry
entries c x [] = []
entries c x (f ∷ flips) =
    let y = flipped x f.bit in
    record { bit = f.bit; excess = f.excess; left = broken c y } ∷ entries c y flips

-- The list is entered in the table; records past the list stay as they were.
abbrev pub entered_in : List Entry → List Entry → List Entry
entered_in table list = list ++ drop (length list) table

-- For refusal 5 the greatest excess and the lowest bit that has it, among the bits that may be flipped; otherwise both are 0.
unfoldable pub reason : Code → Run → Flip
reason c r =
    let n = greatest_sent c r.word in
    when eqb r.number 5 then record { bit = n; excess = excess c r.word n }
    else record { bit = 0; excess = pos 0 }

-- All numbers that correct gives, then bit and excess of the reason, and the table afterwards.
pub record Listed : Type 0 where
  pub number : ℕ
  pub flips : ℕ
  pub first : ℕ
  pub last : ℕ
  pub unlike : ℕ
  pub lowest : ℕ
  pub bit : ℕ
  pub excess : ℤ
  pub table : List Entry

-- What is listed by correct's numbers, a reason and a table.
abbrev pub listed_by : Corrected → Flip → List Entry → Listed
listed_by k why table = record {
  number = k.number;
  flips = k.flips;
  first = k.first;
  last = k.last;
  unlike = k.unlike;
  lowest = k.lowest;
  bit = why.bit;
  excess = why.excess;
  table = table;
}

-- A refused list has all other numbers 0, and writes no record.
abbrev pub refused_list : List Entry → ℕ → Listed
refused_list table number = listed_by (refused_correct_of [] number) (record { bit = 0; excess = pos 0 }) table

-- 10, in place of any of 0 and 5 to 8, if the run has more flips than the table has places.
unfoldable pub ran_list : Code → Word → Run → List Entry → Listed
ran_list c x r table =
    when ltb (length table) (length r.flips) then refused_list table 10
    else listed_by (ran_correct c x r []) (reason c r) (entered_in table (entries c x r.flips))

abbrev pub listed_from : ℕ → List ℕ → ℕ → List Entry → Listed
listed_from n word limit table =
    let c = code n in
    let x = lifted c (bit word) in
    ran_list c x (run (by_excess c) limit x) table

-- Refusals: 1 and 2; then 10.
unfoldable pub list_answer : ℕ → List ℕ → ℕ → List Entry → Listed
list_answer n word limit table =
    unless (refusal (offered n) (length word) (code n).octets_of_word 0 0) (refused_list table) (listed_from n word limit table)
