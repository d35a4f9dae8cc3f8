-- What a list that is being written means.
use Rattle.std.specs.Prelude.{◌≡◌, true, false, List, [], ◌++◌, ℕ, ◌+◌, ◌-◌, ◌≤◌, ℤ, length, get_or, take, drop}
use Rattle.bits.specs.Bits.{Word}
use Rattle.rules.specs.Codes.{code, offered}
use Rattle.rules.specs.Checks.{broken, lowest}
use Rattle.rules.specs.Flipping.{by_excess, run}
use Rattle.answers.specs.Calls.{ran_correct}
use Rattle.answers.specs.Lists.{Entry, entries, reason, Listed as ListedAnswer, listed_by, list_answer}
use Rattle.vectors.specs.Vectors.{wbit}
use Rattle.catalogue.specs.offer.Offers.{offer_of}
use Rattle.catalogue.specs.tables.Flat.{Lends}
use Rattle.flipping.specs.runs.Passes.{Going}
use Rattle.flipping.specs.endings.Ends.{word_of, run_of}
use Rattle.lists.specs.declared.listing.Listing.{Listing}
use Rattle.lists.specs.listing.Answers.{as_entry, listed_as}

-- The list of the run on a received word.
abbrev pub list_of : ℕ → List ℕ → ℕ → List Entry
list_of n word limit = entries (code n) (word_of n word) (run_of n word limit).flips

-- The first so many records of the list, then the table as it was.
abbrev pub so_far : List Entry → ℕ → List Entry → List Entry
so_far list k table = take k list ++ drop k table

-- Correct's numbers and the reason, with a table.
abbrev pub ends_with : ℕ → List ℕ → ℕ → List Entry → ListedAnswer
ends_with n word limit table =
    listed_by (ran_correct (code n) (word_of n word) (run_of n word limit) []) (reason (code n) (run_of n word limit)) table

-- The list is of this code, word and limit, and knows what was measured of the word.
pub record Measures (n : ℕ) (word : List ℕ) (limit : ℕ) (l : Listing) : Type 0 where
  pub offers : offered n ≡ true
  pub is : l.offer ≡ offer_of n
  pub long : length word ≡ l.offer.word
  pub under : l.limit ≡ limit
  pub first : l.answer.first ≡ broken (code n) (word_of n word)
  pub lowest : l.answer.lowest ≡ lowest (code n) (word_of n word)

-- The run is at its end, with this number, these flips and this reason.
pub record Ends (n : ℕ) (word : List ℕ) (limit : ℕ) (l : Listing) (flips : ℕ) (y : Word) (number bit : ℕ) (excess : ℤ) : Type 0 where
  pub measures : Measures n word limit l
  pub number_is : number ≡ (run_of n word limit).number
  pub flips_are : flips ≡ length (run_of n word limit).flips
  pub word_is : y ≡ (run_of n word limit).word
  pub left : l.record.left ≡ broken (code n) y
  pub why : reason (code n) (run_of n word limit) ≡ record { bit = bit; excess = excess }

-- The run has come to y after so many flips, and its list goes on from there; a table of this room serves.
pub record Stands (n : ℕ) (word : List ℕ) (limit room : ℕ) (l : Listing) (flips : ℕ) (h y z : List ℕ) : Type 0 where
  pub measures : Measures n word limit l
  pub lends : Lends n h l.offer.shape
  pub left : l.record.left ≡ broken (code n) (wbit y)
  pub going : Going (by_excess (code n)) (code n) l.offer.shape limit (word_of n word) flips (wbit y) (wbit z)
  pub list : list_of n word limit ≡ take flips (list_of n word limit) ++ entries (code n) (wbit y) (run (by_excess (code n)) (limit - flips)
      (wbit y)).flips
  pub serves : length (run_of n word limit).flips ≤ room

-- The same of some code, limit and room.
pub record Standing (word : List ℕ) (l : Listing) (flips : ℕ) (h y z : List ℕ) : Type 0 where
  pub number : ℕ
  pub limit : ℕ
  pub room : ℕ
  pub stands : Stands number word limit room l flips h y z

-- A list that goes on has the record of its place at hand; one that has ended has the answer, for the table with the records so far.
pub record Lists (n : ℕ) (word : List ℕ) (limit room : ℕ) (l : Listing) (h y z : List ℕ) : Type 0 where
  pub goes : l.goes ≡ true → Stands n word limit room l (l.place + 1) h y z
  pub record_is : l.goes ≡ true → (d : Entry) → get_or (list_of n word limit) l.place d ≡ as_entry l.record
  pub ends : l.goes ≡ false → (table : List Entry) → length table ≡ room
      → listed_as l.answer (so_far (list_of n word limit) l.place table) ≡ list_answer n word limit table

-- Some list that goes on.
pub record Goes (word : List ℕ) (l : Listing) (h y z : List ℕ) : Type 0 where
  pub number : ℕ
  pub limit : ℕ
  pub room : ℕ
  pub on : l.goes ≡ true
  pub lists : Lists number word limit room l h y z
