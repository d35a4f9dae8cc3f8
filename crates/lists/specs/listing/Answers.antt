-- The list's records and results as the definition's.
use Rattle.std.specs.Prelude.{List, map}
use Rattle.answers.specs.Lists.{Entry, Listed as ListedAnswer}
use Rattle.lists.specs.declared.listing.FlipRecord.{FlipRecord}
use Rattle.lists.specs.declared.listing.Listed.{Listed}

abbrev pub as_entry : FlipRecord → Entry
as_entry r = record { bit = r.bit; excess = r.excess; left = r.left }

abbrev pub as_entries : List FlipRecord → List Entry
as_entries = map as_entry

-- the table afterwards is part of the answer
abbrev pub listed_as : Listed → List Entry → ListedAnswer
listed_as r table = record {
  number = r.number;
  flips = r.flips;
  first = r.first;
  last = r.last;
  unlike = r.unlike;
  lowest = r.lowest;
  bit = r.bit;
  excess = r.excess;
  table = table;
}

abbrev pub as_listed : Listed → List FlipRecord → ListedAnswer
as_listed r table = listed_as r (as_entries table)
