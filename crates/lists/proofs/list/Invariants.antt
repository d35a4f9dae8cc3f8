-- `lists::list`: the table has the records so far, and the list goes on or has ended. A pass leaves less of the table.
use Rattle.std.proofs.Common.{◌≡◌, ◌-◌, length}
use Rattle.lists.specs.listing.Answers.{as_entries}
use Rattle.lists.specs.listing.Listings.{list_of, so_far, Lists}
use Rattle.lists.proofs.list.Given as goal

abbrev pub invariant-loop-l : goal.invariant-loop-l
invariant-loop-l l = record {
  lists : Lists l.fn.code l.fn.word l.fn.limit (length l.fn.table) l.l l.room.h l.room.y l.room.z;
  so : as_entries l.table ≡ so_far (list_of l.fn.code l.fn.word l.fn.limit) l.l.place (as_entries l.fn.table);
  long : length l.table ≡ length l.fn.table;
}

abbrev pub decreases-loop-l : goal.decreases-loop-l
decreases-loop-l l = length l.table - l.l.place
