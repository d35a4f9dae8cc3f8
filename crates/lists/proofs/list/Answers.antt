-- `lists::list`: each pass puts one record of the list into the table. Assumes nothing.
use mathlib.Core.Path.{ap, sym, ◌∙◌}
use lib.ListN.{length, length-map, length-set}
use Rattle.lists.specs.listing.Answers.{as_entry, as_entries}
use Rattle.lists.specs.listing.Listings.{list_of, so_far}
use Rattle.lists.proofs.listing.Writing.{put_next}
use Rattle.lists.proofs.list.Goals as goal

pub loop-l-preserved : goal.loop-l-preserved
loop-l-preserved c =
    let i = c.loop-l.invariant in
    let l = c.loop-l.l in
    let ys = c.args.table.now in
    let cd = c.args.code in
    let w = c.args.word.now in
    let lim = c.args.limit in
    let told = c.next-l.ensures in
    let room = c.loop-l.room in
    record {
      lists = told.1 cd lim (length ys) i.lists;
      so =
          put_next cd w lim (length ys) (as_entries ys) c.loop-l.table l room.h room.y room.z i.lists c.loop-l-test.true
          (length-map ys as_entry) i.so
          ∙ ap (λ k. so_far (list_of cd w lim) k (as_entries ys)) (sym told.0);
      long = length-set c.loop-l.table l.place l.record ∙ i.long;
    }
