-- `listing::next`: a pass from the next place. Assumes nothing.
use borrow.Author.Rules.{rules}
use Rattle.lists.proofs.listing.next.Goals as goal

pub overflow_add-l : goal.overflow_add-l
overflow_add-l c =
    let st = c.requires.lists.goes c.requires.on in
    let under = st.measures.under in
    let within = st.going.within in
    search rules

pub pass-requires : goal.pass-requires
pass-requires c =
    let k = c.requires in
    record { number = k.number; limit = k.limit; room = k.room; stands = k.lists.goes k.on }

pub returns : goal.returns
returns c =
    let t = c.pass in (
      t.ensures.0,
      λ n limit room is. t.ensures.1 n limit room (is.goes c.requires.on),
    )
