-- `listing::begin_taken`: what is measured, whether the table serves, and the first pass. Assumes nothing.
use mathlib.Core.Path.{sym, ◌∙◌}
use borrow.Author.Tests.{not-true, not-false}
use Rattle.lists.proofs.listing.Writing.{refused_lists, short_lists}
use Rattle.lists.proofs.listing.begin_taken.Goals as goal
use mathlib.Core.Path.{ap}
use mathlib.Core.Bool.{not}

pub returns-then-not-serves : goal.returns-then-not-serves
returns-then-not-serves c =
    let r = c.refused.ensures in (
      r.1,
      λ n off is.
          let none = sym (c.serves.ensures n off is (c.measured_list-l.ensures n off is).0) ∙ not-true _ (ap not c.if-not-serves.true) in
          refused_lists n _ _ _ _ _ _ _ _ r.0 r.1 r.2 (short_lists n off _ _ is c.args.received.whole _ _ none),
    )

pub pass-requires : goal.pass-requires
pass-requires c =
    let k = c.args.received.code.known in
    let e = c.measured_list-l.ensures k.number k.offers k.is in
    record {
      number = k.number;
      limit = c.args.limit;
      room = c.args.places;
      stands = e.1 c.args.places
          (sym (c.serves.ensures k.number k.offers k.is e.0) ∙ not-false _ (ap not c.if-not-serves.false));
    }

pub returns : goal.returns
returns c = (
  c.pass.ensures.0,
  λ n off is.
      let e = c.measured_list-l.ensures n off is in
      c.pass.ensures.1 n _ c.args.places
      (e.1 c.args.places (sym (c.serves.ensures n off is e.0) ∙ not-false _ (ap not c.if-not-serves.false))),
)
