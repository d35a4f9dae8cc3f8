-- `listing::flip_on`: the list at the limit, or with one flip more. Assumes nothing.
use Prim.Native.Nat.{◌<◌}
use native.Mathlib.Omega.{arith}
use mir.Syntax.{w8}
use mir.Val.{SFits}
use mir.ValLaws.{to_z-of_z}
use Rattle.rules.specs.Codes.{code}
use Rattle.lists.proofs.listing.Writing.{ends_by_limit, ended_lists, went_lists}
use borrow.Author.Rules.{rules}
use Rattle.lists.proofs.listing.flip_on.Goals as goal

pub ended-requires : goal.ended-requires
ended-requires c =
    let st = c.requires.0.stands in
    let small : c.args.l.limit < 65536 = search rules in
    omega (arith, st.measures.under, st.going.within, small)

pub returns-then-flips-l : goal.returns-then-flips-l
returns-then-flips-l c =
    let r = c.ended in (
      r.ensures.1,
      λ n limit room is st next.
          let ends = ends_by_limit n _ limit room _ _ _ _ _ st _ _ next (omega (arith, c.if-flips-l.true, st.measures.under)) in
          ended_lists n _ limit room _ _ _ _ _ st _ _ _ ends _ _ _ _ r.ensures.0 r.ensures.1 (r.ensures.2 n limit is ends),
    )

pub overflow_cast-bit : goal.overflow_cast-bit
overflow_cast-bit c =
    omega (arith, c.requires.0.stands.lends.fit.bits, c.requires.1)

pub returns : goal.returns
returns c =
    let f = c.flip in
    let ex = c.args.excess in
    let fits : SFits w8 ex = search rules in
    let r = c.went in (
      r.ensures.1,
      λ n limit room is st next.
          let held = f.ensures.checks (code n) st.lends.lent _ st.going.held in
          went_lists n _ limit room _ _ _ _ _ st _ ex _ (to_z-of_z w8 ex fits) next
          (omega (arith, c.if-flips-l.false, st.measures.under)) _ _ _ f.ensures.word
          held (c.broken-left.ensures (code n) _ _ _ st.lends.fit st.lends.lent held)
          _ r.ensures.0 r.ensures.1 r.ensures.2 r.ensures.3 r.ensures.4 r.ensures.5,
    )
