-- `listing::pass`: the list at the run's end, or with one flip more. Assumes nothing.
use mathlib.Core.Path.{sym, ap, ◌∙◌, subst}
use Prim.Native.Nat.{◌*◌}
use native.Mathlib.Omega.{arith}
use mir.Syntax.{w8}
use mir.Val.{SFits}
use mir.ValLaws.{to_z-of_z}
use Rattle.rules.specs.Codes.{code}
use Rattle.rules.specs.Flipping.{flip}
use Rattle.flipping.specs.runs.Passes.{Within, comes_next_of}
use Rattle.refusals.proofs.Admitted.{unsent_is}
use Rattle.lists.proofs.listing.Writing.{ends_by_quiet, ends_by_stuck, ended_lists}
use borrow.Author.Rules.{rules}
use Rattle.lists.proofs.listing.pass.Goals as goal

pub coming-requires : goal.coming-requires
coming-requires c =
    let n = c.requires.number in
    let st = c.requires.stands in
    (st.lends.fit, record { code = code n; word = _; lent = st.lends.lent; held = st.going.held })

pub ended-requires : goal.ended-requires
ended-requires c =
    let st = c.requires.stands in
    let under = st.measures.under in
    let within = st.going.within in
    search rules

pub overflow_cast-bit : goal.overflow_cast-bit
overflow_cast-bit c =
    let sh = c.args.l.offer.shape in
    omega (
      arith,
      c.requires.stands.lends.fit.bits,
      subst (Within (sh.blocks * sh.size)) c.in-Stuck.is c.coming.ensures.0,
    )

pub ended-requires-in-Stuck : goal.ended-requires-in-Stuck
ended-requires-in-Stuck c =
    let st = c.requires.stands in
    let under = st.measures.under in
    let within = st.going.within in
    search rules

pub flip_on-requires : goal.flip_on-requires
flip_on-requires c =
    let sh = c.args.l.offer.shape in
    (c.requires, subst (Within (sh.blocks * sh.size)) c.in-Flip.is c.coming.ensures.0)

pub returns-in-Quiet : goal.returns-in-Quiet
returns-in-Quiet c =
    let r = c.ended in (
      r.ensures.1,
      λ n limit room st.
          let next = c.coming.ensures.1 (code n) st.lends.lent (sym (unsent_is n st.measures.is st.measures.offers))
          _ st.going.held ∙ ap comes_next_of c.in-Quiet.is in
          let ends = ends_by_quiet n _ limit room _ _ _ _ _ st next in
          ended_lists n _ limit room _ _ _ _ _ st _ _ _ ends _ _ _ _ r.ensures.0 r.ensures.1 (r.ensures.2 n limit st.measures.is ends),
    )

pub returns-in-Stuck : goal.returns-in-Stuck
returns-in-Stuck c =
    let ex = c.in-Stuck.excess in
    let fits : SFits w8 ex = search rules in
    let r = c.ended-in-Stuck in (
      r.ensures.1,
      λ n limit room st.
          let next = c.coming.ensures.1 (code n) st.lends.lent (sym (unsent_is n st.measures.is st.measures.offers))
          _ st.going.held ∙ ap comes_next_of c.in-Stuck.is in
          let ends = ends_by_stuck n _ limit room _ _ _ _ _ st _ ex _ (to_z-of_z w8 ex fits) next in
          ended_lists n _ limit room _ _ _ _ _ st _ _ _ ends _ _ _ _ r.ensures.0 r.ensures.1 (r.ensures.2 n limit st.measures.is ends),
    )

pub returns-in-Flip : goal.returns-in-Flip
returns-in-Flip c =
    let ex = c.in-Flip.excess in
    let fits : SFits w8 ex = search rules in
    let r = c.flip_on in (
      r.ensures.0,
      λ n limit room st.
          let next = c.coming.ensures.1 (code n) st.lends.lent (sym (unsent_is n st.measures.is st.measures.offers))
          _ st.going.held ∙ ap comes_next_of c.in-Flip.is in
          r.ensures.1 n limit room st.measures.is st (next ∙ ap (flip c.in-Flip.bit) (sym (to_z-of_z w8 ex fits))),
    )
