-- `nearest::fewest_of` meets its contract, by the reach. Assumes nothing.
use mathlib.Core.Path.{sym, ap, ◌∙◌}
use Prim.Native.Nat.{◌-◌}
use Rattle.nearest.specs.Nearest.{first_list, fewest}
use Rattle.nearest.specs.Answers.{held}
use Rattle.nearest.proofs.Searching.{fewest_none, fewest_more, held_first, held_else}
use Rattle.nearest.proofs.+fewest_of.Goals as goal

pub returns-then-reach-eq0 : goal.returns-then-reach-eq0
returns-then-reach-eq0 t c =
    λ x h. c.search.ensures x h ∙ ap held (fewest_none c.args.reach x c.if-reach-eq0.true)

pub returns-in-Some : goal.returns-in-Some
returns-in-Some t c =
    let a = c.args in
    λ x h.
    held_first (fewest (a.reach - 1) x) (first_list a.reach 128 0 x) c.in-Some.fewer (c.in-Some.ensures x h)
    ∙ ap held (sym (fewest_more a.reach x c.if-reach-eq0.false))

pub returns-in-None : goal.returns-in-None
returns-in-None t c =
    let a = c.args in
    λ x h.
    c.search-in-None.ensures x h
    ∙ ap held (sym (fewest_more a.reach x c.if-reach-eq0.false
    ∙ held_else (fewest (a.reach - 1) x) (first_list a.reach 128 0 x) (c.in-None.ensures x h)))
