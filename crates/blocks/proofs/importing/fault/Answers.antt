-- `importing::fault`: the tests are the definition's, in its order. Assumes nothing.
use mathlib.Core.Path.{◌≡◌, sym, ap, ◌∙◌}
use mathlib.Core.Bool.{Bool}
use Prim.Native.Nat.{ℕ}
use borrow.Author.Tests.{eq-eqb, ne_eqb}
use Rattle.blocks.specs.Blocks.{count_right_of}
use Rattle.blocks.proofs.Reading.{fault_check, fault_number, fault_count, fault_filling, fault_none, count-le}
use Rattle.blocks.proofs.importing.fault.Goals as goal

-- what the test of the count has shown
count-here : (last : Bool) (used count : ℕ) (right t : Bool) → used ≡ count → right ≡ count_right_of last used → right ≡ t
    → count_right_of last count ≡ t
count-here last used count right t e is r = ap (count_right_of last) (sym e) ∙ sym is ∙ r

pub returns-then-not-is_sound : goal.returns-then-not-is_sound
returns-then-not-is_sound c =
    let a = c.args in
    sym (fault_check a.place a.last a.block.now (sym c.is_sound.ensures ∙ c.if-not-is_sound.true))

pub returns-then-number-place : goal.returns-then-number-place
returns-then-number-place c =
    let a = c.args in
    sym (fault_number a.place a.last a.block.now (sym c.is_sound.ensures ∙ c.if-not-is_sound.false)
    (ne_eqb _ a.place (λ e. c.if-number-place.true (c.number.ensures ∙ e))))

pub returns-then-not-count_right : goal.returns-then-not-count_right
returns-then-not-count_right c =
    let a = c.args in
    sym (fault_count a.place a.last a.block.now (sym c.is_sound.ensures ∙ c.if-not-is_sound.false)
    (eq-eqb _ _ (sym c.number.ensures ∙ c.if-number-place.false))
    (count-here a.last _ _ _ _ c.used-n.ensures.0 c.count_right.ensures c.if-not-count_right.true))

pub is_filled-requires : goal.is_filled-requires
is_filled-requires c =
    let u = c.used-n in
    (c.requires, u.ensures.0, count-le c.args.last u.result (sym c.count_right.ensures ∙ c.if-not-count_right.false))

pub returns-then-not-is_filled : goal.returns-then-not-is_filled
returns-then-not-is_filled c =
    let a = c.args in
    sym (fault_filling a.place a.last a.block.now (sym c.is_sound.ensures ∙ c.if-not-is_sound.false)
    (eq-eqb _ _ (sym c.number.ensures ∙ c.if-number-place.false))
    (count-here a.last _ _ _ _ c.used-n.ensures.0 c.count_right.ensures c.if-not-count_right.false)
    (sym c.is_filled.ensures ∙ c.if-not-is_filled.true))

pub returns : goal.returns
returns c =
    let a = c.args in
    sym (fault_none a.place a.last a.block.now (sym c.is_sound.ensures ∙ c.if-not-is_sound.false)
    (eq-eqb _ _ (sym c.number.ensures ∙ c.if-number-place.false))
    (count-here a.last _ _ _ _ c.used-n.ensures.0 c.count_right.ensures c.if-not-count_right.false)
    (sym c.is_filled.ensures ∙ c.if-not-is_filled.false))
