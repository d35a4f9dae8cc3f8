-- `onedigit::wrong_entry` meets its contract: a place that has a shift, and one that has none.
use mathlib.Core.Path.{sym, ap, ◌∙◌, subst}
use mathlib.Core.Bool.{Bool, not, ◌&&◌}
use Prim.Native.Nat.{ℕ, ◌%◌, ◌<◌, ◌≤◌}
use lib.Dec.{eqb, ltb}
use lib.ListN.{get_or}
use borrow.Author.Tests.{lt-ltb, le-ltb}
use Rattle.bits.specs.Bits.{when◌then◌else◌}
use Rattle.onedigit.specs.Wrong.{added}
use Rattle.onedigit.proofs.wrong_entry.Goals as goal

pub returns-then-held-m : goal.returns-then-held-m
returns-then-held-m c =
    let a = c.args in
    let held = c.from-held.ensures in
    let p = get_or a.parity.now a.place 0 in
    ap (λ (y : ℕ). not (eqb y a.s)) held
    ∙ sym (ap (λ (b : Bool). when b then not (eqb p a.s) else added a.m a.parity.now a.place a.s)
    (lt-ltb p a.m (subst (λ (y : ℕ). y < a.m) held c.if-held-m.true)))

pub returns : goal.returns
returns c =
    let a = c.args in
    let held = c.from-held.ensures in
    let p = get_or a.parity.now a.place 0 in
    ap (λ (known : Bool). eqb (a.place % 3) 2 && (ltb a.s a.m && not known)) c.in_block.ensures
    ∙ sym (ap (λ (b : Bool). when b then not (eqb p a.s) else added a.m a.parity.now a.place a.s)
    (le-ltb p a.m (subst (λ (y : ℕ). a.m ≤ y) held c.if-held-m.false)))
