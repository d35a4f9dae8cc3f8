-- `nearest::search` meets its contract, by how many bits are left to choose. Assumes nothing.
use mathlib.Core.Path.{sym, ap, ◌∙◌}
use native.Mathlib.Omega.{arith}
use Prim.Native.Nat.{◌+◌, ◌-◌}
use Rattle.bits.specs.Bits.{flipped}
use Rattle.nearest.specs.Nearest.{first_list}
use Rattle.nearest.specs.Answers.{held}
use Rattle.nearest.proofs.Lists.{long}
use Rattle.nearest.proofs.Searching.{search_here, search_not, alone_none, alone_some, search_pass, search_end}
use Rattle.nearest.proofs.Searching.{held_chosen, held_passed, broken_lent}
use Rattle.nearest.proofs.+search.Goals as goal

pub returns-then-z-ne0 : goal.returns-then-z-ne0
returns-then-z-ne0 t c =
    let a = c.args in
    λ x h. search_not a.left a.z (128 - a.from) a.from x c.if-left-eq0.true (omega arith) h c.if-z-ne0.true

pub returns-then-left-eq0 : goal.returns-then-left-eq0
returns-then-left-eq0 t c =
    let a = c.args in
    λ x h. search_here a.left a.z (128 - a.from) a.from x c.if-left-eq0.true (omega arith) h c.if-z-ne0.false

pub returns-in_err-n : goal.returns-in_err-n
returns-in_err-n t c =
    let a = c.args in
    rw c.from_residual.ensures
    (λ x h. alone_none a.left a.z a.from x c.if-left-eq1.true c.requires.1 (omega arith) h c.in_err-n.ensures)

pub returns-then-left-eq1 : goal.returns-then-left-eq1
returns-then-left-eq1 t c =
    let a = c.args in
    let n = c.in_ok-n.ensures in
    λ x h. alone_some a.left a.z a.from x c.if-left-eq1.true c.requires.1 (omega arith) h c.in_ok-n.n n.0 n.1

pub returns-in-Some : goal.returns-in-Some
returns-in-Some t c =
    let l = c.loop-n in
    let a = c.args in
    λ x h.
    held_chosen l.n a.left _ (first_list a.left (128 - (l.n + 1)) (l.n + 1) x) c.in-Some.behind
    (c.in-Some.ensures (flipped x l.n) (broken_lent a.columns.now a.z l.n x c.requires.0 (omega arith) h))
    (long (a.left - 1) (128 - (l.n + 1)) (l.n + 1) (flipped x l.n)) c.if-left-eq0.false
    ∙ ap held (sym (l.invariant x h ∙ search_pass a.left l.n x c.if-left-eq0.false (omega arith)))

pub loop-n-preserved : goal.loop-n-preserved
loop-n-preserved t c =
    let l = c.loop-n in
    let a = c.args in
    λ x h.
    l.invariant x h
    ∙ search_pass a.left l.n x c.if-left-eq0.false (omega arith)
    ∙ held_passed l.n a.left (first_list (a.left - 1) (128 - (l.n + 1)) (l.n + 1) (flipped x l.n))
    (first_list a.left (128 - (l.n + 1)) (l.n + 1) x)
    (c.in_default.ensures (flipped x l.n) (broken_lent a.columns.now a.z l.n x c.requires.0 (omega arith) h))

pub returns : goal.returns
unfolding held
returns t c =
    let l = c.loop-n in
    let a = c.args in
    λ x h. ap held (search_end a.left l.n x c.if-left-eq0.false (omega arith) ∙ sym (l.invariant x h))
