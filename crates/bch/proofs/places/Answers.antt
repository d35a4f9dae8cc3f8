-- `bch::places` meets its contract: after j passes the bits are left whose first j coefficients are r's. Assumes nothing.
use mathlib.Core.Path.{◌≡◌, sym, ap, ◌∙◌}
use Prim.Native.Nat.{ℕ, suc, ◌-◌, ◌/◌, ◌%◌, ◌^◌, ◌<◌}
use borrow.Author.Tests.{eq-eqb, ne_eqb}
use native.Mathlib.Omega.{arith}
use Rattle.bch.proofs.Words.{like_start, like_set, like_clear, like_all}
use Rattle.bch.proofs.places.Goals as goal
use Rattle.bch.proofs.places.Goals.{else-r-j-eq1, then-r-j-eq1}

pub loop-j-init : goal.loop-j-init
loop-j-init c = like_start c.args.r

pub loop-j-preserved : goal.loop-j-preserved
loop-j-preserved c =
    let l = c.loop-j in
    let r = c.args.r in
    let h : l.j < 7 = omega arith in
    let e : 7 - suc l.j ≡ 6 - l.j = omega arith in
    let at = ap (λ (n : ℕ). r / 2 ^ n % 2) e in
    elim c.if-r-j-eq1.branch [
      | then-r-j-eq1 w ↦ like_set r l.j l.m c.if-r-j-eq1.m w.m-is h (eq-eqb (r / 2 ^ (7 - suc l.j) % 2) 1 (at
          ∙ w.if-r-j-eq1.true)) l.invariant
      | else-r-j-eq1 w ↦ like_clear r l.j l.m c.if-r-j-eq1.m w.m-is h
          (ne_eqb (r / 2 ^ (7 - suc l.j) % 2) 1 (λ q. w.if-r-j-eq1.false (sym at ∙ q)))
          l.invariant
    ]

pub returns : goal.returns
returns c =
    let l = c.loop-j in
    like_all c.args.r l.j l.m c.requires (omega arith) l.invariant
