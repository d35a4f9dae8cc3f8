-- `put` calls itself for a tenth of the number.
use mathlib.Core.Path.{sym, ap, ◌∙◌}
use mathlib.Core.List.{List, [], ◌++◌, append-nil}
use Prim.Native.Nat.{ℕ, ◌+◌, ◌/◌, ◌%◌, ◌<◌, ◌≤◌}
use native.Mathlib.Omega.{arith}
use lib.ListN.{length, take}
use Rattle.wordlog.specs.line.Line.{decimal}
use Rattle.wordlog.proofs.line.Texts.{decimal_digit, decimal_more, digit_long, more_long, one_more}
use Rattle.wordlog.proofs.line.+put.Goals as goal

pub bounds-text-at : goal.bounds-text-at
bounds-text-at t c = omega (arith, digit_long c.args.n c.if-n-lt10.true)

pub returns-then-n-lt10 : goal.returns-then-n-lt10
returns-then-n-lt10 t c =
    let a = c.args in
    let h : a.n < 10 = omega arith in
    let k : a.at < length a.text.now = omega (arith, digit_long a.n h) in (
      omega (arith, digit_long a.n h),
      one_more a.text.now (take a.at a.text.now) [] a.at (48 + a.n) k (sym (append-nil _))
          ∙ ap (λ (l : List ℕ). take a.at a.text.now ++ l) (sym (decimal_digit a.n h)),
    )

pub put-end-requires : goal.put-end-requires
put-end-requires t c =
    let h : 10 ≤ c.args.n = omega arith in
    (omega arith, omega (arith, more_long c.args.n h))

pub bounds-text-end : goal.bounds-text-end
bounds-text-end t c =
    let h : 10 ≤ c.args.n = omega arith in
    omega (arith, more_long c.args.n h)

pub returns : goal.returns
returns t c =
    let a = c.args in
    let h : 10 ≤ a.n = omega arith in
    let w = c.put-end in
    let k : w.result < length w.new.text = omega (arith, more_long a.n h) in (
      omega (arith, more_long a.n h),
      one_more w.new.text (take a.at a.text.now) (decimal (a.n / 10)) w.result (48 + a.n % 10) k w.ensures.1
          ∙ ap (λ (l : List ℕ). take a.at a.text.now ++ l) (sym (decimal_more a.n h)),
    )
