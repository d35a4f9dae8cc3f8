-- `bch::divide` meets its contract: after j passes r has the first j coefficients of the remainder. Assumes nothing.
use mathlib.Core.Path.{◌≡◌, sym, ap, ◌∙◌, subst}
use Prim.Native.Nat.{ℕ, ◌+◌, ◌*◌, ◌^◌, ◌<◌}
use native.Mathlib.Omega.{arith}
use Rattle.bits.specs.Bits.{digit, number}
use Rattle.bits.proofs.Octets.{number_lt, number_digit}
use Rattle.vectors.proofs.Octets.{fits}
use Rattle.word.proofs.ownparity.Words.{number_start, number_more}
use Rattle.bch.specs.Bch.{remainder}
use Rattle.bch.proofs.Division.{remainder_same, remainder_lt}
use Rattle.bch.proofs.Words.{row_odd}
use Rattle.bch.proofs.divide.Goals as goal

pub loop-row-init : goal.loop-row-init
loop-row-init c = (omega arith, number_start (digit 7 (remainder 63 (digit 64 c.args.v))))

pub loop-row-preserved : goal.loop-row-preserved
loop-row-preserved c =
    let l = c.loop-row in
    let u = c.args.v in
    let x = digit 7 (remainder 63 (digit 64 u)) in
    let r = 2 * l.r + c.odd.result in
    let h : l.row-index < 7 = omega arith in
    let e : r ≡ number (l.row-index + 1) x =
    ap (λ (n : ℕ). 2 * l.r + n) (row_odd l.row-index u c.odd.result c.odd.ensures.1 h) ∙ number_more l.row-index l.r x l.invariant.1 in
    (fits (l.row-index + 1) 7 r (subst (λ (n : ℕ). n < 2 ^ (l.row-index + 1)) (sym e) (number_lt (l.row-index + 1) x)) (omega arith), e)

pub returns : goal.returns
returns c =
    let l = c.loop-row in
    let x = digit 64 c.args.v in
    let e : l.row-index ≡ 7 = omega arith in (
      l.invariant.0,
      λ y h.
          l.invariant.1 ∙ ap (λ (n : ℕ). number n (digit 7 (remainder 63 x))) e ∙ number_digit 7 (remainder 63 x) (remainder_lt 63 x)
          ∙ remainder_same 63 x y (λ i k. h i (omega arith)),
    )
