-- `ownparity::odd_blocks` meets its contract: after j passes v has a bit for each of the first j blocks. Assumes nothing.
use mathlib.Core.Path.{◌≡◌, sym, ap, ◌∙◌, subst}
use Prim.Native.Nat.{ℕ, ◌+◌, ◌*◌, ◌^◌, ◌<◌}
use native.Mathlib.Omega.{arith}
use Rattle.bits.specs.Bits.{number}
use Rattle.vectors.specs.Vectors.{wbit}
use Rattle.bits.proofs.Octets.{number_lt}
use Rattle.vectors.proofs.Octets.{fits}
use Rattle.word.specs.ownparity.Odd.{odd_block}
use Rattle.word.proofs.ownparity.Words.{number_start, number_more}
use Rattle.word.proofs.ownparity.odd_blocks.Goals as goal

pub loop-j-init : goal.loop-j-init
loop-j-init c = (omega arith, number_start (odd_block (wbit c.args.y.now)))

pub loop-j-preserved : goal.loop-j-preserved
loop-j-preserved c =
    let l = c.loop-j in
    let x = odd_block (wbit c.args.y.now) in
    let v = 2 * l.v + c.odd.result in
    let e : v ≡ number (l.j + 1) x = ap (λ (n : ℕ). 2 * l.v + n) c.odd.ensures.1 ∙ number_more l.j l.v x l.invariant.1 in
    (fits (l.j + 1) 16 v (subst (λ (n : ℕ). n < 2 ^ (l.j + 1)) (sym e) (number_lt (l.j + 1) x)) (omega arith), e)
