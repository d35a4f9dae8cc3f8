-- `ownparity::folded` meets its contract: v is the sum of the words so far. Assumes nothing.
use mathlib.Core.Path.{◌≡◌, ap, ◌∙◌}
use Prim.Native.Nat.{ℕ}
use native.Mathlib.Omega.{arith}
use lib.ListN.{length}
use Rattle.bits.specs.Bits.{sum}
use Rattle.word.proofs.ownparity.Words.{odd_word, fold_start, fold_more, fold_all}
use Rattle.word.proofs.ownparity.folded.Goals as goal

pub loop-word-init : goal.loop-word-init
loop-word-init c = fold_start c.args.ws.now

pub loop-word-preserved : goal.loop-word-preserved
loop-word-preserved c =
    let a = c.args in
    let l = c.loop-word in
    fold_more a.ws.now l.v l.word-index l.invariant

pub returns : goal.returns
returns c =
    let a = c.args in
    let l = c.loop-word in
    let e : l.word-index ≡ length a.ws.now = omega arith in
    l.invariant ∙ ap (λ (k : ℕ). sum k (odd_word a.ws.now)) e ∙ fold_all a.ws.now (length a.ws.now)
