-- `unlike::unlike_words`: sum counts the first j words. Assumes nothing.
use mathlib.Core.Path.{ap, ◌∙◌, sym}
use Prim.Native.Nat.{ℕ, ◌+◌}
use native.Mathlib.Omega.{arith}
use Rattle.bits.specs.Bits.{◌⊕◌}
use Rattle.bits.proofs.Counting.{count-start}
use Rattle.vectors.specs.Vectors.{wbit}
use Rattle.vectors.proofs.Filling.{word_holds}
use Rattle.word.proofs.unlike.Differing.{apart_more}
use Rattle.word.proofs.unlike.unlike_words.Goals as goal

pub loop-j-init : goal.loop-j-init
loop-j-init c =
    (count-start (λ i. wbit c.args.x.now i ⊕ wbit c.args.y.now i), omega arith)

pub loop-j-preserved : goal.loop-j-preserved
loop-j-preserved c =
    let l = c.loop-j in
    let a = c.args in
    let m = apart_more (wbit a.x.now) (wbit a.y.now) l.j _ _ _ (word_holds a.x.now l.j) (word_holds a.y.now l.j)
    c.apart-sum.ensures.0 in
    (ap (λ (n : ℕ). n + c.apart-sum.result) l.invariant.0 ∙ sym m, omega (arith, c.apart-sum.ensures.1))
