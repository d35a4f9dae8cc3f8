-- `unlike::apart_whole`: sum counts the first j words.  Assumes nothing.
use mathlib.Core.Path.{ap, ◌∙◌, sym}
use Prim.Native.Nat.{ℕ, ◌+◌}
use native.Mathlib.Omega.{arith}
use Rattle.bits.specs.Bits.{Word, bit, ◌⊕◌}
use Rattle.bits.proofs.Counting.{count-start}
use Rattle.vectors.specs.Vectors.{wbit}
use Rattle.word.proofs.unlike.Differing.{apart_more, from_more, place}
use Rattle.word.proofs.unlike.apart_whole.Goals as goal

pub loop-j-init : goal.loop-j-init
loop-j-init c =
    let a = c.args in
    (count-start (λ i. bit a.octets.now i ⊕ wbit a.y.now (a.u + i)), omega arith)

pub loop-j-preserved : goal.loop-j-preserved
loop-j-preserved c =
    let a = c.args in
    let l = c.loop-j in
    let x : Word = bit a.octets.now in
    let y : Word = λ i. wbit a.y.now (a.u + i) in
    let m = apart_more x y l.j _ _ _ (from_more x l.j _ c.eight.ensures) (λ i h. c.window.ensures i h
    ∙ ap (wbit a.y.now) (place a.u l.j i)) c.apart-sum.ensures.0 in
    (ap (λ (s : ℕ). s + c.apart-sum.result) l.invariant.0 ∙ sym m, omega (arith, c.apart-sum.ensures.1))
