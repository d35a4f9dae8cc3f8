-- `unlike::unlike`: whole words, and what is left. Assumes nothing.
use mathlib.Core.Path.{◌≡◌, sym, ap, ◌∙◌}
use mathlib.Core.Bool.{◌&&◌}
use Prim.Native.Nat.{ℕ, ◌+◌, ◌*◌, ◌/◌, ◌%◌}
use native.Mathlib.Omega.{arith}
use lib.Dec.{ltb}
use lib.ListN.{length}
use Rattle.bits.specs.Bits.{Word, bit, count, ◌⊕◌}
use Rattle.vectors.specs.Vectors.{wbit}
use Rattle.word.proofs.unlike.Differing.{apart_rest, place}
use Rattle.word.proofs.unlike.unlike.Goals as goal

pub returns : goal.returns
returns c =
    let w = c.apart_whole-sum.ensures in
    let a = c.args in
    let k = a.n / 64 in
    let t = a.n % 64 in
    let x : Word = bit a.octets.now in
    let y : Word = λ i. wbit a.y.now (a.u + i) in
    let e : 64 * k + t ≡ a.n = omega arith in
    let whole : length a.octets.now / 8 ≡ k = omega arith in
    let m = apart_rest x y k t (omega arith) _ _ _
    (λ i l. c.front-v.ensures i l
    ∙ ap (λ b. ltb i t && b) (c.last.ensures i l ∙ ap (λ (m : ℕ). x (64 * m + i)) whole))
    (λ i l. c.front-w.ensures i l ∙ ap (λ b. ltb i t && b) (c.window.ensures i l
    ∙ ap (wbit a.y.now) (place a.u k i))) c.apart.ensures.0 in (
      ap (λ (s : ℕ). s + c.apart.result) w.0 ∙ sym m
          ∙ ap (λ (n : ℕ). count n (λ i. x i ⊕ y i)) e,
      omega (arith, w.1, c.apart.ensures.1),
    )
