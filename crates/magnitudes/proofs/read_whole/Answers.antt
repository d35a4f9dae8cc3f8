-- `magnitudes::read_whole`: after k passes the first k words have the samples' bits. Assumes nothing.
use mathlib.Core.Path.{◌≡◌, sym, ap, ap₂, ◌∙◌}
use mathlib.Core.Bool.{◌&&◌}
use Prim.Native.Nat.{ℕ, ◌+◌, ◌*◌}
use native.Mathlib.Omega.{arith}
use Rattle.bits.specs.Bits.{below}
use Rattle.vectors.proofs.Filling.{filled_more}
use Rattle.magnitudes.specs.Patterns.{read, pattern_of, is_finite}
use Rattle.magnitudes.proofs.Reading.{below_more, all_held}
use Rattle.magnitudes.proofs.read_whole.Goals as goal

pub loop-k-preserved : goal.loop-k-preserved
loop-k-preserved c =
    let a = c.args in
    let l = c.loop-k in
    let w = c.word-w in
    let x = read a.samples.now in
    let g : ℕ → _ = λ i. is_finite (pattern_of a.samples.now i) in
    let n : 64 * (l.k + 1) ≡ 64 * l.k + 64 = omega arith in (
      filled_more a.y.now x l.y l.k l.invariant.0 w.result.bits (omega arith)
          (all_held x (64 * l.k) w.result.bits w.ensures.0),
      ap₂ (λ p q. p && q) w.ensures.1 l.invariant.1 ∙ sym (below_more (64 * l.k) 64 g) ∙ ap (λ k. below k g) (sym n),
    )
