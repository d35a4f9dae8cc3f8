-- `magnitudes::half`: the bits of the first i samples are marked, and these are finite or not. Assumes nothing.
use mathlib.Core.Path.{◌≡◌, sym, ap, ap₂, ◌∙◌}
use mathlib.Core.Bool.{◌&&◌}
use Prim.Native.Nat.{suc, ◌+◌}
use native.Mathlib.Omega.{arith}
use Rattle.bits.specs.Bits.{below}
use Rattle.vectors.specs.Vectors.{from}
use Rattle.magnitudes.specs.Patterns.{read, pattern_of, is_finite}
use Rattle.magnitudes.proofs.Reading.{marked_more}
use Rattle.magnitudes.proofs.half.Goals as goal

pub loop-i-preserved : goal.loop-i-preserved
loop-i-preserved c =
    let l = c.loop-i in
    let a = c.args in
    let s = a.samples.now in
    let x = from a.at (read s) in
    let one : l.i + 1 ≡ suc l.i = omega arith in (
      marked_more x l.bits l.i c.mark-bits.result (omega arith) l.invariant.0
          (unfold read in c.mark-bits.ensures),
      ap₂ (λ p q. p && q) c.is_finite-finite.ensures l.invariant.1
          ∙ ap (λ k. below k (λ j. is_finite (pattern_of s (a.at + j)))) (sym one),
    )
