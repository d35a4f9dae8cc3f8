-- `magnitudes::word`: two halves. Assumes nothing.
use mathlib.Core.Path.{◌≡◌, ap, ap₂, sym, ◌∙◌, fun_ext}
use mathlib.Core.Bool.{◌&&◌}
use Prim.Native.Nat.{ℕ, ◌+◌, ◌-◌}
use native.Mathlib.Nat.{add_assoc}
use native.Mathlib.Omega.{arith}
use Rattle.bits.specs.Bits.{below}
use Rattle.magnitudes.specs.Patterns.{read, pattern_of, is_finite}
use Rattle.magnitudes.proofs.Reading.{two_halves, below_more}
use borrow.Author.Rules.{rules}
use Rattle.magnitudes.proofs.word.Goals as goal

pub returns : goal.returns
returns c =
    let a = c.args in
    let u = c.half-a in
    let v = c.half-b in
    let m = c.min-m.result in
    let e = c.min-m.ensures in
    let n : m + (a.n - m) ≡ a.n = omega arith in
    let g : ℕ → _ = λ i. is_finite (pattern_of a.samples.now (a.at + i)) in (
      two_halves (read a.samples.now) a.at m a.n u.result.bits v.result.bits (omega arith) (λ h. omega arith)
          c.requires.0 (omega arith) (search rules)
          u.ensures.0 v.ensures.0,
      ap₂ (λ p q. p && q) (v.ensures.1
          ∙ ap (below (a.n - m)) (fun_ext (λ i. ap (λ k. is_finite (pattern_of a.samples.now k)) (add_assoc a.at m i))))
          u.ensures.1
          ∙ sym (below_more m (a.n - m) g) ∙ ap (λ k. below k g) n,
    )
