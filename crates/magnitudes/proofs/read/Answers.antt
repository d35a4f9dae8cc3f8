-- `magnitudes::read`: the words that the samples fill, then the one with the last of them. Assumes nothing.
use mathlib.Core.Path.{◌≡◌, sym, ap, ap₂, ◌∙◌}
use mathlib.Core.Bool.{◌&&◌}
use Prim.Native.Nat.{ℕ, ◌+◌, ◌*◌, ◌/◌, ◌%◌}
use native.Mathlib.Omega.{arith}
use lib.ListN.{length}
use Rattle.bits.specs.Bits.{below}
use Rattle.vectors.specs.Vectors.{wbit}
use Rattle.vectors.proofs.Cells.{joined_end}
use Rattle.vectors.proofs.Filling.{word_stored}
use Rattle.magnitudes.specs.Patterns.{read, pattern_of, is_finite, all_finite}
use Rattle.magnitudes.proofs.Patterns.{past_read}
use Rattle.magnitudes.proofs.Reading.{rest_held, below_more}
use Rattle.magnitudes.proofs.read.Goals as goal

pub returns : goal.returns
unfolding all_finite
returns c =
    let a = c.args in
    let x = read a.samples.now in
    let k = length a.samples.now / 64 in
    let n = length a.samples.now % 64 in
    let r = c.read_whole-finite in
    let w = c.word-w in
    let g : ℕ → _ = λ i. is_finite (pattern_of a.samples.now i) in
    let all : 64 * k + n ≡ length a.samples.now = omega arith in (
      word_stored r.new.y k x (wbit a.y.now) r.ensures.0 w.result.bits (omega arith)
          (rest_held x (64 * k) n w.result.bits (λ i h. past_read a.samples.now i (omega (arith, all))) w.ensures.0)
          ∙ joined_end (64 * (k + 1)) x (wbit a.y.now) (λ i h. ap (λ z. z i) c.requires.1
          ∙ sym (past_read a.samples.now i (omega (arith, all)))),
      ap₂ (λ p q. p && q) w.ensures.1 r.ensures.1 ∙ sym (below_more (64 * k) n g) ∙ ap (λ m. below m g) all,
    )
