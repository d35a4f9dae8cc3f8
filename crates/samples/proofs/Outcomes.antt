-- Any two outcomes that a call's statement allows are equal: theorems over the contracts themselves, as the source has them.
use mathlib.Core.Path.{◌≡◌, ◌∙◌, sym, ap}
use contract.Lifetimes.{Lfts}
use borrow.Fn.World.{ArgsD, ResD}
use borrow.Fn.Kinds.{ended_of}
use denote.Triple.Clauses.{AtExit}
use Rattle.samples.specs.contracts.correct_samples.{signature}
use Rattle.samples.proofs.correct_samples.Kinds as kinds
use Rattle.samples.proofs.correct_samples.Reads as reads
use Rattle.samples.specs.contracts.correct_patterns as patterns
use Rattle.samples.proofs.correct_patterns.Kinds as patterns_kinds
use Rattle.samples.proofs.correct_patterns.Reads as patterns_reads

pub correct_samples_outcome : (κs : Lfts 2) (a : ArgsD signature κs) (r₁ r₂ : ResD signature κs)
    (s₁ s₂ : AtExit (ended_of 2 kinds.ps kinds.r) κs)
    → reads.Post κs a r₁ s₁ → reads.Post κs a r₂ s₂ → (r₁ ≡ r₂) × (s₁.1.1.1.0.now ≡ s₂.1.1.1.0.now)
correct_samples_outcome κs a r₁ r₂ s₁ s₂ p q = (
  ap (λ x. record { number = x.number; flips = x.flips; first = x.first; last = x.last; unlike = x.unlike; lowest = x.lowest }) (p
      ∙ sym q),
  ap (λ x. x.out) (p ∙ sym q),
)

pub correct_patterns_outcome : (κs : Lfts 2) (a : ArgsD patterns.signature κs) (r₁ r₂ : ResD patterns.signature κs)
    (s₁ s₂ : AtExit (ended_of 2 patterns_kinds.ps patterns_kinds.r) κs)
    → patterns_reads.Post κs a r₁ s₁ → patterns_reads.Post κs a r₂ s₂ → (r₁ ≡ r₂) × (s₁.1.1.1.0.now ≡ s₂.1.1.1.0.now)
correct_patterns_outcome κs a r₁ r₂ s₁ s₂ p q = (
  ap (λ x. record { number = x.number; flips = x.flips; first = x.first; last = x.last; unlike = x.unlike; lowest = x.lowest }) (p
      ∙ sym q),
  ap (λ x. x.out) (p ∙ sym q),
)
