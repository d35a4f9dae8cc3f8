-- Any two outcomes that the call's statement allows are equal: a theorem over the contract itself, as the source has it.
use mathlib.Core.Path.{◌≡◌, ◌∙◌, sym, ap}
use contract.Lifetimes.{Lfts}
use borrow.Fn.World.{ArgsD, ResD}
use borrow.Fn.Kinds.{ended_of}
use denote.Triple.Clauses.{AtExit}
use Rattle.nearest.specs.contracts.nearest.{signature}
use Rattle.nearest.proofs.nearest.Kinds as kinds
use Rattle.nearest.proofs.nearest.Reads as reads

pub nearest_outcome : (κs : Lfts 2) (a : ArgsD signature κs) (r₁ r₂ : ResD signature κs) (s₁ s₂ : AtExit (ended_of 2 kinds.ps kinds.r) κs)
    → reads.Post κs a r₁ s₁ → reads.Post κs a r₂ s₂ → (r₁ ≡ r₂) × (s₁.1.1.0.now ≡ s₂.1.1.0.now)
nearest_outcome κs a r₁ r₂ s₁ s₂ p q =
    (ap (λ x. record { number = x.number; least = x.least; bits = x.bits }) (p ∙ sym q), ap (λ x. x.out) (p ∙ sym q))
