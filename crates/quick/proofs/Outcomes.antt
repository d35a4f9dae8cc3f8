-- Any two outcomes that the call's statement allows are equal: a theorem over the contract itself, as the source has it.
use mathlib.Core.Path.{◌≡◌, ◌∙◌, sym, ap}
use contract.Lifetimes.{Lfts}
use borrow.Fn.World.{ArgsD, ResD}
use borrow.Fn.Kinds.{ended_of}
use denote.Triple.Clauses.{AtExit}
use Rattle.quick.specs.contracts.quick.{signature}
use Rattle.quick.proofs.quick.Kinds as kinds
use Rattle.quick.proofs.quick.Reads as reads

pub quick_outcome : (κs : Lfts 1) (a : ArgsD signature κs) (r₁ r₂ : ResD signature κs) (s₁ s₂ : AtExit (ended_of 1 kinds.ps kinds.r) κs)
    → reads.Post κs a r₁ s₁ → reads.Post κs a r₂ s₂ → r₁ ≡ r₂
quick_outcome κs a r₁ r₂ s₁ s₂ p q = ap (λ x. record { number = x.number; yes = x.yes; evaluated = x.evaluated }) (p ∙ sym q)
