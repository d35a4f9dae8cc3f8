-- Any two outcomes that one call's statement allows are equal: theorems over the contracts themselves, as the source has them.
use mathlib.Core.Path.{◌≡◌, ◌∙◌, sym, ap}
use contract.Lifetimes.{Lfts}
use borrow.Fn.World.{ArgsD, ResD}
use borrow.Fn.Kinds.{ended_of}
use denote.Triple.Clauses.{AtExit}
use Rattle.units.specs.contracts.unit_octets as unit_octets_lem
use Rattle.units.proofs.unit_octets.Kinds as unit_octets_kinds
use Rattle.units.proofs.unit_octets.Reads as unit_octets_reads
use Rattle.units.specs.contracts.write_unit as write_unit
use Rattle.units.proofs.write_unit.Kinds as write_unit_kinds
use Rattle.units.proofs.write_unit.Reads as write_unit_reads

pub unit_octets_outcome : (κs : Lfts 0) (a : ArgsD unit_octets_lem.signature κs) (r₁ r₂ : ResD unit_octets_lem.signature κs)
    (s₁ s₂ : AtExit (ended_of 0 unit_octets_kinds.ps unit_octets_kinds.r) κs)
    → unit_octets_reads.Post κs a r₁ s₁ → unit_octets_reads.Post κs a r₂ s₂ → r₁ ≡ r₂
unit_octets_outcome κs a r₁ r₂ s₁ s₂ p q = p ∙ sym q

pub write_unit_outcome : (κs : Lfts 2) (a : ArgsD write_unit.signature κs) (r₁ r₂ : ResD write_unit.signature κs)
    (s₁ s₂ : AtExit (ended_of 2 write_unit_kinds.ps write_unit_kinds.r) κs)
    → write_unit_reads.Post κs a r₁ s₁ → write_unit_reads.Post κs a r₂ s₂ → (r₁ ≡ r₂) × (s₁.1.1.0.now ≡ s₂.1.1.0.now)
write_unit_outcome κs a r₁ r₂ s₁ s₂ p q = (ap (λ x. x.number) (p ∙ sym q), ap (λ x. x.out) (p ∙ sym q))
