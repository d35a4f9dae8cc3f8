-- Any two outcomes that one call's statement allows are equal: theorems over the contracts themselves, as the source has them.
use mathlib.Core.Path.{◌≡◌, ◌∙◌, sym, ap}
use contract.Lifetimes.{Lfts}
use borrow.Fn.World.{ArgsD, ResD}
use borrow.Fn.Kinds.{ended_of}
use denote.Triple.Clauses.{AtExit}
use Rattle.blocks.specs.Blocks.{Imported}
use Rattle.blocks.specs.contracts.importing.import_blocks as import_blocks
use Rattle.blocks.proofs.importing.import_blocks.Kinds as import_kinds
use Rattle.blocks.proofs.importing.import_blocks.Reads as import_reads
use Rattle.blocks.specs.contracts.importing.imported_octets as imported_octets
use Rattle.blocks.proofs.importing.imported_octets.Kinds as imported_kinds
use Rattle.blocks.proofs.importing.imported_octets.Reads as imported_reads

pub import_blocks_outcome : (κs : Lfts 2) (a : ArgsD import_blocks.signature κs) (r₁ r₂ : ResD import_blocks.signature κs)
    (s₁ s₂ : AtExit (ended_of 2 import_kinds.ps import_kinds.r) κs)
    → import_reads.Post κs a r₁ s₁ → import_reads.Post κs a r₂ s₂ → (r₁ ≡ r₂) × (s₁.1.0.now ≡ s₂.1.0.now)
import_blocks_outcome κs a r₁ r₂ s₁ s₂ p q =
    (ap (λ (x : Imported). record { number = x.number; block = x.block }) (p ∙ sym q), ap (λ (x : Imported). x.out) (p ∙ sym q))

pub imported_octets_outcome : (κs : Lfts 1) (a : ArgsD imported_octets.signature κs) (r₁ r₂ : ResD imported_octets.signature κs)
    (s₁ s₂ : AtExit (ended_of 1 imported_kinds.ps imported_kinds.r) κs)
    → imported_reads.Post κs a r₁ s₁ → imported_reads.Post κs a r₂ s₂ → r₁ ≡ r₂
imported_octets_outcome κs a r₁ r₂ s₁ s₂ p q = p ∙ sym q
