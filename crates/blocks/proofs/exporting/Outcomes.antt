-- Any two outcomes that one call's statement allows are equal: theorems over the contracts themselves, as the source has them.
use mathlib.Core.Path.{◌≡◌, ◌∙◌, sym, ap}
use contract.Lifetimes.{Lfts}
use borrow.Fn.World.{ArgsD, ResD}
use borrow.Fn.Kinds.{ended_of}
use denote.Triple.Clauses.{AtExit}
use Rattle.blocks.specs.Blocks.{Exported}
use Rattle.blocks.specs.contracts.exporting.export_blocks as export_blocks
use Rattle.blocks.proofs.exporting.export_blocks.Kinds as export_kinds
use Rattle.blocks.proofs.exporting.export_blocks.Reads as export_reads
use Rattle.blocks.specs.contracts.exporting.exported_octets as exported_octets
use Rattle.blocks.proofs.exporting.exported_octets.Kinds as exported_kinds
use Rattle.blocks.proofs.exporting.exported_octets.Reads as exported_reads

pub export_blocks_outcome : (κs : Lfts 2) (a : ArgsD export_blocks.signature κs) (r₁ r₂ : ResD export_blocks.signature κs)
    (s₁ s₂ : AtExit (ended_of 2 export_kinds.ps export_kinds.r) κs)
    → export_reads.Post κs a r₁ s₁ → export_reads.Post κs a r₂ s₂ → (r₁ ≡ r₂) × (s₁.1.0.now ≡ s₂.1.0.now)
export_blocks_outcome κs a r₁ r₂ s₁ s₂ p q = (ap (λ (x : Exported). x.number) (p ∙ sym q), ap (λ (x : Exported). x.out) (p ∙ sym q))

pub exported_octets_outcome : (κs : Lfts 0) (a : ArgsD exported_octets.signature κs) (r₁ r₂ : ResD exported_octets.signature κs)
    (s₁ s₂ : AtExit (ended_of 0 exported_kinds.ps exported_kinds.r) κs)
    → exported_reads.Post κs a r₁ s₁ → exported_reads.Post κs a r₂ s₂ → r₁ ≡ r₂
exported_octets_outcome κs a r₁ r₂ s₁ s₂ p q = p ∙ sym q
