-- Any two outcomes that one call's statement allows are equal: theorems over the contracts themselves, as the source has them.
use mathlib.Core.Path.{◌≡◌, ◌∙◌, sym, ap}
use contract.Lifetimes.{Lfts}
use borrow.Fn.World.{ArgsD, ResD}
use borrow.Fn.Kinds.{ended_of}
use denote.Triple.Clauses.{AtExit}
use Rattle.bch.specs.contracts.bch_encode as encode
use Rattle.bch.proofs.bch_encode.Kinds as encode_kinds
use Rattle.bch.proofs.bch_encode.Reads as encode_reads
use Rattle.bch.specs.contracts.bch_check as check
use Rattle.bch.proofs.bch_check.Kinds as check_kinds
use Rattle.bch.proofs.bch_check.Reads as check_reads

pub bch_encode_outcome : (κs : Lfts 2) (a : ArgsD encode.signature κs) (r₁ r₂ : ResD encode.signature κs)
    (s₁ s₂ : AtExit (ended_of 2 encode_kinds.ps encode_kinds.r) κs)
    → encode_reads.Post κs a r₁ s₁ → encode_reads.Post κs a r₂ s₂ → (r₁ ≡ r₂) × (s₁.1.0.now ≡ s₂.1.0.now)
bch_encode_outcome κs a r₁ r₂ s₁ s₂ p q = (ap (λ x. x.number) (p ∙ sym q), ap (λ x. x.out) (p ∙ sym q))

pub bch_check_outcome : (κs : Lfts 2) (a : ArgsD check.signature κs) (r₁ r₂ : ResD check.signature κs)
    (s₁ s₂ : AtExit (ended_of 2 check_kinds.ps check_kinds.r) κs)
    → check_reads.Post κs a r₁ s₁ → check_reads.Post κs a r₂ s₂ → (r₁ ≡ r₂) × (s₁.1.1.0.now ≡ s₂.1.1.0.now)
bch_check_outcome κs a r₁ r₂ s₁ s₂ p q =
    (ap (λ x. record { number = x.number; mended = x.mended }) (p ∙ sym q), ap (λ x. x.out) (p ∙ sym q))
