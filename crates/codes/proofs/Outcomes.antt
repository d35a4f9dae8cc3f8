-- Any two outcomes that one call's statement allows are equal: theorems over the contracts themselves, as the source has them.
use mathlib.Core.Path.{◌≡◌, ◌∙◌, sym, ap}
use contract.Lifetimes.{Lfts}
use borrow.Fn.World.{ArgsD, ResD}
use borrow.Fn.Kinds.{ended_of}
use denote.Triple.Clauses.{AtExit}
use Rattle.codes.specs.contracts.encode as encode
use Rattle.codes.proofs.encode.Kinds as encode_kinds
use Rattle.codes.proofs.encode.Reads as encode_reads
use Rattle.codes.specs.contracts.check as check
use Rattle.codes.proofs.check.Kinds as check_kinds
use Rattle.codes.proofs.check.Reads as check_reads
use Rattle.codes.specs.contracts.open as open_call
use Rattle.codes.proofs.open.Kinds as open_kinds
use Rattle.codes.proofs.open.Reads as open_reads
use Rattle.codes.specs.contracts.correct as correct
use Rattle.codes.proofs.correct.Kinds as correct_kinds
use Rattle.codes.proofs.correct.Reads as correct_reads
use Rattle.codes.specs.contracts.step as step
use Rattle.codes.proofs.step.Kinds as step_kinds
use Rattle.codes.proofs.step.Reads as step_reads

pub encode_outcome : (κs : Lfts 2) (a : ArgsD encode.signature κs) (r₁ r₂ : ResD encode.signature κs)
    (s₁ s₂ : AtExit (ended_of 2 encode_kinds.ps encode_kinds.r) κs)
    → encode_reads.Post κs a r₁ s₁ → encode_reads.Post κs a r₂ s₂ → (r₁ ≡ r₂) × (s₁.1.1.0.now ≡ s₂.1.1.0.now)
encode_outcome κs a r₁ r₂ s₁ s₂ p q = (ap (λ x. x.number) (p ∙ sym q), ap (λ x. x.out) (p ∙ sym q))

pub check_outcome : (κs : Lfts 1) (a : ArgsD check.signature κs) (r₁ r₂ : ResD check.signature κs)
    (s₁ s₂ : AtExit (ended_of 1 check_kinds.ps check_kinds.r) κs)
    → check_reads.Post κs a r₁ s₁ → check_reads.Post κs a r₂ s₂ → r₁ ≡ r₂
check_outcome κs a r₁ r₂ s₁ s₂ p q = ap (λ x. record { number = x.number; broken = x.broken; lowest = x.lowest }) (p ∙ sym q)

pub open_outcome : (κs : Lfts 1) (a : ArgsD open_call.signature κs) (r₁ r₂ : ResD open_call.signature κs)
    (s₁ s₂ : AtExit (ended_of 1 open_kinds.ps open_kinds.r) κs)
    → open_reads.Post κs a r₁ s₁ → open_reads.Post κs a r₂ s₂ → (r₁.part.now ≡ r₂.part.now) × (r₁.number ≡ r₂.number)
    × (r₁.lowest ≡ r₂.lowest)
open_outcome κs a r₁ r₂ s₁ s₂ p q = (ap (λ x. x.part) (p ∙ sym q), ap (λ x. x.number) (p ∙ sym q), ap (λ x. x.lowest) (p ∙ sym q))

pub correct_outcome : (κs : Lfts 2) (a : ArgsD correct.signature κs) (r₁ r₂ : ResD correct.signature κs)
    (s₁ s₂ : AtExit (ended_of 2 correct_kinds.ps correct_kinds.r) κs)
    → correct_reads.Post κs a r₁ s₁ → correct_reads.Post κs a r₂ s₂ → (r₁ ≡ r₂) × (s₁.1.1.1.0.now ≡ s₂.1.1.1.0.now)
correct_outcome κs a r₁ r₂ s₁ s₂ p q = (
  ap (λ x. record { number = x.number; flips = x.flips; first = x.first; last = x.last; unlike = x.unlike; lowest = x.lowest }) (p
      ∙ sym q),
  ap (λ x. x.out) (p ∙ sym q),
)

pub step_outcome : (κs : Lfts 2) (a : ArgsD step.signature κs) (r₁ r₂ : ResD step.signature κs)
    (s₁ s₂ : AtExit (ended_of 2 step_kinds.ps step_kinds.r) κs)
    → step_reads.Post κs a r₁ s₁ → step_reads.Post κs a r₂ s₂ → (r₁ ≡ r₂) × (s₁.1.1.0.now ≡ s₂.1.1.0.now)
step_outcome κs a r₁ r₂ s₁ s₂ p q =
    (ap (λ x. record { number = x.number; quiet = x.quiet; bit = x.bit; excess = x.excess }) (p ∙ sym q), ap (λ x. x.out) (p ∙ sym q))
