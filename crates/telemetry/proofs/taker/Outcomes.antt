-- Any two outcomes that one call's statement allows are equal: theorems over the contracts themselves, as the source has them.
use mathlib.Core.Path.{◌≡◌, ◌∙◌, sym, ap}
use contract.Lifetimes.{Lfts}
use borrow.Fn.World.{ArgsD, ResD}
use borrow.Fn.Kinds.{ended_of}
use denote.Triple.Clauses.{AtExit}
use Rattle.answers.specs.Calls.{Corrected}
use Rattle.flipping.specs.declared.endings.Corrected.{Corrected as Numbers}
use Rattle.telemetry.specs.taker.Taking.{Taker}
use Rattle.telemetry.specs.declared.taker.Taker.{Taker as TakerState}
use Rattle.telemetry.specs.contracts.taker.Taker.new as new
use Rattle.telemetry.proofs.taker.Taker.new.Kinds as new_kinds
use Rattle.telemetry.proofs.taker.Taker.new.Reads as new_reads
use Rattle.telemetry.specs.contracts.taker.Taker.told as told
use Rattle.telemetry.proofs.taker.Taker.told.Kinds as told_kinds
use Rattle.telemetry.proofs.taker.Taker.told.Reads as told_reads
use Rattle.telemetry.specs.contracts.taker.Taker.take as take
use Rattle.telemetry.proofs.taker.Taker.take.Kinds as take_kinds
use Rattle.telemetry.proofs.taker.Taker.take.Reads as take_reads

-- a record of numbers from the answer that it stands for
abbrev numbers : Corrected → Numbers
numbers r = record { number = r.number; flips = r.flips; first = r.first; last = r.last; unlike = r.unlike; lowest = r.lowest }

abbrev taker : Taker → TakerState
taker x = record { place = x.place; edition = x.told.edition; limit = x.told.limit; octets = x.octets }

pub new_outcome : (κs : Lfts 0) (a : ArgsD new.signature κs) (r₁ r₂ : ResD new.signature κs)
    (s₁ s₂ : AtExit (ended_of 0 new_kinds.ps new_kinds.r) κs)
    → new_reads.Post κs a r₁ s₁ → new_reads.Post κs a r₂ s₂ → r₁ ≡ r₂
new_outcome κs a r₁ r₂ s₁ s₂ p q = ap (λ x. taker x) (p ∙ sym q)

pub told_outcome : (κs : Lfts 0) (a : ArgsD told.signature κs) (r₁ r₂ : ResD told.signature κs)
    (s₁ s₂ : AtExit (ended_of 0 told_kinds.ps told_kinds.r) κs)
    → told_reads.Post κs a r₁ s₁ → told_reads.Post κs a r₂ s₂ → r₁ ≡ r₂
told_outcome κs a r₁ r₂ s₁ s₂ p q = ap (λ x. record { number = x.number; taker = taker x.taker }) (p ∙ sym q)

pub take_outcome : (κs : Lfts 1) (a : ArgsD take.signature κs) (r₁ r₂ : ResD take.signature κs)
    (s₁ s₂ : AtExit (ended_of 1 take_kinds.ps take_kinds.r) κs)
    → take_reads.Post κs a r₁ s₁ → take_reads.Post κs a r₂ s₂ → r₁ ≡ r₂
take_outcome κs a r₁ r₂ s₁ s₂ p q =
    ap (λ x. record {
      next = taker x.next;
      taken = x.taken;
      complete = x.complete;
      corrected = numbers x.corrected;
      word = x.corrected.out;
    }) (p ∙ sym q)
