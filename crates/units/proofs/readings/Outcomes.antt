-- Any two outcomes that one call's statement allows are equal: theorems over the contracts themselves, as the source has them.
use mathlib.Core.Path.{◌≡◌, ◌∙◌, sym, ap}
use contract.Lifetimes.{Lfts}
use borrow.Fn.World.{ArgsD, ResD}
use borrow.Fn.Kinds.{ended_of}
use denote.Triple.Clauses.{AtExit}
use Rattle.answers.specs.Calls.{Corrected}
use Rattle.units.specs.contracts.readings.reader as reader
use Rattle.units.proofs.readings.reader.Kinds as reader_kinds
use Rattle.units.proofs.readings.reader.Reads as reader_reads
use Rattle.units.specs.contracts.readings.read as read
use Rattle.units.proofs.readings.read.Kinds as read_kinds
use Rattle.units.proofs.readings.read.Reads as read_reads
use Rattle.flipping.specs.declared.endings.Corrected.{Corrected as Numbers}

-- a record of numbers from the answer that it stands for
abbrev numbers : Corrected → Numbers
numbers r = record { number = r.number; flips = r.flips; first = r.first; last = r.last; unlike = r.unlike; lowest = r.lowest }

pub reader_outcome : (κs : Lfts 1) (a : ArgsD reader.signature κs) (r₁ r₂ : ResD reader.signature κs)
    (s₁ s₂ : AtExit (ended_of 1 reader_kinds.ps reader_kinds.r) κs)
    → reader_reads.Post κs a r₁ s₁ → reader_reads.Post κs a r₂ s₂ → r₁ ≡ r₂
reader_outcome κs a r₁ r₂ s₁ s₂ p q = ap (λ x. record { kept = numbers x.kept; code = x.code; limit = x.limit; place = x.place }) (p
    ∙ sym q)

pub read_outcome : (κs : Lfts 2) (a : ArgsD read.signature κs) (r₁ r₂ : ResD read.signature κs)
    (s₁ s₂ : AtExit (ended_of 2 read_kinds.ps read_kinds.r) κs)
    → read_reads.Post κs a r₁ s₁ → read_reads.Post κs a r₂ s₂ → (r₁ ≡ r₂) × (s₁.1.1.0.now ≡ s₂.1.1.0.now)
read_outcome κs a r₁ r₂ s₁ s₂ p q = (
  ap (λ x. record {
    corrected = numbers x.corrected;
    none = x.none;
    next = record { kept = numbers x.next.kept; code = x.next.code; limit = x.next.limit; place = x.next.place };
  }) (p ∙ sym q),
  ap (λ x. x.corrected.out) (p ∙ sym q),
)
