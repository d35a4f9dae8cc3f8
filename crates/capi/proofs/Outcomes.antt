-- Any two outcomes that one exported call's statement allows are equal: theorems over the contracts themselves, as the source has them.
use mathlib.Core.Path.{◌≡◌, ◌∙◌, sym, ap, ap₂}
use contract.Lifetimes.{Lfts}
use borrow.Fn.World.{ArgsD, ResD}
use borrow.Fn.Kinds.{ended_of}
use denote.Triple.Clauses.{AtExit}
use Rattle.capi.specs.contracts.pandoricchia_version as version
use Rattle.capi.proofs.pandoricchia_version.Kinds as version_kinds
use Rattle.capi.proofs.pandoricchia_version.Reads as version_reads
use Rattle.capi.specs.contracts.pandoricchia_word_octets as word_octets_lem
use Rattle.capi.proofs.pandoricchia_word_octets.Kinds as word_octets_kinds
use Rattle.capi.proofs.pandoricchia_word_octets.Reads as word_octets_reads
use Rattle.capi.specs.contracts.pandoricchia_information_octets as information_octets_lem
use Rattle.capi.proofs.pandoricchia_information_octets.Kinds as information_octets_kinds
use Rattle.capi.proofs.pandoricchia_information_octets.Reads as information_octets_reads
use Rattle.capi.specs.contracts.pandoricchia_encode as encode
use Rattle.capi.proofs.pandoricchia_encode.Kinds as encode_kinds
use Rattle.capi.proofs.pandoricchia_encode.Reads as encode_reads
use Rattle.capi.specs.contracts.pandoricchia_check as check
use Rattle.capi.proofs.pandoricchia_check.Kinds as check_kinds
use Rattle.capi.proofs.pandoricchia_check.Reads as check_reads
use Rattle.telemetry.specs.taker.Taking.{Taker as TakerAnswer}
use Rattle.telemetry.specs.declared.taker.Taker.{Taker}
use Rattle.capi.specs.contracts.pandoricchia_taker as taker
use Rattle.capi.proofs.pandoricchia_taker.Kinds as taker_kinds
use Rattle.capi.proofs.pandoricchia_taker.Reads as taker_reads
use Rattle.capi.specs.contracts.pandoricchia_taker_for as taker_for
use Rattle.capi.proofs.pandoricchia_taker_for.Kinds as taker_for_kinds
use Rattle.capi.proofs.pandoricchia_taker_for.Reads as taker_for_reads
use Rattle.capi.specs.contracts.pandoricchia_take as take
use Rattle.capi.proofs.pandoricchia_take.Kinds as take_kinds
use Rattle.capi.proofs.pandoricchia_take.Reads as take_reads
use Rattle.capi.specs.contracts.pandoricchia_quick as quick
use Rattle.capi.proofs.pandoricchia_quick.Kinds as quick_kinds
use Rattle.capi.proofs.pandoricchia_quick.Reads as quick_reads
use Rattle.capi.specs.contracts.pandoricchia_nearest as nearest
use Rattle.capi.proofs.pandoricchia_nearest.Kinds as nearest_kinds
use Rattle.capi.proofs.pandoricchia_nearest.Reads as nearest_reads
use Rattle.capi.specs.contracts.pandoricchia_open as open_call
use Rattle.capi.proofs.pandoricchia_open.Kinds as open_kinds
use Rattle.capi.proofs.pandoricchia_open.Reads as open_reads
use Rattle.capi.specs.contracts.pandoricchia_correct_samples as correct_samples
use Rattle.capi.proofs.pandoricchia_correct_samples.Kinds as correct_samples_kinds
use Rattle.capi.proofs.pandoricchia_correct_samples.Reads as correct_samples_reads
use Rattle.capi.specs.contracts.pandoricchia_correct as correct
use Rattle.capi.proofs.pandoricchia_correct.Kinds as correct_kinds
use Rattle.capi.proofs.pandoricchia_correct.Reads as correct_reads
use Rattle.capi.specs.contracts.pandoricchia_step as step
use Rattle.capi.proofs.pandoricchia_step.Kinds as step_kinds
use Rattle.capi.proofs.pandoricchia_step.Reads as step_reads
use Rattle.capi.specs.contracts.pandoricchia_unit_octets as unit_octets_lem
use Rattle.capi.proofs.pandoricchia_unit_octets.Kinds as unit_octets_kinds
use Rattle.capi.proofs.pandoricchia_unit_octets.Reads as unit_octets_reads
use Rattle.capi.specs.contracts.pandoricchia_write_unit as write_unit
use Rattle.capi.proofs.pandoricchia_write_unit.Kinds as write_unit_kinds
use Rattle.capi.proofs.pandoricchia_write_unit.Reads as write_unit_reads
use Rattle.capi.specs.contracts.pandoricchia_reader as reader
use Rattle.capi.proofs.pandoricchia_reader.Kinds as reader_kinds
use Rattle.capi.proofs.pandoricchia_reader.Reads as reader_reads
use Rattle.capi.specs.contracts.pandoricchia_read as read
use Rattle.capi.proofs.pandoricchia_read.Kinds as read_kinds
use Rattle.capi.proofs.pandoricchia_read.Reads as read_reads
use Rattle.capi.specs.contracts.pandoricchia_bch_encode as bch_encode
use Rattle.capi.proofs.pandoricchia_bch_encode.Kinds as bch_encode_kinds
use Rattle.capi.proofs.pandoricchia_bch_encode.Reads as bch_encode_reads
use Rattle.capi.specs.contracts.pandoricchia_bch_check as bch_check
use Rattle.capi.proofs.pandoricchia_bch_check.Kinds as bch_check_kinds
use Rattle.capi.proofs.pandoricchia_bch_check.Reads as bch_check_reads
use Rattle.capi.specs.contracts.pandoricchia_import_blocks as import_blocks
use Rattle.capi.proofs.pandoricchia_import_blocks.Kinds as import_blocks_kinds
use Rattle.capi.proofs.pandoricchia_import_blocks.Reads as import_blocks_reads
use Rattle.capi.specs.contracts.pandoricchia_imported_octets as imported_octets
use Rattle.capi.proofs.pandoricchia_imported_octets.Kinds as imported_octets_kinds
use Rattle.capi.proofs.pandoricchia_imported_octets.Reads as imported_octets_reads
use Rattle.capi.specs.contracts.pandoricchia_export_blocks as export_blocks
use Rattle.capi.proofs.pandoricchia_export_blocks.Kinds as export_blocks_kinds
use Rattle.capi.proofs.pandoricchia_export_blocks.Reads as export_blocks_reads
use Rattle.capi.specs.contracts.pandoricchia_exported_octets as exported_octets
use Rattle.capi.proofs.pandoricchia_exported_octets.Kinds as exported_octets_kinds
use Rattle.capi.proofs.pandoricchia_exported_octets.Reads as exported_octets_reads
use Rattle.answers.specs.Calls.{Corrected}
use Rattle.blocks.specs.Blocks.{Imported, Exported}
use Rattle.flipping.specs.declared.endings.Corrected.{Corrected as Numbers}

pub version_outcome : (κs : Lfts 0) (a : ArgsD version.signature κs) (r₁ r₂ : ResD version.signature κs)
    (s₁ s₂ : AtExit (ended_of 0 version_kinds.ps version_kinds.r) κs)
    → version_reads.Post κs a r₁ s₁ → version_reads.Post κs a r₂ s₂ → r₁ ≡ r₂
version_outcome κs a r₁ r₂ s₁ s₂ p q = p ∙ sym q

pub word_octets_outcome : (κs : Lfts 0) (a : ArgsD word_octets_lem.signature κs) (r₁ r₂ : ResD word_octets_lem.signature κs)
    (s₁ s₂ : AtExit (ended_of 0 word_octets_kinds.ps word_octets_kinds.r) κs)
    → word_octets_reads.Post κs a r₁ s₁ → word_octets_reads.Post κs a r₂ s₂ → r₁ ≡ r₂
word_octets_outcome κs a r₁ r₂ s₁ s₂ p q = p ∙ sym q

pub information_octets_outcome : (κs : Lfts 0) (a : ArgsD information_octets_lem.signature κs)
    (r₁ r₂ : ResD information_octets_lem.signature κs)
    (s₁ s₂ : AtExit (ended_of 0 information_octets_kinds.ps information_octets_kinds.r) κs)
    → information_octets_reads.Post κs a r₁ s₁ → information_octets_reads.Post κs a r₂ s₂ → r₁ ≡ r₂
information_octets_outcome κs a r₁ r₂ s₁ s₂ p q = p ∙ sym q

pub encode_outcome : (κs : Lfts 2) (a : ArgsD encode.signature κs) (r₁ r₂ : ResD encode.signature κs)
    (s₁ s₂ : AtExit (ended_of 2 encode_kinds.ps encode_kinds.r) κs)
    → encode_reads.Post κs a r₁ s₁ → encode_reads.Post κs a r₂ s₂ → (r₁ ≡ r₂) × (s₁.1.1.0.now ≡ s₂.1.1.0.now)
encode_outcome κs a r₁ r₂ s₁ s₂ p q = (ap (λ x. x.number) (p ∙ sym q), ap (λ x. x.out) (p ∙ sym q))

pub check_outcome : (κs : Lfts 1) (a : ArgsD check.signature κs) (r₁ r₂ : ResD check.signature κs)
    (s₁ s₂ : AtExit (ended_of 1 check_kinds.ps check_kinds.r) κs)
    → check_reads.Post κs a r₁ s₁ → check_reads.Post κs a r₂ s₂ → r₁ ≡ r₂
check_outcome κs a r₁ r₂ s₁ s₂ p q = ap (λ x. record { number = x.number; broken = x.broken; lowest = x.lowest }) (p ∙ sym q)

-- The length of the part: its octets are the word's leading ones.
pub open_outcome : (κs : Lfts 1) (a : ArgsD open_call.signature κs) (r₁ r₂ : ResD open_call.signature κs)
    (s₁ s₂ : AtExit (ended_of 1 open_kinds.ps open_kinds.r) κs)
    → open_reads.Post κs a r₁ s₁ → open_reads.Post κs a r₂ s₂ → r₁ ≡ r₂
open_outcome κs a r₁ r₂ s₁ s₂ p q =
    ap₂ (λ k z. record { number = k; lowest = z; octets = r₁.octets }) (p.0 ∙ sym q.0) (p.1 ∙ sym q.1)
    ∙ ap (λ z. record { number = r₂.number; lowest = r₂.lowest; octets = z }) (p.2 ∙ sym q.2)

pub correct_outcome : (κs : Lfts 2) (a : ArgsD correct.signature κs) (r₁ r₂ : ResD correct.signature κs)
    (s₁ s₂ : AtExit (ended_of 2 correct_kinds.ps correct_kinds.r) κs)
    → correct_reads.Post κs a r₁ s₁ → correct_reads.Post κs a r₂ s₂ → (r₁ ≡ r₂) × (s₁.1.1.1.0.now ≡ s₂.1.1.1.0.now)
correct_outcome κs a r₁ r₂ s₁ s₂ p q = (
  ap (λ x. record { number = x.number; flips = x.flips; first = x.first; last = x.last; unlike = x.unlike; lowest = x.lowest }) (p
      ∙ sym q),
  ap (λ x. x.out) (p ∙ sym q),
)

pub correct_samples_outcome : (κs : Lfts 2) (a : ArgsD correct_samples.signature κs) (r₁ r₂ : ResD correct_samples.signature κs)
    (s₁ s₂ : AtExit (ended_of 2 correct_samples_kinds.ps correct_samples_kinds.r) κs)
    → correct_samples_reads.Post κs a r₁ s₁ → correct_samples_reads.Post κs a r₂ s₂
    → (r₁ ≡ r₂) × (s₁.1.1.1.0.now ≡ s₂.1.1.1.0.now)
correct_samples_outcome κs a r₁ r₂ s₁ s₂ p q = (
  ap (λ x. record { number = x.number; flips = x.flips; first = x.first; last = x.last; unlike = x.unlike; lowest = x.lowest }) (p
      ∙ sym q),
  ap (λ x. x.out) (p ∙ sym q),
)

pub step_outcome : (κs : Lfts 2) (a : ArgsD step.signature κs) (r₁ r₂ : ResD step.signature κs)
    (s₁ s₂ : AtExit (ended_of 2 step_kinds.ps step_kinds.r) κs)
    → step_reads.Post κs a r₁ s₁ → step_reads.Post κs a r₂ s₂ → (r₁ ≡ r₂) × (s₁.1.1.0.now ≡ s₂.1.1.0.now)
step_outcome κs a r₁ r₂ s₁ s₂ p q =
    (ap (λ x. record { number = x.number; quiet = x.quiet; bit = x.bit; excess = x.excess }) (p ∙ sym q), ap (λ x. x.out) (p ∙ sym q))

pub quick_outcome : (κs : Lfts 1) (a : ArgsD quick.signature κs) (r₁ r₂ : ResD quick.signature κs)
    (s₁ s₂ : AtExit (ended_of 1 quick_kinds.ps quick_kinds.r) κs)
    → quick_reads.Post κs a r₁ s₁ → quick_reads.Post κs a r₂ s₂ → r₁ ≡ r₂
quick_outcome κs a r₁ r₂ s₁ s₂ p q = ap (λ x. record { number = x.number; yes = x.yes; evaluated = x.evaluated }) (p ∙ sym q)

pub nearest_outcome : (κs : Lfts 2) (a : ArgsD nearest.signature κs) (r₁ r₂ : ResD nearest.signature κs)
    (s₁ s₂ : AtExit (ended_of 2 nearest_kinds.ps nearest_kinds.r) κs)
    → nearest_reads.Post κs a r₁ s₁ → nearest_reads.Post κs a r₂ s₂ → (r₁ ≡ r₂) × (s₁.1.1.0.now ≡ s₂.1.1.0.now)
nearest_outcome κs a r₁ r₂ s₁ s₂ p q =
    (ap (λ x. record { number = x.number; least = x.least; bits = x.bits }) (p ∙ sym q), ap (λ x. x.out) (p ∙ sym q))

pub unit_octets_outcome : (κs : Lfts 0) (a : ArgsD unit_octets_lem.signature κs) (r₁ r₂ : ResD unit_octets_lem.signature κs)
    (s₁ s₂ : AtExit (ended_of 0 unit_octets_kinds.ps unit_octets_kinds.r) κs)
    → unit_octets_reads.Post κs a r₁ s₁ → unit_octets_reads.Post κs a r₂ s₂ → r₁ ≡ r₂
unit_octets_outcome κs a r₁ r₂ s₁ s₂ p q = p ∙ sym q

pub write_unit_outcome : (κs : Lfts 2) (a : ArgsD write_unit.signature κs) (r₁ r₂ : ResD write_unit.signature κs)
    (s₁ s₂ : AtExit (ended_of 2 write_unit_kinds.ps write_unit_kinds.r) κs)
    → write_unit_reads.Post κs a r₁ s₁ → write_unit_reads.Post κs a r₂ s₂ → (r₁ ≡ r₂) × (s₁.1.1.0.now ≡ s₂.1.1.0.now)
write_unit_outcome κs a r₁ r₂ s₁ s₂ p q = (ap (λ x. x.number) (p ∙ sym q), ap (λ x. x.out) (p ∙ sym q))

-- A record of numbers from the answer that it stands for.
abbrev numbers : Corrected → Numbers
numbers r = record { number = r.number; flips = r.flips; first = r.first; last = r.last; unlike = r.unlike; lowest = r.lowest }

abbrev taker_state : TakerAnswer → Taker
taker_state x = record { place = x.place; edition = x.told.edition; limit = x.told.limit; octets = x.octets }

pub taker_outcome : (κs : Lfts 0) (a : ArgsD taker.signature κs) (r₁ r₂ : ResD taker.signature κs)
    (s₁ s₂ : AtExit (ended_of 0 taker_kinds.ps taker_kinds.r) κs)
    → taker_reads.Post κs a r₁ s₁ → taker_reads.Post κs a r₂ s₂ → r₁ ≡ r₂
taker_outcome κs a r₁ r₂ s₁ s₂ p q = ap (λ x. taker_state x) (p ∙ sym q)

pub taker_for_outcome : (κs : Lfts 0) (a : ArgsD taker_for.signature κs) (r₁ r₂ : ResD taker_for.signature κs)
    (s₁ s₂ : AtExit (ended_of 0 taker_for_kinds.ps taker_for_kinds.r) κs)
    → taker_for_reads.Post κs a r₁ s₁ → taker_for_reads.Post κs a r₂ s₂ → r₁ ≡ r₂
taker_for_outcome κs a r₁ r₂ s₁ s₂ p q = ap (λ x. record { number = x.number; taker = taker_state x.taker }) (p ∙ sym q)

pub take_outcome : (κs : Lfts 1) (a : ArgsD take.signature κs) (r₁ r₂ : ResD take.signature κs)
    (s₁ s₂ : AtExit (ended_of 1 take_kinds.ps take_kinds.r) κs)
    → take_reads.Post κs a r₁ s₁ → take_reads.Post κs a r₂ s₂ → r₁ ≡ r₂
take_outcome κs a r₁ r₂ s₁ s₂ p q =
    ap (λ x. record {
      next = taker_state x.next;
      taken = x.taken;
      complete = x.complete;
      corrected = numbers x.corrected;
      word = x.corrected.out;
    }) (p ∙ sym q)

pub reader_outcome : (κs : Lfts 1) (a : ArgsD reader.signature κs) (r₁ r₂ : ResD reader.signature κs)
    (s₁ s₂ : AtExit (ended_of 1 reader_kinds.ps reader_kinds.r) κs)
    → reader_reads.Post κs a r₁ s₁ → reader_reads.Post κs a r₂ s₂ → r₁ ≡ r₂
reader_outcome κs a r₁ r₂ s₁ s₂ p q = ap (λ x. record { kept = numbers x.kept; code = x.code; limit = x.limit; place = x.place }) (p
    ∙ sym q)

pub read_outcome : (κs : Lfts 2) (a : ArgsD read.signature κs) (r₁ r₂ : ResD read.signature κs)
    (s₁ s₂ : AtExit (ended_of 2 read_kinds.ps read_kinds.r) κs)
    → read_reads.Post κs a r₁ s₁ → read_reads.Post κs a r₂ s₂ → (r₁ ≡ r₂) × (s₁.1.1.0.now ≡ s₂.1.1.0.now)
read_outcome κs a r₁ r₂ s₁ s₂ p q = (
  ap (λ x. record {
    corrected = numbers x.corrected;
    none = x.none;
    next = record { kept = numbers x.next.kept; code = x.next.code; limit = x.next.limit; place = x.next.place };
  }) (p ∙ sym q),
  ap (λ x. x.corrected.out) (p ∙ sym q),
)

pub bch_encode_outcome : (κs : Lfts 2) (a : ArgsD bch_encode.signature κs) (r₁ r₂ : ResD bch_encode.signature κs)
    (s₁ s₂ : AtExit (ended_of 2 bch_encode_kinds.ps bch_encode_kinds.r) κs)
    → bch_encode_reads.Post κs a r₁ s₁ → bch_encode_reads.Post κs a r₂ s₂ → (r₁ ≡ r₂) × (s₁.1.0.now ≡ s₂.1.0.now)
bch_encode_outcome κs a r₁ r₂ s₁ s₂ p q = (ap (λ x. x.number) (p ∙ sym q), ap (λ x. x.out) (p ∙ sym q))

pub bch_check_outcome : (κs : Lfts 2) (a : ArgsD bch_check.signature κs) (r₁ r₂ : ResD bch_check.signature κs)
    (s₁ s₂ : AtExit (ended_of 2 bch_check_kinds.ps bch_check_kinds.r) κs)
    → bch_check_reads.Post κs a r₁ s₁ → bch_check_reads.Post κs a r₂ s₂ → (r₁ ≡ r₂) × (s₁.1.1.0.now ≡ s₂.1.1.0.now)
bch_check_outcome κs a r₁ r₂ s₁ s₂ p q =
    (ap (λ x. record { number = x.number; mended = x.mended }) (p ∙ sym q), ap (λ x. x.out) (p ∙ sym q))

pub import_blocks_outcome : (κs : Lfts 2) (a : ArgsD import_blocks.signature κs) (r₁ r₂ : ResD import_blocks.signature κs)
    (s₁ s₂ : AtExit (ended_of 2 import_blocks_kinds.ps import_blocks_kinds.r) κs)
    → import_blocks_reads.Post κs a r₁ s₁ → import_blocks_reads.Post κs a r₂ s₂ → (r₁ ≡ r₂) × (s₁.1.0.now ≡ s₂.1.0.now)
import_blocks_outcome κs a r₁ r₂ s₁ s₂ p q =
    (ap (λ (x : Imported). record { number = x.number; block = x.block }) (p ∙ sym q), ap (λ (x : Imported). x.out) (p ∙ sym q))

pub imported_octets_outcome : (κs : Lfts 1) (a : ArgsD imported_octets.signature κs) (r₁ r₂ : ResD imported_octets.signature κs)
    (s₁ s₂ : AtExit (ended_of 1 imported_octets_kinds.ps imported_octets_kinds.r) κs)
    → imported_octets_reads.Post κs a r₁ s₁ → imported_octets_reads.Post κs a r₂ s₂ → r₁ ≡ r₂
imported_octets_outcome κs a r₁ r₂ s₁ s₂ p q = p ∙ sym q

pub export_blocks_outcome : (κs : Lfts 2) (a : ArgsD export_blocks.signature κs) (r₁ r₂ : ResD export_blocks.signature κs)
    (s₁ s₂ : AtExit (ended_of 2 export_blocks_kinds.ps export_blocks_kinds.r) κs)
    → export_blocks_reads.Post κs a r₁ s₁ → export_blocks_reads.Post κs a r₂ s₂ → (r₁ ≡ r₂) × (s₁.1.0.now ≡ s₂.1.0.now)
export_blocks_outcome κs a r₁ r₂ s₁ s₂ p q = (ap (λ (x : Exported). x.number) (p ∙ sym q), ap (λ (x : Exported). x.out) (p ∙ sym q))

pub exported_octets_outcome : (κs : Lfts 0) (a : ArgsD exported_octets.signature κs) (r₁ r₂ : ResD exported_octets.signature κs)
    (s₁ s₂ : AtExit (ended_of 0 exported_octets_kinds.ps exported_octets_kinds.r) κs)
    → exported_octets_reads.Post κs a r₁ s₁ → exported_octets_reads.Post κs a r₂ s₂ → r₁ ≡ r₂
exported_octets_outcome κs a r₁ r₂ s₁ s₂ p q = p ∙ sym q
