-- Any two outcomes that one call's statement allows are equal: theorems over the contracts themselves, as the source has them. Of a
-- function over the struct, which is proved by hand, it is shown first that its contract says this, and nothing else.
use mathlib.Core.Path.{◌≡◌, refl, sym, ap, ◌∙◌}
use mathlib.Core.List.{List}
use Prim.Native.Nat.{ℕ}
use seplogic.Ra.Ura.{Ura}
use base.Logic.{SProp}
use prog.Memory.{Memory}
use prog.Routine.{Routine}
use types.Logic.{Logic}
use contract.Lifetimes.{Lfts}
use contract.Monad.{Fun, fact}
use borrow.Fn.World.{ArgsD, ResD}
use borrow.Fn.Kinds.{ended_of}
use denote.Triple.Clauses.{AtExit}
use denote.MutBor.{MutBor}
use denote.Ref.{Bor}
use Rattle.answers.specs.Calls.{Corrected}
use Rattle.flipping.specs.declared.endings.Corrected.{Corrected as Numbers}
use Rattle.units.specs.unitrules.Units.{Handed}
use Rattle.units.specs.unitreader.Named.{handed_at, as_block, made_over, as_made, moved_to}
use Rattle.units.specs.declared.unitreader.Block.{Block}
use Rattle.units.specs.declared.unitreader.Reader.{Reader}
use Rattle.units.specs.contracts.unitreader.block_at as block_at
use Rattle.units.proofs.unitreader.block_at.Kinds as block_at_kinds
use Rattle.units.proofs.unitreader.block_at.Reads as block_at_reads
use Rattle.units.specs.contracts.unitreader.reader_over as over
use Rattle.units.specs.contracts.unitreader.next as next
use Rattle.units.specs.contracts.unitreader.moved as moved

-- a record of numbers from the answer that it stands for
abbrev numbers : Corrected → Numbers
numbers r = record { number = r.number; flips = r.flips; first = r.first; last = r.last; unlike = r.unlike; lowest = r.lowest }

abbrev block : Handed → Block
block x = record {
  handed = record {
    corrected = numbers x.corrected;
    none = x.none;
    next = record { kept = numbers x.next.kept; code = x.next.code; limit = x.next.limit; place = x.next.place };
  };
  octets = x.corrected.out;
}

pub block_at_outcome : (κs : Lfts 1) (a : ArgsD block_at.signature κs) (r₁ r₂ : ResD block_at.signature κs)
    (s₁ s₂ : AtExit (ended_of 1 block_at_kinds.ps block_at_kinds.r) κs)
    → block_at_reads.Post κs a r₁ s₁ → block_at_reads.Post κs a r₂ s₂ → r₁ ≡ r₂
block_at_outcome κs a r₁ r₂ s₁ s₂ p q = ap block (p ∙ sym q)

-- ---- the reader that is made: the number, and of the reader the octets that it stands on, its place, code and limit

pub reader_over_says : {M : Type 1} {𝓤 : Ura M} (𝓛 : Logic 𝓤) (mem : Memory → SProp 𝓤) (run : Routine → Fun 𝓤) (κs : Lfts 2)
    (code : ℕ) (unit : Bor (List ℕ)) (limit : ℕ) (number : MutBor ℕ) (r : Reader) (code' : ℕ) (unit' : Bor (List ℕ)) (limit' : ℕ)
    (number' : MutBor ℕ)
    → (over.clauses 𝓛 mem run κs (code, (unit, (limit, (number, tt))))).ensures tt r (code', (unit', (limit', (number', tt))))
    ≡ fact 𝓤 (as_made number'.now r ≡ made_over code unit.now limit)
reader_over_says 𝓛 mem run κs code unit limit number r code' unit' limit' number' = refl

pub reader_over_outcome : (code : ℕ) (unit : List ℕ) (limit : ℕ) (n₁ n₂ : ℕ) (r₁ r₂ : Reader) → as_made n₁ r₁ ≡ made_over code unit limit
    → as_made n₂ r₂ ≡ made_over code unit limit
    → (n₁ ≡ n₂) × (r₁.unit.now ≡ r₂.unit.now) × (r₁.place ≡ r₂.place) × (r₁.code ≡ r₂.code) × (r₁.limit ≡ r₂.limit)
reader_over_outcome code unit limit n₁ n₂ r₁ r₂ p q =
    let e = p ∙ sym q in
    (ap (λ x. x.number) e, ap (λ x. x.unit) e, ap (λ x. x.place) e, ap (λ x. x.code) e, ap (λ x. x.limit) e)

-- ---- the codeblock where a reader stands

abbrev Says : Reader → Block → Type 0
Says r b = as_block b ≡ handed_at r.unit.now r.place r.code r.limit

pub next_says : {M : Type 1} {𝓤 : Ura M} (𝓛 : Logic 𝓤) (mem : Memory → SProp 𝓤) (run : Routine → Fun 𝓤) (κs : Lfts 1)
    (r r' : Reader) (b : Block) → (next.clauses 𝓛 mem run κs (r, tt)).ensures tt b (r', tt) ≡ fact 𝓤 (Says r b)
next_says 𝓛 mem run κs r r' b = refl

pub next_outcome : (r : Reader) (b₁ b₂ : Block) → Says r b₁ → Says r b₂ → b₁ ≡ b₂
next_outcome r b₁ b₂ p q = ap block (p ∙ sym q)

-- ---- the reader at another place

pub moved_says : {M : Type 1} {𝓤 : Ura M} (𝓛 : Logic 𝓤) (mem : Memory → SProp 𝓤) (run : Routine → Fun 𝓤) (κs : Lfts 1)
    (r r' : Reader) (to to' : ℕ) (q : Reader)
    → (moved.clauses 𝓛 mem run κs (r, (to, tt))).ensures tt q (r', (to', tt)) ≡ fact 𝓤 (q ≡ moved_to r to)
moved_says 𝓛 mem run κs r r' to to' q = refl

pub moved_outcome : (r : Reader) (to : ℕ) (q₁ q₂ : Reader) → q₁ ≡ moved_to r to → q₂ ≡ moved_to r to → q₁ ≡ q₂
moved_outcome r to q₁ q₂ p q = p ∙ sym q
