-- Any two outcomes that the statement of `list` allows are equal: over the contract itself, as the source has it.
use mathlib.Core.Path.{◌≡◌, refl, sym, ap, ◌∙◌}
use mathlib.Core.List.{List, [], ◌∷◌, map}
use Prim.Native.Nat.{ℕ}
use seplogic.Ra.Ura.{Ura}
use base.Logic.{SProp}
use prog.Memory.{Memory}
use prog.Routine.{Routine}
use types.Logic.{Logic}
use contract.Lifetimes.{Lfts}
use contract.Monad.{Fun, fact}
use denote.Ref.{Bor}
use denote.MutBor.{MutBor}
use Rattle.answers.specs.Lists.{Entry, list_answer}
use Rattle.lists.specs.listing.Answers.{as_entries, as_listed}
use Rattle.lists.specs.declared.listing.FlipRecord.{FlipRecord}
use Rattle.lists.specs.declared.listing.Listed.{Listed}
use Rattle.lists.specs.contracts.list as list'

-- what is said of a result and of the table afterwards
abbrev pub Says : ℕ → List ℕ → ℕ → List FlipRecord → Listed → List FlipRecord → Type 0
Says code word limit table r after = as_listed r after ≡ list_answer code word limit (as_entries table)

-- the contract says this and nothing else, and asks nothing
pub list_says : {M : Type 1} {𝓤 : Ura M} (𝓛 : Logic 𝓤) (mem : Memory → SProp 𝓤) (run : Routine → Fun 𝓤) (κs : Lfts 2)
    (code : ℕ) (word : Bor (List ℕ)) (limit : ℕ) (table : MutBor (List FlipRecord)) (r : Listed) (code' : ℕ) (word' : Bor (List ℕ))
    (limit' : ℕ) (table' : MutBor (List FlipRecord))
    → (list'.clauses 𝓛 mem run κs (code, (word, (limit, (table, tt))))).ensures tt r (code', (word', (limit', (table', tt))))
    ≡ fact 𝓤 (Says code word.now limit table.now r table'.now)
list_says 𝓛 mem run κs code word limit table r code' word' limit' table' = refl

abbrev as_record : Entry → FlipRecord
as_record e = record { bit = e.bit; excess = e.excess; left = e.left }

back : (l : List FlipRecord) → map as_record (as_entries l) ≡ l
back [] = refl
back (r ∷ l) = ap (λ z. r ∷ z) (back l)

pub list_outcome : (code : ℕ) (word : List ℕ) (limit : ℕ) (table : List FlipRecord) (r₁ r₂ : Listed) (after₁ after₂ : List FlipRecord)
    → Says code word limit table r₁ after₁ → Says code word limit table r₂ after₂ → (r₁ ≡ r₂) × (after₁ ≡ after₂)
list_outcome code word limit table r₁ r₂ after₁ after₂ p q = (
  ap (λ x. record {
    number = x.number;
    flips = x.flips;
    first = x.first;
    last = x.last;
    unlike = x.unlike;
    lowest = x.lowest;
    bit =
        x.bit;
    excess = x.excess;
  }) (p ∙ sym q),
  sym (back after₁) ∙ ap (λ x. map as_record x.table) (p ∙ sym q) ∙ back after₂,
)
