-- The exported list's statement is that of `lists::list`, as the source has it: by `list_outcome` there, any two outcomes that it allows
-- are equal.
use mathlib.Core.Path.{◌≡◌, refl}
use mathlib.Core.List.{List}
use Prim.Native.Nat.{ℕ}
use seplogic.Ra.Ura.{Ura}
use base.Logic.{SProp}
use prog.Memory.{Memory}
use prog.Routine.{Routine}
use types.Logic.{Logic}
use contract.Lifetimes.{Lfts}
use contract.Monad.{Fun, fact}
use denote.MutBor.{MutBor}
use denote.Ref.{Bor}
use Rattle.lists.specs.declared.listing.FlipRecord.{FlipRecord}
use Rattle.lists.specs.declared.listing.Listed.{Listed}
use Rattle.lists.proofs.Outcomes.{Says}
use Rattle.capi.specs.contracts.pandoricchia_list as list'

pub list_says : {M : Type 1} {𝓤 : Ura M} (𝓛 : Logic 𝓤) (mem : Memory → SProp 𝓤) (run : Routine → Fun 𝓤) (κs : Lfts 2)
    (code : ℕ) (word : Bor (List ℕ)) (limit : ℕ) (table : MutBor (List FlipRecord)) (r : Listed)
    (code' : ℕ) (word' : Bor (List ℕ)) (limit' : ℕ) (table' : MutBor (List FlipRecord))
    → (list'.clauses 𝓛 mem run κs (code, (word, (limit, (table, tt))))).ensures tt r (code', (word', (limit', (table', tt))))
    ≡ fact 𝓤 (Says code word.now limit table.now r table'.now)
list_says 𝓛 mem run κs code word limit table r code' word' limit' table' = refl
