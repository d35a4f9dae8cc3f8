-- A list that is filled place by place.
use mathlib.Core.Path.{◌≡◌, sym, ap, ◌∙◌}
use mathlib.Core.List.{List}
use Prim.Native.Nat.{ℕ, ◌+◌, ◌<◌}
use native.Mathlib.Decide.{ℕ_discrete}
use native.Mathlib.Omega.{arith}
use lib.ListN.{get_or, set, length-set}
use lib.Seq.{get_or-set_same, get_or-set_other}
use Rattle.catalogue.proofs.tables.Listed.{Filled}

pub filled_more : (n : ℕ) (f : ℕ → ℕ) (t : List ℕ) (i : ℕ) {v : ℕ} → Filled n f t i → i < n → v ≡ f i → Filled n f (set t i v) (i + 1)
filled_more n f t i {v} d h e = record { below = omega arith; long = length-set t i v ∙ d.long; places = λ j l. go j l (ℕ_discrete j i) }
  where
    go : (j : ℕ) → j < i + 1 → Dec (j ≡ i) → get_or (set t i v) j 0 ≡ f j
    go j l (yes q) = ap (λ z. get_or (set t i v) z 0) q ∙ get_or-set_same t i v 0 (omega (arith, d.long)) ∙ e ∙ ap f (sym q)
    go j l (no q) = get_or-set_other t i j v 0 q ∙ d.places j (omega arith)
