-- Flat tables that stand for the lists of a code: the identity at the ones is the identity at the others.
use mathlib.Core.Path.{◌≡◌, ap₂}
use mathlib.Core.Bool.{◌&&◌}
use mathlib.Core.List.{List}
use Prim.Native.Nat.{ℕ, ◌+◌}
use Rattle.rules.specs.Identity.{rows_tied_of, all_padded_of}
use Rattle.identity.specs.ties.Flat.{parity_of, generator_of, flat_tied}

module _ (M printed rows count parts : ℕ) (p g : List ℕ) where
  pub stand_for : {P : List (List (List ℕ))} {G : List (List ℕ)} → parity_of M rows (count + parts) p ≡ P → generator_of M count parts g ≡ G
      → flat_tied M printed rows count parts p g ≡ (rows_tied_of M printed P G && all_padded_of M G)
  stand_for e f = ap₂ (λ (P : List (List (List ℕ))) (G : List (List ℕ)). rows_tied_of M printed P G && all_padded_of M G) e f
