-- However many zero bits the printed digits have in front of the M bits, the identity reads the same bits.
use mathlib.Core.Path.{◌≡◌, refl, sym, ap, ap₂, ◌∙◌, fun_ext}
use mathlib.Core.Bool.{Bool, not, ◌&&◌}
use mathlib.Core.List.{List, [], ◌∷◌}
use Prim.Native.Nat.{ℕ, suc, ◌+◌, ◌-◌, ◌/◌, ◌%◌, ◌^◌, ◌≤◌, ◌<◌}
use native.Mathlib.Nat.{mod-lt, le_refl}
use native.Mathlib.Omega.{arith}
use lib.Dec.{eqb}
use lib.ListN.{length, get_or, drop}
use Rattle.bits.specs.Bits.{digit, ◌⊕◌, over, blocks, below}
use Rattle.rules.specs.Identity.{cancels, row_tied_of, rows_tied_of}

module _ (M printed : ℕ) (pos : 0 < M) (fits : M ≤ printed) where
  pub printed_digit : (x t : ℕ) → t < M → digit printed x (printed - M + t) ≡ digit M x t
  printed_digit x t h =
      let e : printed - suc (printed - M + t) ≡ M - suc t = omega arith in
      ap (λ (n : ℕ). eqb (x / 2 ^ n % 2) 1) e

  pub printed_cancels : (S : List ℕ) (P : List (List ℕ)) (g : List ℕ) (d : ℕ) →
      cancels M printed S P g d ≡ not (over S (λ s. eqb ((d + s) % M) 0) ⊕ blocks P 0 (λ part s. digit M (get_or g part 0) ((d + s) % M)))
  printed_cancels S P g d =
      ap (λ (f : ℕ → ℕ → Bool). not (over S (λ s. eqb ((d + s) % M) 0) ⊕ blocks P 0 f))
      (fun_ext (λ part. fun_ext (λ s. printed_digit (get_or g part 0) ((d + s) % M) (mod-lt (d + s) pos))))

module _ (M printed : ℕ) (pos : 0 < M) (fits : M ≤ printed) where
  same_cancels : (S : List ℕ) (P : List (List ℕ)) (g : List ℕ) (d : ℕ) → cancels M printed S P g d ≡ cancels M M S P g d
  same_cancels S P g d = printed_cancels M printed pos fits S P g d ∙ sym (printed_cancels M M pos (le_refl M) S P g d)

  same_row : (P row generator : List (List ℕ)) → row_tied_of M printed P row generator ≡ row_tied_of M M P row generator
  same_row P row [] = refl
  same_row P [] (g ∷ generator) = refl
  same_row P (S ∷ row) (g ∷ generator) =
      ap₂ (λ (a b : Bool). a && b) (ap (below M) (fun_ext (λ d. same_cancels S P g d))) (same_row P row generator)

  pub same_rows : (parity : List (List (List ℕ))) (generator : List (List ℕ))
      → rows_tied_of M printed parity generator ≡ rows_tied_of M M parity generator
  same_rows [] generator = refl
  same_rows (row ∷ parity) generator =
      ap₂ (λ (a b : Bool). a && b) (same_row (drop (length generator) row) row generator) (same_rows parity generator)
