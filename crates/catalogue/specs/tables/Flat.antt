-- The constants' places as lists, how they are laid flat, and the shape of each code.
use Rattle.std.specs.Prelude.{◌≡◌, List, [], ◌∷◌, ℕ, zero, suc, ◌+◌, ◌*◌, ◌/◌, ◌%◌, ◌≤◌, ◌<◌, get_or}
use Rattle.rules.specs.Codes.{code}
use Rattle.layout.specs.declared.Shape.{Shape}
use Rattle.layout.specs.Lent.{Fit, Lent}

-- The places of a block: two, of which those without a shift hold 65535.
abbrev pub pair : List ℕ → List ℕ
pair [] = 65535 ∷ 65535 ∷ []
pair (s ∷ []) = s ∷ 65535 ∷ []
pair (s ∷ t ∷ more) = s ∷ t ∷ []

abbrev pub row_pairs : List (List ℕ) → List (List ℕ)
row_pairs [] = []
row_pairs (block ∷ row) = pair block ∷ row_pairs row

-- A published table by its places: what a constant is.
abbrev pub pairs : List (List (List ℕ)) → List (List (List ℕ))
pairs [] = []
pairs (row ∷ table) = row_pairs row ∷ pairs table

-- The list of f 0 to f (n - 1).
abbrev pub listed : ℕ → (ℕ → ℕ) → List ℕ
listed zero f = []
listed (suc n) f = f 0 ∷ listed n (λ i. f (suc i))

abbrev pub place_at : List (List (List ℕ)) → ℕ → ℕ → ℕ → ℕ
place_at nested r b k = get_or (get_or (get_or nested r []) b []) k 0

-- The places of a row, block after block.
abbrev pub row_place : List (List ℕ) → ℕ → ℕ
row_place nested i = get_or (get_or nested (i / 2) []) (i % 2) 0

-- h' is h with the first n places of a row from place `at` on.
pub record RowLaid (nested : List (List ℕ)) (n at : ℕ) (h h' : List ℕ) : Type 0 where
  pub before : (j : ℕ) → j < at → get_or h' j 0 ≡ get_or h j 0
  pub row : (j : ℕ) → j < n → get_or h' (at + j) 0 ≡ row_place nested j
  pub after : (j : ℕ) → at + n ≤ j → get_or h' j 0 ≡ get_or h j 0

-- All places of a table, row after row, with so many blocks in each.
unfoldable pub flat : ℕ → List (List (List ℕ)) → List ℕ
flat blocks nested = listed 64 (λ i. place_at nested (i / (2 * blocks)) (i / 2 % blocks) (i % 2))

unfoldable pub flat8 : List (List (List ℕ)) → List ℕ
flat8 nested = listed 64 (λ i. place_at nested (i / 16) (i / 2 % 8) (i % 2))

unfoldable pub flat16 : List (List (List ℕ)) → List ℕ
flat16 nested = listed 64 (λ i. place_at nested (i / 32) (i / 2 % 16) (i % 2))

-- The places h, in this shape, are those of the code with number n.
pub record Lends (n : ℕ) (h : List ℕ) (sh : Shape) : Type 0 where
  pub fit : Fit h sh
  pub lent : Lent (code n) h sh
