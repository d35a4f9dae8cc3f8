-- The identity that ties a parity table to a generator table: what one wrong digit in either breaks.
use Rattle.std.specs.Prelude.{Bool, true, false, not, ◌&&◌, List, [], ◌∷◌, ℕ, ◌+◌, ◌-◌, ◌%◌, ◌^◌, eqb, ltb, length, get_or, drop}
use Rattle.bits.specs.Bits.{digit, ◌⊕◌, below, over, blocks}
use Rattle.rules.specs.Codes.{Code}

-- An information bit and a check that is d rows before it in its block: the bit's own ones there, and those of its parity, add up to 0.
-- S is the information block, P the parity blocks of the same row, and g the printed row of the information block.
abbrev pub cancels : ℕ → ℕ → List ℕ → List (List ℕ) → List ℕ → ℕ → Bool
cancels M printed S P g d =
    not
    (over S (λ s. eqb ((d + s) % M) 0)
    ⊕ blocks P 0 (λ part s. digit printed (get_or g part 0) (printed - M + (d + s) % M)))

-- The same for every information block of a row of the parity table, at every difference.
abbrev pub row_tied_of : ℕ → ℕ → List (List ℕ) → List (List ℕ) → List (List ℕ) → Bool
row_tied_of M printed P row [] = true
row_tied_of M printed P [] (g ∷ generator) = false
row_tied_of M printed P (S ∷ row) (g ∷ generator) = below M (cancels M printed S P g) && row_tied_of M printed P row generator

abbrev pub rows_tied_of : ℕ → ℕ → List (List (List ℕ)) → List (List ℕ) → Bool
rows_tied_of M printed [] generator = true
rows_tied_of M printed (row ∷ parity) generator =
    row_tied_of M printed (drop (length generator) row) row generator && rows_tied_of M printed parity generator

-- The bits in front of the M bits of a printed number are 0.
abbrev pub padded : ℕ → List ℕ → Bool
padded M [] = true
padded M (number ∷ row) = ltb number (2 ^ M) && padded M row

abbrev pub all_padded_of : ℕ → List (List ℕ) → Bool
all_padded_of M [] = true
all_padded_of M (row ∷ generator) = padded M row && all_padded_of M generator

-- The two tables of a code are tied.
unfoldable pub tied : Code → Bool
tied c = rows_tied_of c.size c.printed c.parity c.generator && all_padded_of c.size c.generator
