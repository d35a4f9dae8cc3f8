-- Circulants, checks, and the count of broken checks.
use Rattle.std.specs.Prelude.{Bool, false, not, ◌&&◌, ◌||◌, List, [], ◌∷◌, ℕ, ◌+◌, ◌/◌, ◌%◌, eqb, get_or, ℤ}
use Rattle.std.proofs.Math.IntN.{sub_ℕ}
use Rattle.bits.specs.Bits.{Word, sum, count, least}
use Rattle.rules.specs.Codes.{Code, bits, checks}

-- A block is a square circulant of size M. An entry s means: in row i, a one at column (i + s) mod M. Two entries mean both ones.
abbrev pub one_at : ℕ → List ℕ → ℕ → ℕ → Bool
one_at M [] i column = false
one_at M (s ∷ shifts) i column = eqb ((i + s) % M) column || one_at M shifts i column

-- Checks are numbered from 0, block row by block row: check k is row k mod M of block row k / M, and bit n is column n mod M
-- of block n / M.
abbrev pub covers : Code → ℕ → ℕ → Bool
covers c k n =
    let M = c.size in
    one_at M (get_or (get_or c.parity (k / M) []) (n / M) []) (k % M) (n % M)

-- A check is the sum modulo 2 of the word's bits at the ones of its row; it is broken where that is 1.
unfoldable pub check : Code → Word → ℕ → Bool
check c x k = sum (bits c) (λ n. covers c k n && x n)

-- The count of broken checks.
unfoldable pub broken : Code → Word → ℕ
broken c x = count (checks c) (check c x)

-- The lowest broken check, or the number of checks if none is broken.
unfoldable pub lowest : Code → Word → ℕ
lowest c x = least (checks c) (check c x)

-- Of the checks that cover a bit: the broken ones, the met ones, all of them.
unfoldable pub broken_of : Code → Word → ℕ → ℕ
broken_of c x n = count (checks c) (λ k. covers c k n && check c x k)

unfoldable pub met_of : Code → Word → ℕ → ℕ
met_of c x n = count (checks c) (λ k. covers c k n && not (check c x k))

unfoldable pub degree_of : Code → ℕ → ℕ
degree_of c n = count (checks c) (λ k. covers c k n)

-- For a bit, its excess is the number of its broken checks less the number of its met checks: a signed number.
unfoldable pub excess : Code → Word → ℕ → ℤ
excess c x n = sub_ℕ (broken_of c x n) (met_of c x n)
