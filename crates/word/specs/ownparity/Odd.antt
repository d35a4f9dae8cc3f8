-- Which blocks of a near-Earth word are counted together, and whether their ones are odd or even in number.
use Rattle.std.specs.Prelude.{Bool, not, ◌&&◌, List, [], ◌∷◌, ℕ, ◌+◌, ◌*◌, get_or}
use Rattle.bits.specs.Bits.{Word, digit, sum, below}

-- Whether block j has an odd number of ones.
abbrev pub odd_block : Word → ℕ → Bool
odd_block x j = sum 511 (λ k. x (j * 511 + k))

-- For each parity block, a bit for each of the 16 blocks: the information blocks whose printed row has an odd number of ones, and the
-- parity block itself.
abbrev pub counted : List ℕ
counted = 0x06E6 ∷ 0x0D7D ∷ []

-- Whether the blocks that are counted with parity block b have an odd number of ones.
abbrev pub odd_together_of : Word → ℕ → Bool
odd_together_of x b = sum 16 (λ j. digit 16 (get_or counted b 0) j && odd_block x j)

-- The test of a word that meets every check.
abbrev pub even_together : Word → Bool
even_together x = below 2 (λ b. not (odd_together_of x b))
