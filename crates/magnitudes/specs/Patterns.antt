-- Samples by their bit patterns, as whole numbers of 32 bits: the sign, then eight bits of the exponent's field, then 23 digits.
use Rattle.std.specs.Prelude.{Bool, not, ◌&&◌, List, map, ℕ, ◌/◌, ◌%◌, leb, ltb, eqb, Float, length, get_or}
use Rattle.std.specs.Float.Ieee.{of_bits}
use Rattle.std.specs.Float.{binary32}
use Rattle.bits.specs.Bits.{Word, below}

-- The samples that the patterns stand for.
abbrev pub samples_of : List ℕ → List Float
samples_of patterns = map (of_bits binary32) patterns

-- Past the last pattern every one is 0.
abbrev pub pattern_of : List ℕ → ℕ → ℕ
pattern_of patterns n = get_or patterns n 0

-- A pattern without its sign.
abbrev pub unsigned : ℕ → ℕ
unsigned p = p % 0x8000_0000

-- The sign is set, and what is left without it is not 0.
abbrev pub is_one : ℕ → Bool
is_one p = leb 0x8000_0000 p && not (eqb (unsigned p) 0)

unfoldable pub read : List ℕ → Word
read patterns n = is_one (pattern_of patterns n)

-- Whether bit n's pattern is smaller than bit k's, both without their signs.
unfoldable pub smaller : List ℕ → ℕ → ℕ → Bool
smaller patterns n k = ltb (unsigned (pattern_of patterns n)) (unsigned (pattern_of patterns k))

-- The exponent's field is not all ones.
abbrev pub is_finite : ℕ → Bool
is_finite p = not (eqb (unsigned p / 0x80_0000) 255)

unfoldable pub all_finite : List ℕ → Bool
all_finite patterns = below (length patterns) (λ n. is_finite (pattern_of patterns n))
