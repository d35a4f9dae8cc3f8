-- Vectors of bits in words of 64, and what is made of a word's bits.
use Rattle.std.specs.Prelude.{◌≡◌, false, not, ◌&&◌, List, [], ◌∷◌, ℕ, ◌+◌, ◌-◌, ◌*◌, ◌/◌, ◌%◌, ◌<◌, leb, ltb, get_or}
use Rattle.bits.specs.Bits.{Word, digit, ◌⊕◌, when◌then◌else◌}
use Rattle.vectors.specs.declared.Pair.{Pair}

-- Bit n stands in word n / 64, and bit 0 is the most significant bit of word 0. Past the last word every bit is 0.
unfoldable pub wbit : List ℕ → Word
wbit ws n = digit 64 (get_or ws (n / 64) 0) (n % 64)

-- The bits of two words, one after the other.
abbrev pub both : Pair → Word
both p = wbit (p.first ∷ p.second ∷ [])

-- The 64 bits of a number are the first 64 of a word.
abbrev pub Holds : ℕ → Word → Type 0
Holds v x = (i : ℕ) → i < 64 → digit 64 v i ≡ x i

-- The first m bits, and 0 from there on.
abbrev pub up_to : ℕ → Word → Word
up_to m x n = ltb n m && x n

-- The bits from bit p on.
abbrev pub from : ℕ → Word → Word
from p x n = x (p + n)

-- All bits u places later, zeros in front.
abbrev pub later : ℕ → Word → Word
later u x n = not (ltb n u) && x (n - u)

-- The bits of one word below m, and of another from there on.
abbrev pub joined : ℕ → Word → Word → Word
joined m x y n = when ltb n m then x n else y n

-- The first m bits, and then all from the first on again.
abbrev pub twice : ℕ → Word → Word
twice m x = joined m x (λ n. x (n - m))

-- The bits of y, from its first on, added to those of x that stand from bit a to before bit e.
abbrev pub added : Word → ℕ → ℕ → Word → Word
added x a e y n = x n ⊕ ((leb a n && ltb n e) && y (n - a))

-- The first k words of d are those of v, and n words behind each stand the bits that begin t bits later in v.
abbrev pub Doubled : List ℕ → ℕ → ℕ → ℕ → List ℕ → Type 0
Doubled v n t k d = (j : ℕ) → j < k → (get_or d j 0 ≡ get_or v j 0) × Holds (get_or d (n + j) 0) (from (64 * j + t) (wbit v))

-- No bit of the first k words is set.
abbrev pub Clear : List ℕ → ℕ → Type 0
Clear ws k = (i : ℕ) → i < 64 * k → wbit ws i ≡ false
