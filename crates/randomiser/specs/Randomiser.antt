-- Randomising: the bits of a sequence are added to those of the octets.
use Rattle.std.specs.Prelude.{◌≡◌, Bool, true, false, List, [], ◌∷◌, ◌++◌, ℕ, zero, suc, ◌+◌, ◌*◌, ◌<◌, length, get_or, drop, replicate}
use Rattle.bits.specs.Bits.{Word, digit, number, over, ◌⊕◌}

-- A generator: the powers of x in its polynomial below the greatest, and the first bits of its sequence, as many as the greatest power.
pub record Generator : Type 0 where
  pub powers : List ℕ
  pub first : List Bool

-- The register holds the next bits of the sequence. It moves on by one: the bit in front leaves, and the sum modulo 2 of those at the
-- powers comes in behind.
abbrev pub moved : List ℕ → List Bool → List Bool
moved powers register = drop 1 register ++ (over powers (λ power. get_or register power false) ∷ [])

-- The register after n bits.
unfoldable pub register : Generator → ℕ → List Bool
register g zero = g.first
register g (suc n) = moved g.powers (register g n)

-- Bit n of the sequence.
abbrev pub sequence : Generator → Word
sequence g n = get_or (register g n) 0 false

-- Octet n of the sequence.
abbrev pub sequence_octet : Generator → ℕ → ℕ
sequence_octet g n = number 8 (λ k. sequence g (8 * n + k))

-- Octets randomised bit by bit, from the first bit of the first octet; n octets of the sequence were used before.
unfoldable pub randomised : Generator → ℕ → List ℕ → List ℕ
randomised g n [] = []
randomised g n (octet ∷ octets) = number 8 (λ k. digit 8 octet k ⊕ sequence g (8 * n + k)) ∷ randomised g (suc n) octets

-- The telecommand generator: x^8 + x^6 + x^4 + x^3 + x^2 + x + 1 from all ones.
unfoldable pub telecommand : Generator
telecommand = record { powers = 6 ∷ 4 ∷ 3 ∷ 2 ∷ 1 ∷ 0 ∷ []; first = replicate 8 true }

-- What adding part of a table to octets ensures: where the table holds octets of a sequence there, the octets are randomised by it.
abbrev pub Added : List ℕ → ℕ → List ℕ → List ℕ → Type 0
Added table from octets out =
    (g : Generator) → (used : ℕ) → ((i : ℕ) → i < length octets → get_or table (from + i) 0 ≡ sequence_octet g (used + i))
    → out ≡ randomised g used octets
