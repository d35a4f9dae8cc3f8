-- The generators of telemetry's sequences, and the editions that print them.
use Rattle.std.specs.Prelude.{◌≡◌, Bool, true, false, ◌||◌, List, [], ◌∷◌, ℕ, ◌<◌, eqb, leb, get_or, replicate}
use Rattle.bits.specs.Bits.{when◌then◌else◌}
use Rattle.randomiser.specs.Randomiser.{Generator, sequence_octet}

-- The randomiser is x^8 + x^7 + x^5 + x^3 + 1 from all ones.
unfoldable pub telemetry : Generator
telemetry = record { powers = 7 ∷ 5 ∷ 3 ∷ 0 ∷ []; first = replicate 8 true }

-- Later editions print a second, longer randomiser: x^17 + x^14 + 1. The register starts from 1 1000 1110 0011 1000, whose last bit leaves
-- first, so that the first bits are 0001 1100 0111 0001 1.
unfoldable pub second : Generator
second = record {
  powers = 14 ∷ 0 ∷ [];
  first =
      false ∷ false ∷ false ∷ true ∷ true ∷ true ∷ false ∷ false ∷ false ∷ true ∷ true ∷ true ∷ false ∷ false ∷ false ∷ true ∷ true ∷ [];
}

-- An edition is the issue number of CCSDS 131.0-B, 0 where none is stated. Known are 0 to 5.
abbrev pub known : ℕ → Bool
known edition = leb edition 5

-- Issues 4 and 5 have the second sequence.
abbrev pub newer : ℕ → Bool
newer edition = eqb edition 4 || eqb edition 5

-- Without a stated edition the old sequence stays; so it does with an edition that is not known.
abbrev pub generator_of : ℕ → Generator
generator_of edition = when newer edition then second else telemetry

-- What the code that works the second sequence out holds: so many of its octets.
abbrev pub Begins : ℕ → List ℕ → Type 0
Begins n octets = (i : ℕ) → i < n → get_or octets i 0 ≡ sequence_octet second i
