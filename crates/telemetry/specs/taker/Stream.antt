-- Telemetry as a stream of octets: where its words lie, and what each answers.
use Rattle.std.specs.Prelude.{Bool, true, false, ◌&&◌, List, [], ◌∷◌, ℕ, zero, suc, ◌+◌, eqb, leb, length, take, drop, replicate}
use Rattle.bits.specs.Bits.{when◌then◌else◌}
use Rattle.answers.specs.Calls.{Corrected, correct_answer}
use Rattle.randomiser.specs.Randomiser.{Generator, randomised}

-- The marker, found at an octet boundary.
abbrev pub marker : List ℕ
marker = 0x1A ∷ 0xCF ∷ 0xFC ∷ 0x1D ∷ []

-- Whether octets begin with those of another list.
abbrev pub begins : List ℕ → List ℕ → Bool
begins [] octets = true
begins (a ∷ front) [] = false
begins (a ∷ front) (b ∷ octets) = eqb b a && begins front octets

-- A word begins here: the marker, and then the 1020 octets that are taken.
abbrev pub framed : List ℕ → Bool
framed octets = begins marker octets && leb 1024 (length octets)

-- Remove the randomiser, begun anew for each word, and correct as code 5 under the limit: into zeros, so that a refused word is all zeros.
unfoldable pub answered : Generator → ℕ → List ℕ → Corrected
answered g limit octets = correct_answer 5 (randomised g 0 octets) limit (replicate 1020 0)

-- A word of the stream: the number of its first octet, from 0, and correct's numbers with the word of 1020 octets that comes out.
pub record Found : Type 0 where
  pub offset : ℕ
  pub corrected : Corrected

-- The word behind the marker that begins here, at octet number `at`.
abbrev pub word_at : Generator → ℕ → ℕ → List ℕ → Found
word_at g limit at octets = record { offset = at + 4; corrected = answered g limit (take 1020 (drop 4 octets)) }

-- The words in the rest of a stream that begins at octet number `at`. Its first `skip` octets belong to a word already: they are
-- not searched, and the search starts afresh at the first octet after the word. A marker that begins inside a failed match is found,
-- since every other octet is tried as the first of a marker.
unfoldable pub found_from : Generator → ℕ → ℕ → ℕ → List ℕ → List Found
found_from g limit skip at [] = []
found_from g limit (suc skip) at (octet ∷ rest) = found_from g limit skip (suc at) rest
found_from g limit zero at (octet ∷ rest) =
    when framed (octet ∷ rest)
    then (word_at g limit at (octet ∷ rest) ∷ found_from g limit 1023 (suc at) rest)
    else found_from g limit zero (suc at) rest

-- The words of a stream, in their order.
abbrev pub found : Generator → ℕ → List ℕ → List Found
found g limit stream = found_from g limit zero zero stream
