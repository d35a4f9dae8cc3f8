-- Encoding, and what a codeword is.
use Rattle.std.specs.Prelude.{Bool, not, ◌&&◌, ◌≡◌, List, [], ℕ, ◌+◌, ◌-◌, ◌*◌, ◌/◌, ◌%◌, ◌<◌, ltb, get_or}
use Rattle.bits.specs.Bits.{Word, digit, octets, ◌⊕◌, sum, agree, when◌then◌else◌}
use Rattle.rules.specs.Codes.{Code, bits, information}

-- Bit k of a printed row: where its digits carry more than M bits, the one in front is dropped, and the next bit is bit 0 of the row.
abbrev pub printed_bit : Code → ℕ → ℕ → ℕ → Bool
printed_bit c block part k = digit c.printed (get_or (get_or c.generator block []) part 0) (c.printed - c.size + k)

-- Bit p of the row of information bit n: the printed row of the bit's block, each part of it shifted right circularly by the bit's place
-- there.
abbrev pub row_bit : Code → ℕ → ℕ → Bool
row_bit c n p =
    let M = c.size in
    printed_bit c (n / M) (p / M) ((p % M + (M - n % M)) % M)

-- Parity is the sum modulo 2 of one row for each information bit that is 1.
unfoldable pub parity_bit : Code → Word → ℕ → Bool
parity_bit c x p = sum (information c) (λ n. x n && row_bit c n p)

-- A word is the information bits, then the parity.
unfoldable pub encoded : Code → Word → Word
encoded c x n = when ltb n (information c) then x n else parity_bit c x (n - information c)

-- A word with its first parity block inverted or not, and its second.
unfoldable pub inverted : Code → Word → Bool → Bool → Word
inverted c x first second n = x n ⊕ (not (ltb n (information c)) && (when ltb n (information c + c.size) then first else second))

-- The bits that the checks are over, from those that are sent: the unsent ones in front are 0. What is sent after the parity, the last two
-- bits of code 5, comes behind the bits that the checks are over: no check and no encoding reads it.
unfoldable pub lifted : Code → Word → Word
lifted c y n = not (ltb n c.unsent) && y (n - c.unsent)

-- The bits that are sent: the unsent ones are left out, and zero bits follow the parity.
unfoldable pub sent : Code → Word → Word
sent c x n = ltb n (bits c - c.unsent) && x (n + c.unsent)

-- The octets of a word as it is sent.
abbrev pub written : Code → Word → List ℕ
written c x = octets c.octets_of_word (sent c x)

-- Whether a word's parity is what the encoder gives for its information bits.
abbrev pub OwnParity : Code → Word → Type 0
OwnParity c x = (p : ℕ) → p < bits c - information c → x (information c + p) ≡ parity_bit c x p

-- A codeword is a word the encoder can give: what is encoded of its own information bits.
unfoldable pub codeword : Code → Word → Bool
codeword c y = agree (8 * c.octets_of_word) y (sent c (encoded c (lifted c y)))
