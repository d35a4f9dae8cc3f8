-- The older BCH words, BCH (63,56), by CCSDS 231.0-B: the division, the codewords, and the answers of the two calls.
use Rattle.std.specs.Prelude.{Bool, false, not, ◌&&◌, List, ℕ, zero, suc, ◌+◌, ◌-◌, ◌*◌, ◌^◌, eqb, ltb, length}
use Rattle.std.specs.Int.Bits.{bit_xor}
use Rattle.bits.specs.Bits.{Word, digit, bit, tally, octets, agree, flipped, when◌then◌else◌}

-- Generator x^7+x^6+x^2+1. A polynomial modulo 2 is the number whose binary digits are its coefficients.
abbrev pub generator : ℕ
generator = 2 ^ 7 + 2 ^ 6 + 2 ^ 2 + 1

-- A step of long division: where x^7 stands, the generator is taken away, which modulo 2 is to add it, digit by digit.
unfoldable pub reduced : ℕ → ℕ
reduced p = when digit 8 p 0 then bit_xor p generator else p

-- Long division of the polynomial whose n coefficients are the first bits of a word, the highest power first: coefficient
-- after coefficient is brought down behind what is left of those before it.
unfoldable pub remainder : ℕ → Word → ℕ
remainder zero x = 0
remainder (suc n) x = reduced (2 * remainder n x + tally (x n))

-- The parity bits are the remainder of the information times x^7: its 56 bits and seven zeros. Its highest power is the first bit.
abbrev pub raised : Word → Word
raised x k = ltb k 56 && x k

abbrev pub parity_bit : Word → ℕ → Bool
parity_bit x j = digit 7 (remainder 63 (raised x)) j

-- 56 information bits, seven inverted parity bits, one zero fill bit.
unfoldable pub encoded : Word → Word
encoded x k =
    when ltb k 56 then x k
    else when ltb k 63 then not (parity_bit x (k - 56))
    else false

-- A codeword is a word whose 63 bits the encoder can give: they are what is encoded of the first 56. The fill bit is ignored.
unfoldable pub codeword : Word → Bool
codeword x = agree 63 x (encoded x)

-- The lowest number below n of which something holds; n if there is none.
unfoldable pub lowest : ℕ → (ℕ → Bool) → ℕ
lowest zero f = 0
lowest (suc n) f = when f 0 then 0 else suc (lowest n (λ k. f (suc k)))

-- The bit of the 63 that was wrong, if one was: with it flipped the word is a codeword. (No second bit does that.)
abbrev pub wrong_bit : Word → ℕ
wrong_bit x = lowest 63 (λ i. codeword (flipped x i))

-- The word that is written out: its 63 bits, and the fill bit 0.
abbrev pub written : Word → List ℕ
written x = octets 8 (λ k. ltb k 63 && x k)

-- Encode: information in, word out. Refusals: 2 and 3 with 8 octets for a word and 7 for information.
pub record Encoded : Type 0 where
  pub number : ℕ
  pub out : List ℕ

unfoldable pub bch_encode_answer : List ℕ → List ℕ → Encoded
bch_encode_answer information out =
    when not (eqb (length information) 7) then record { number = 2; out = out }
    else when not (eqb (length out) 8) then record { number = 3; out = out }
    else record { number = 0; out = octets 8 (encoded (bit information)) }

-- Check, in two modes, single error correction and detect-only: number, and how many of the 63 bits were mended.
pub record Mended : Type 0 where
  pub number : ℕ
  pub mended : ℕ
  pub out : List ℕ

abbrev pub refused : ℕ → List ℕ → Mended
refused number out = record { number = number; mended = 0; out = out }

-- A word of the right length: 13 if no codeword differs in at most one bit (in detect-only mode, if the word is none);
-- otherwise the codeword is written out.
unfoldable pub judged : Bool → Word → List ℕ → Mended
judged detect_only x out =
    when codeword x then record { number = 0; mended = 0; out = written x }
    else when detect_only then refused 13 out
    else when ltb (wrong_bit x) 63 then record { number = 0; mended = 1; out = written (flipped x (wrong_bit x)) }
    else refused 13 out

unfoldable pub bch_check_answer : Bool → List ℕ → List ℕ → Mended
bch_check_answer detect_only word out =
    when not (eqb (length word) 8) then refused 2 out
    else when not (eqb (length out) 8) then refused 3 out
    else judged detect_only (bit word) out
