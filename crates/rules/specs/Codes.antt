-- The five codes: their lengths and their tables.
use Rattle.std.specs.Prelude.{Bool, ◌&&◌, List, [], ◌∷◌, ℕ, ◌-◌, ◌*◌, leb, length, get_or}
use Rattle.rules.specs.Tables.{parity16, parity32, parity64, parity511, generator16, generator32, generator64, generator511}

pub record Code : Type 0 where
  -- the octets of a word and of its information, as they are handed over
  pub octets_of_word : ℕ
  pub octets_of_information : ℕ
  -- how many of the information bits, the first ones, are 0 and not sent
  pub unsent : ℕ
  -- M, the size of a block
  pub size : ℕ
  -- rows of blocks of shifts
  pub parity : List (List (List ℕ))
  -- for each information block, the printed number of each parity block; and how many bits its digits have
  pub generator : List (List ℕ)
  pub printed : ℕ

-- A check for each row of each block row.
abbrev pub checks : Code → ℕ
checks c = length c.parity * c.size

-- The bits that the checks are over, the columns of all blocks: first the information bits, then the parity.
abbrev pub bits : Code → ℕ
bits c = length (get_or c.parity 0 []) * c.size

abbrev pub information : Code → ℕ
information c = length c.generator * c.size

-- The telecommand codes send every bit, and their printed digits have M bits.
abbrev pub telecommand : ℕ → ℕ → ℕ → List (List (List ℕ)) → List (List ℕ) → Code
telecommand octets_of_word octets_of_information M parity generator = record {
  octets_of_word = octets_of_word;
  octets_of_information = octets_of_information;
  unsent = 0;
  size = M;
  parity = parity;
  generator = generator;
  printed = M;
}

-- The near-Earth codes have the same tables, M = 511; the printed digits have 512 bits.
abbrev pub near_earth : ℕ → ℕ → ℕ → Code
near_earth octets_of_word octets_of_information unsent = record {
  octets_of_word = octets_of_word;
  octets_of_information = octets_of_information;
  unsent = unsent;
  size = 511;
  parity = parity511;
  generator = generator511;
  printed = 512;
}

-- Code 1, (128,64): 64 checks.
unfoldable pub code1 : Code
code1 = telecommand 16 8 16 parity16 generator16

-- Code 2, (256,128): 128 checks.
unfoldable pub code2 : Code
code2 = telecommand 32 16 32 parity32 generator32

-- Code 3, (512,256): 256 checks.
unfoldable pub code3 : Code
code3 = telecommand 64 32 64 parity64 generator64

-- Code 4, (8176,7154): 1022 checks.
unfoldable pub code4 : Code
code4 = near_earth 1022 895 0

-- Code 5, (8160,7136): code 4 with 18 zero bits before the information, not sent, and with two zero bits sent after the parity.
unfoldable pub code5 : Code
code5 = near_earth 1020 892 18

-- The code with a number from 1 to 5.
unfoldable pub code : ℕ → Code
code n = get_or (code1 ∷ code2 ∷ code3 ∷ code4 ∷ code5 ∷ []) (n - 1) code1

-- Codes 1 to 5 are offered.
abbrev pub offered : ℕ → Bool
offered n = leb 1 n && leb n 5

-- Codes 1 to 3 are the telecommand codes.
abbrev pub telecommanded : ℕ → Bool
telecommanded n = leb 1 n && leb n 3
