-- What is promised of more than one wrong bit.
use Rattle.std.specs.Prelude.{Bool, ◌&&◌, ◌||◌, List, ℕ, ◌+◌, ◌/◌, ◌%◌, eqb}
use Rattle.bits.specs.Bits.{Word}
use Rattle.rules.specs.Codes.{code}
use Rattle.rules.specs.Checks.{broken, lowest}
use Rattle.answers.specs.Calls.{Corrected}

-- The least limit under which two wrong bits of a codeword are mended, and the least for three.
abbrev pub limit_for_two : ℕ
limit_for_two = 2

abbrev pub limit_for_three : ℕ
limit_for_three = 3

-- A received word x comes back as the codeword, mended by exactly k flips.
abbrev pub mended_by : ℕ → ℕ → Word → List ℕ → Corrected
mended_by n k x word = record {
  number = 0;
  flips = k;
  first = broken (code n) x;
  last = 0;
  unlike = k;
  lowest = lowest (code n) x;
  out = word;
}

-- A bit of block p of code 1, and the bit of block q that is s places further round; and in either order.
abbrev pub further : (p q s b d : ℕ) → Bool
further p q s b d = eqb (b / 16) p && (eqb (d / 16) q && eqb (d % 16) ((b % 16 + s) % 16))

abbrev pub around : (p q s b d : ℕ) → Bool
around p q s b d = further p q s b d || further p q s d b

-- The 16 pairs of code 1 that correct does not mend: bits 80 and 109, turned round in their blocks.
abbrev pub sixteen : ℕ → ℕ → Bool
sixteen = around 5 6 13

-- The 80 pairs of code 1 for which a third bit has the greatest excess too: these, and 75 or 77 with 80 or with 109.
abbrev pub eighty : ℕ → ℕ → Bool
eighty b d = sixteen b d || ((around 4 5 5 b d || around 4 5 3 b d) || (around 4 6 2 b d || around 4 6 0 b d))

-- Two wrong bits that are not promised to be mended, by correct and on samples.
abbrev pub unmended : ℕ → ℕ → ℕ → Bool
unmended n b d = eqb n 1 && sixteen b d

abbrev pub undecided : ℕ → ℕ → ℕ → Bool
undecided n b d = eqb n 1 && eighty b d
