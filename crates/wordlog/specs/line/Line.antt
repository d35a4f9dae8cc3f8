-- A line of the log, numbers to text.
use Rattle.std.specs.Prelude.{List, [], ◌∷◌, ◌++◌, ℕ, zero, suc, ◌+◌, ◌/◌, ◌%◌, ltb, replicate}
use Prim.Native.Char.{code as ascii_of}
use Prim.Native.String.{String, [] as none, ◌∷◌ as ◌then◌}
use Rattle.bits.specs.Bits.{when◌then◌else◌}
use Rattle.rules.specs.Codes.{code}
use Rattle.answers.specs.Calls.{Corrected, correct_answer}

-- A text as octets.
unfoldable pub ascii : String → List ℕ
ascii none = []
ascii (c then rest) = ascii_of c ∷ ascii rest

-- The decimal digits of a number, the most significant first; no number has more digits than itself and one.
unfoldable pub digits : ℕ → ℕ → List ℕ
digits zero n = (48 + n) ∷ []
digits (suc most) n = when ltb n 10 then ((48 + n) ∷ []) else digits most (n / 10) ++ ((48 + n % 10) ∷ [])

abbrev pub decimal : ℕ → List ℕ
decimal n = digits n n

-- Numbers, a space before each.
unfoldable pub fields : List ℕ → List ℕ
fields [] = []
fields (n ∷ ns) = 32 ∷ (decimal n ++ fields ns)

-- What a line gives behind the index: number, flips, checks broken at start, at end, and in how many bits the words differ. The header has
-- a name for each.
abbrev pub numbers : Corrected → List ℕ
numbers a = a.number ∷ a.flips ∷ a.first ∷ a.last ∷ a.unlike ∷ []

unfoldable pub header : List ℕ
header = ascii "word answer flips first last unlike\n"

-- A line: index, numbers, the end of the line.
unfoldable pub line : ℕ → Corrected → List ℕ
line index a = decimal index ++ (fields (numbers a) ++ (10 ∷ []))

-- The line of a word that is corrected under a limit. A short word is refused by its length: number 2.
abbrev pub word_line : ℕ → ℕ → ℕ → List ℕ → List ℕ
word_line n limit index octets = line index (correct_answer n octets limit (replicate (code n).octets_of_word 0))
