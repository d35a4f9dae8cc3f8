-- A block of words as it is corrected and numbered.
use Rattle.std.specs.Prelude.{◌≡◌, List, ℕ, ◌+◌, ◌-◌, ◌/◌, ◌^◌, ◌≤◌, ◌<◌, length}
use Rattle.rules.specs.Codes.{code}
use Rattle.wordlog.specs.lines.Log.{code_in, limit_in}
use Rattle.wordlog.specs.lines.Parts.{size_in}
use Rattle.wordlog.specs.declared.lines.Block.{Block}

-- How many words of so many octets there are to the end; the last may be short.
abbrev pub counted : ℕ → List ℕ → ℕ
counted size octets = (length octets + (size - 1)) / size

-- Words of a code, each of which has an index.
abbrev pub Numbered : ℕ → ℕ → ℕ → List ℕ → Type 0
Numbered n size index octets = (size ≡ (code n).octets_of_word) × (16 ≤ size) × (index + length octets < 2 ^ 64)

-- The block behind so many octets of words: code and limit are the head's, and the index goes on from the words before it.
abbrev pub Behind : List ℕ → ℕ → List ℕ → Block → Type 0
Behind head read octets b =
    (b.code ≡ code_in head) × (b.limit ≡ limit_in head) × (b.size ≡ size_in head) × (16 ≤ b.size) × (b.index ≡ read / b.size)
    × (b.count ≡ counted b.size octets)
