-- What is asked and owed where a recording is read in parts: its three octets, the head, and then blocks of words.
use Rattle.std.specs.Prelude.{◌≡◌, false, List, ◌++◌, ℕ, ◌+◌, ◌*◌, ◌%◌, ◌^◌, ◌≤◌, ◌<◌, length}
use Rattle.rules.specs.Codes.{code}
use Rattle.wordlog.specs.lines.Log.{code_in, bad, log}

-- A head behind which words are read.
abbrev pub Taken : List ℕ → Type 0
Taken head = (length head ≡ 3) × (bad head ≡ false)

-- The octets of a word of the recording.
abbrev pub size_in : List ℕ → ℕ
size_in head = (code (code_in head)).octets_of_word

-- Room for a word, and for the lines of a block.
abbrev pub Room : List ℕ → List ℕ → List ℕ → List ℕ → Type 0
Room head words out text = (length out ≡ size_in head) × (8 * length words + 128 ≤ length text)

-- So many octets, whole words, were read before the block.
abbrev pub Counted : List ℕ → ℕ → List ℕ → Type 0
Counted head read words = (read % size_in head ≡ 0) × (read + length words < 2 ^ 64)

-- The text is what the log grows by, whatever the octets were that were read before.
abbrev pub Adds : List ℕ → ℕ → List ℕ → List ℕ → Type 0
Adds head read words text = (before : List ℕ) → length before ≡ read → log (head ++ (before ++ words)) ≡ log (head ++ before) ++ text
