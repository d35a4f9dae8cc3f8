-- The log of a recording, octets to text.
use Rattle.std.specs.Prelude.{Bool, not, ◌||◌, List, [], ◌++◌, ℕ, zero, suc, ◌+◌, ◌-◌, ◌*◌, ◌/◌, ltb, length, get_or, take, drop}
use Rattle.bits.specs.Bits.{when◌then◌else◌}
use Rattle.rules.specs.Codes.{code, offered}
use Rattle.answers.specs.Calls.{refused_correct_of}
use Rattle.wordlog.specs.line.Line.{header, line, word_line}

-- How many words some octets are, to the end; the last may be short.
abbrev pub words : ℕ → List ℕ → ℕ
words n octets = (length octets + ((code n).octets_of_word - 1)) / (code n).octets_of_word

-- Word k.
abbrev pub word : ℕ → List ℕ → ℕ → List ℕ
word n octets k = take (code n).octets_of_word (drop (k * (code n).octets_of_word) octets)

-- The lines of the first words, which are numbered from index on.
unfoldable pub lines : ℕ → ℕ → ℕ → List ℕ → ℕ → List ℕ
lines n limit index octets zero = []
lines n limit index octets (suc k) = lines n limit index octets k ++ word_line n limit (index + k) (word n octets k)

-- A recording is one octet code, two octets limit (high first), then words to the end.
abbrev pub code_in : List ℕ → ℕ
code_in recording = get_or recording 0 0

abbrev pub limit_in : List ℕ → ℕ
limit_in recording = 256 * get_or recording 1 0 + get_or recording 2 0

abbrev pub rest_in : List ℕ → List ℕ
rest_in recording = drop 3 recording

-- Fewer than three octets, or a bad code: the line `0 1 0 0 0 0` only. Otherwise a line for each word.
abbrev pub bad : List ℕ → Bool
bad recording = ltb (length recording) 3 || not (offered (code_in recording))

unfoldable pub body : List ℕ → List ℕ
body recording =
    let n = code_in recording in
    let octets = rest_in recording in
    when bad recording then line 0 (refused_correct_of [] 1)
    else lines n (limit_in recording) 0 octets (words n octets)

-- The log: a header and the lines.
abbrev pub log : List ℕ → List ℕ
log recording = header ++ body recording
