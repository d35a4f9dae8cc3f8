-- How long the arrays are that hold a code's parts, whatever the code: the constants of the source, by name.
use Rattle.std.specs.Prelude.{ℕ}

-- the 64-bit words of a word: 8176 bits fill 128, and a window that begins in the last of them, or 18 bits past it, reads two more
abbrev pub word_room : ℕ
word_room = 130

-- those of a syndrome
abbrev pub syndrome_room : ℕ
syndrome_room = 16

-- those of a doubled block
abbrev pub doubled_room : ℕ
doubled_room = 16

-- the places of a parity table
abbrev pub table_room : ℕ
table_room = 64

-- the 64-bit words of the rows of a syndrome, each twice over, and one more
abbrev pub rows_room : ℕ
rows_room = 65

-- eight starts for each block
abbrev pub starts_room : ℕ
starts_room = 128

-- a number for each block
abbrev pub blocks_room : ℕ
blocks_room = 16
