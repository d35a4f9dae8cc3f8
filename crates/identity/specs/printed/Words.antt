-- The words of the printed numbers.
use Rattle.std.specs.Prelude.{List, [], ◌∷◌, ℕ, zero, suc, ◌-◌, ◌*◌, ◌/◌, ◌%◌, ◌^◌}

-- Word q of a number that is written with so many words of 64 bits, the most significant first.
abbrev pub word_of : ℕ → ℕ → ℕ → ℕ
word_of words number q = number / 2 ^ (64 * (words - suc q)) % 2 ^ 64

-- The words of a number, the last n of them; of a row of numbers; and of a table.
abbrev pub words_of : ℕ → ℕ → ℕ → List ℕ
words_of words number zero = []
words_of words number (suc n) = word_of words number (words - suc n) ∷ words_of words number n

abbrev pub row_words : ℕ → List ℕ → List (List ℕ)
row_words words [] = []
row_words words (number ∷ row) = words_of words number words ∷ row_words words row

abbrev pub table_words : ℕ → List (List ℕ) → List (List (List ℕ))
table_words words [] = []
table_words words (row ∷ table) = row_words words row ∷ table_words words table
