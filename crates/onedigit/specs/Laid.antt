-- Tables laid flat: three places for a block, a word for 64 bits of a number.
use Rattle.std.specs.Prelude.{List, [], ℕ, ◌+◌, ◌*◌, ◌/◌, ◌%◌, eqb, get_or}
use Rattle.bits.specs.Bits.{when◌then◌else◌}
use Rattle.catalogue.specs.tables.Flat.{listed}

-- Place i of three for each block, where the list has two for each; the third holds no shift.
abbrev pub third_none : List ℕ → ℕ → ℕ
third_none h i = when eqb (i % 3) 2 then 65535 else get_or h (i / 3 * 2 + i % 3) 0

unfoldable pub threes : List ℕ → List ℕ
threes h = listed 96 (third_none h)

-- The words of rows of four numbers, and of rows of two numbers of eight words.
unfoldable pub words4 : List (List ℕ) → List ℕ
words4 h = listed 16 (λ i. get_or (get_or h (i / 4) []) (i % 4) 0)

unfoldable pub words28 : List (List (List ℕ)) → List ℕ
words28 h = listed 224 (λ i. get_or (get_or (get_or h (i / 16) []) (i / 8 % 2) []) (i % 8) 0)
