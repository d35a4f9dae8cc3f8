-- Words that are held in rows, and what the shifts of a block have in each row.
use Rattle.std.specs.Prelude.{not, ◌&&◌, ◌||◌, List, ℕ, ◌+◌, ◌-◌, ◌*◌, ◌/◌, ◌%◌, eqb, ltb}
use Rattle.bits.specs.Bits.{Word, ◌⊕◌, sum, over}
use Rattle.vectors.specs.Vectors.{up_to, from, twice}
use Rattle.layout.specs.Lent.{shifts_of}
use Rattle.layout.specs.declared.Parity.{Parity}
use Rattle.layout.specs.declared.Shape.{Shape}

-- The sum modulo 2 of two words, bit by bit.
abbrev pub plus : Word → Word → Word
plus x y n = x n ⊕ y n

-- The first k rows of w bits each, row after row; the rest is 0.
unfoldable pub rowed : ℕ → ℕ → (ℕ → Word) → Word
rowed w k f n = ltb (n / w) k && f (n / w) (n % w)

-- A word of which the first k rows of w bits each keep only their first m bits.
unfoldable pub within : ℕ → ℕ → ℕ → Word → Word
within w m k x n = (not (ltb (n / w) k) || ltb (n % w) m) && x n

-- A row is held in whole words.
abbrev pub wide : Shape → ℕ
wide sh = 64 * sh.words

-- What one place of the table adds: nothing, where its number is M or more.
abbrev pub entry : ℕ → (ℕ → Word) → ℕ → Word
entry M g s i = ltb s M && g s i

-- The sum over the shifts of block b of row r.
abbrev pub spread : Shape → List ℕ → ℕ → (ℕ → Word) → ℕ → Word
spread sh h b g r i = over (shifts_of sh h r b) (λ s. g s i)

-- Block b of a word, twice over; and turned by a shift.
abbrev pub doubled : ℕ → Word → ℕ → Word
doubled M x b = twice M (up_to M (from (b * M) x))

abbrev pub turned : Word → ℕ → Word
turned d s = from s d

-- The rows of the first k blocks: in each the sum of the blocks, turned by their shifts.
abbrev pub summed : Shape → List ℕ → Word → ℕ → ℕ → Word
summed sh h x k r i = sum k (λ b. spread sh h b (turned (doubled sh.size x b)) r i)

-- What the shifts of block b add to the rows of a syndrome; and what those of the first k blocks of a word add.
abbrev pub block_rows : Parity → ℕ → (ℕ → Word) → Word
block_rows p b g = rowed (wide p.shape) p.shape.rows (spread p.shape p.places.now b g)

abbrev pub word_rows : Parity → Word → ℕ → Word
word_rows p x k = rowed (wide p.shape) p.shape.rows (summed p.shape p.places.now x k)

-- The check that covers bit k of a block by the shift s.
abbrev pub covering : ℕ → ℕ → ℕ → Word
covering M k s i = eqb i ((k + (M - s)) % M)
