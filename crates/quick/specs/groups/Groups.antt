-- Groups of checks: what each place of the table adds to the checks of a row.
use Rattle.std.specs.Prelude.{◌≡◌, ◌&&◌, List, ℕ, ◌+◌, ◌*◌, ◌/◌, ◌%◌, ◌≤◌, ◌<◌, ltb, length, get_or}
use Rattle.bits.specs.Bits.{Word, digit, sum}
use Rattle.vectors.specs.Vectors.{wbit, up_to, from, twice}
use Rattle.layout.specs.declared.Shape.{Shape}

-- The first m bits of a number are those of a word.
abbrev pub Has : ℕ → ℕ → Word → Type 0
Has m v x = (i : ℕ) → i < m → digit 64 v i ≡ x i

-- What the shift s of the block that begins at bit p adds to check i of a row: nothing, where it is M or more.
abbrev pub reached : ℕ → Word → ℕ → ℕ → Word
reached M x p s i = ltb s M && x (p + (i + s) % M)

-- What place k of row r adds: two places for each block.
abbrev pub placed : Shape → List ℕ → Word → ℕ → ℕ → Word
placed sh h x r k = reached sh.size x (k / 2 * sh.size) (get_or h (2 * (r * sh.blocks) + k) sh.size)

-- What the first k places of row r add.
abbrev pub group : Shape → List ℕ → Word → ℕ → ℕ → Word
group sh h x r k i = sum k (λ j. placed sh h x r j i)

-- The first n blocks of a word, of m bits, stand twice over in d, each in 16 words.
abbrev pub Twofold : ℕ → ℕ → Word → List ℕ → Type 0
Twofold n m x d = (b i : ℕ) → b < n → i < 1024 → wbit d (1024 * b + i) ≡ twice m (up_to m (from (b * m) x)) i

-- Every place of the table holds a shift.
abbrev pub Full : List ℕ → Shape → Type 0
Full h sh = (k : ℕ) → k < length h → get_or h k 0 < sh.size

-- Where the first n places of row r begin in the doubled blocks.
abbrev pub Begun : ℕ → Shape → List ℕ → ℕ → List ℕ → Type 0
Begun n sh h r begins = (k : ℕ) → k < n → get_or begins k 0 ≡ 1024 * (k / 2) + get_or h (2 * (r * sh.blocks) + k) 0

-- From each beginning on d has n words, of which that of the beginning is the first.
abbrev pub Inside : List ℕ → ℕ → List ℕ → Type 0
Inside begins n d = (k : ℕ) → k < length begins → get_or begins k 0 / 64 + n ≤ length d

-- Bit i is the sum of the bits i places behind the beginnings.
abbrev pub behind : List ℕ → Word → Word
behind begins x i = sum (length begins) (λ k. x (get_or begins k 0 + i))
