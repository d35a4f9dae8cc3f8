-- What is lent to the engine, and how the engine holds a syndrome.
use Rattle.std.specs.Prelude.{◌≡◌, ◌&&◌, List, [], ◌∷◌, ℕ, zero, suc, ◌+◌, ◌-◌, ◌*◌, ◌/◌, ◌%◌, ◌≤◌, ◌<◌, eqb, ltb, length, get_or}
use Rattle.bits.specs.Bits.{Word, ◌⊕◌, sum, flipped, when◌then◌else◌, over, count_of}
use Rattle.rules.specs.Codes.{Code, bits, checks}
use Rattle.rules.specs.Checks.{check, broken_of, degree_of}
use Rattle.layout.specs.declared.Shape.{Shape}

-- The numbers of a shape fit the engine's arrays; the flat table h has two places for each block.
pub record Fit (h : List ℕ) (sh : Shape) : Type 0 where
  pub some : 1 ≤ sh.size
  pub held : sh.size ≤ 64 * sh.words
  pub close : 64 * sh.words < sh.size + 64
  pub words : sh.words ≤ 8
  pub blocks : sh.blocks ≤ 16
  pub rows : sh.rows ≤ 4
  pub room : sh.rows * sh.words ≤ 16
  pub bits : sh.blocks * sh.size ≤ 8176
  pub flat : length h ≡ 2 * (sh.rows * sh.blocks)
  -- blocks that one word holds fill it a whole number of times, and stand in four rows
  pub narrow : sh.words ≡ 1 → (sh.rows ≡ 4) × (64 % sh.size ≡ 0)

-- The shifts of a block: what its two places hold, where a number that is M or more is no entry.
abbrev pub kept : ℕ → ℕ → List ℕ → List ℕ
kept M s rest = when ltb s M then s ∷ rest else rest

abbrev pub entries : ℕ → List ℕ → ℕ → List ℕ
entries M h at = kept M (get_or h at M) (kept M (get_or h (at + 1) M) [])

-- The places of block b of row r.
abbrev pub place_of : Shape → ℕ → ℕ → ℕ
place_of sh r b = 2 * (r * sh.blocks + b)

abbrev pub shifts_of : Shape → List ℕ → ℕ → ℕ → List ℕ
shifts_of sh h r b = entries sh.size h (place_of sh r b)

-- A sum over the numbers below n.
unfoldable pub total : ℕ → (ℕ → ℕ) → ℕ
total zero f = 0
total (suc n) f = total n f + f n

-- h is the parity table of the code c: its checks and its bits, by what h holds.
pub record Lent (c : Code) (h : List ℕ) (sh : Shape) : Type 0 where
  pub size : c.size ≡ sh.size
  pub bits_are : bits c ≡ sh.blocks * sh.size
  pub checks_are : checks c ≡ sh.rows * sh.size
  -- check i of row r
  pub check_by : (x : Word) (r i : ℕ) → r < sh.rows → i < sh.size
      → check c x (r * sh.size + i) ≡ sum sh.blocks (λ b. over (shifts_of sh h r b) (λ s. x (b * sh.size + (i + s) % sh.size)))
  -- the same after bit k of block b was flipped
  pub flip_by : (x : Word) (b k r i : ℕ) → b < sh.blocks → k < sh.size → r < sh.rows → i < sh.size
      → check c (flipped x (b * sh.size + k)) (r * sh.size + i)
      ≡ check c x (r * sh.size + i) ⊕ over (shifts_of sh h r b) (λ s. eqb i ((k + (sh.size - s)) % sh.size))
  -- the broken checks of bit k of block b, and all its checks, which are at most 6
  pub broken_by : (x : Word) (b k : ℕ) → b < sh.blocks → k < sh.size
      → broken_of c x (b * sh.size + k) ≡ total sh.rows
      (λ r. count_of (shifts_of sh h r b) (λ s. check c x (r * sh.size + (k + (sh.size - s)) % sh.size)))
  pub degree_by : (b k : ℕ) → b < sh.blocks → k < sh.size
      → degree_of c (b * sh.size + k) ≡ total sh.rows (λ r. length (shifts_of sh h r b))
  pub few : (b : ℕ) → b < sh.blocks → total sh.rows (λ r. length (shifts_of sh h r b)) ≤ 6

-- A syndrome as it is held: row after row, each in whole 64-bit words, bit i of row r is check i of block row r; the rest is 0.
unfoldable pub laid : Code → Shape → Word → Word
laid c sh x n =
    let wide = 64 * sh.words in
    ltb (n / wide) sh.rows && (ltb (n % wide) sh.size && check c x (n / wide * sh.size + n % wide))

-- The excess of a bit, and 8 more: a number without a sign, by which bits are compared.
unfoldable pub score : Code → Word → ℕ → ℕ
score c x n = 2 * broken_of c x n + 8 - degree_of c n
