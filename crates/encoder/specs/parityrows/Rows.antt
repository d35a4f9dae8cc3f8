-- Rows of M bits as they are held in words, and how they are put behind the information.
use Rattle.std.specs.Prelude.{◌≡◌, true, List, [], ℕ, ◌+◌, ◌-◌, ◌*◌, ◌/◌, ◌%◌, ◌≤◌, ◌<◌, T, eqb, get_or}
use Rattle.bits.specs.Bits.{Word, bit, over, when◌then◌else◌}
use Rattle.rules.specs.Codes.{code, information, offered}
use Rattle.rules.specs.Encoding.{lifted, encoded, written}
use Rattle.vectors.specs.Vectors.{up_to, from, joined}
use Rattle.layout.specs.declared.Shape.{Shape}
use Rattle.catalogue.specs.offer.Offers.{offer_of}
use Rattle.syndromes.specs.Rows.{rowed, wide}
use Rattle.encoder.specs.steps.Steps.{shifts, rows_in, walked, check_rows, steps16, steps32, steps64, steps511}

-- Rows, each in whole words; the rest is 0.
abbrev pub held : Shape → (ℕ → Word) → Word
held sh rows = rowed (wide sh) sh.rows (λ r. up_to sh.size (rows r))

-- Nothing stands past bit M of a row.
abbrev pub Kept : Shape → Word → Type 0
Kept sh x = x ≡ held sh (λ r i. x (wide sh * r + i))

-- The two rows of M = 511.
abbrev pub two_rows : (ℕ → Word) → Word
two_rows rows = rowed 512 2 (λ r. up_to 511 (rows r))

-- The numbers of a shape fit the arrays.
pub record Fits (sh : Shape) : Type 0 where
  pub some : 1 ≤ sh.size
  pub held_in : sh.size ≤ 64 * sh.words
  pub close : 64 * sh.words < sh.size + 64
  pub words : sh.words ≤ 8
  pub room : sh.rows * sh.words ≤ 16
  pub parity : sh.rows * sh.size ≤ 1022

-- The shapes as the encoder has them in numbers.
abbrev pub wide_shape : Shape
wide_shape = record { size = 511; words = 8; blocks = 16; rows = 2 }

abbrev pub narrow_shape : ℕ → Shape
narrow_shape M = record { size = M; words = 1; blocks = 8; rows = 4 }

-- A shape that some code has.
pub record Shaped (sh : Shape) : Type 0 where
  pub number : ℕ
  pub offers : offered number ≡ true
  pub is : sh ≡ (offer_of number).shape

-- A doubled row, turned by the shifts of a step and summed.
abbrev pub copies : ℕ → List ℕ → Word → Word
copies M step d i = over (shifts M step) (λ s. from s d i)

-- The list of steps for M.
unfoldable pub steps_of : ℕ → List (List ℕ)
steps_of M = when eqb M 16 then steps16 else when eqb M 32 then steps32 else when eqb M 64 then steps64 else steps511

-- The rows after all steps, of a word whose parity is 0.
abbrev pub end_rows : ℕ → ℕ → Word → ℕ → Word
end_rows n M x = walked M (steps_of M) 15 (check_rows (code n) x)

-- Every step of a list is between rows of the shape.
abbrev pub Within : ℕ → List (List ℕ) → Type 0
Within R steps = (k : ℕ) → k < 15 → T (rows_in R (get_or steps k []))

-- The bits of the information blocks.
abbrev pub informed : Shape → ℕ
informed sh = (sh.blocks - sh.rows) * sh.size

-- The rows as parity blocks: block a is row (a + first) mod R.
unfoldable pub behind : Shape → ℕ → (ℕ → Word) → Word
behind sh first rows n = rows ((n / sh.size + first) % sh.rows) (n % sh.size)

-- The first bits of a word, and behind them the parity blocks; the rest is 0.
abbrev pub completed : Shape → ℕ → (ℕ → Word) → ℕ → Word → Word
completed sh first rows at x = up_to (at + sh.rows * sh.size) (joined at x (λ n. behind sh first rows (n - at)))

-- The octets hold a code's information bits, and zeros behind them.
abbrev pub Informs : ℕ → List ℕ → Type 0
Informs n octets = lifted (code n) (bit octets) ≡ up_to (information (code n)) (lifted (code n) (bit octets))

-- The octets of the word with this information.
abbrev pub word_of : ℕ → List ℕ → List ℕ
word_of n octets = written (code n) (encoded (code n) (lifted (code n) (bit octets)))
