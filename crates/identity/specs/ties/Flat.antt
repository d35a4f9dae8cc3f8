-- Flat tables, and the lists of rules that they stand for.
use Rattle.std.specs.Prelude.{Bool, ◌&&◌, ◌≡◌, List, [], ◌∷◌, ℕ, zero, suc, ◌+◌, ◌*◌, ◌/◌, ◌%◌, ◌^◌, eqb, ltb, length, get_or}
use Rattle.bits.specs.Bits.{digit, when◌then◌else◌}
use Rattle.rules.specs.Identity.{rows_tied_of, all_padded_of}

-- n things one after the other: the first is read at a place, and each other a step further on.
unfoldable pub pieces : {A : Type 0} → (ℕ → A) → ℕ → ℕ → ℕ → List A
pieces f step at zero = []
pieces f step at (suc n) = f at ∷ pieces f step (at + step) n

-- A block of a parity table has three places. A place that holds M or more holds no shift.
abbrev pub kept : ℕ → ℕ → List ℕ → List ℕ
kept M s shifts = when ltb s M then s ∷ shifts else shifts

abbrev pub block : ℕ → List ℕ → ℕ → List ℕ
block M parity at = kept M (get_or parity at 0) (kept M (get_or parity (at + 1) 0) (kept M (get_or parity (at + 2) 0) []))

abbrev pub row : ℕ → ℕ → List ℕ → ℕ → List (List ℕ)
row M blocks parity at = pieces (block M parity) 3 at blocks

-- A number of w words of 64 bits, the most significant word first; and how many words M bits take.
unfoldable pub joined : ℕ → List ℕ → ℕ → ℕ
joined zero words at = 0
joined (suc w) words at = joined w words at * 2 ^ 64 + get_or words (at + w) 0

abbrev pub words : ℕ → ℕ
words M = (M + 63) / 64

abbrev pub numbers : ℕ → ℕ → List ℕ → ℕ → List ℕ
numbers M parts generator at = pieces (joined (words M) generator) (words M) at parts

-- What shift s meets in row d of a block: a bit of a number; or, in an information block, the one of the bit itself.
abbrev pub met : ℕ → List ℕ → ℕ → ℕ → ℕ → Bool
met M generator at d s = digit M (joined (words M) generator at) ((d + s) % M)

abbrev pub own : ℕ → ℕ → ℕ → Bool
own M d s = eqb ((d + s) % M) 0

-- The two tables, whole. A row has count information blocks, then parts parity blocks; each information block has a row of numbers.
abbrev pub parity_of : ℕ → ℕ → ℕ → List ℕ → List (List (List ℕ))
parity_of M rows blocks parity = pieces (row M blocks parity) (3 * blocks) 0 rows

abbrev pub generator_of : ℕ → ℕ → ℕ → List ℕ → List (List ℕ)
generator_of M count parts generator = pieces (numbers M parts generator) (parts * words M) 0 count

-- The flat lists have the lengths that the sizes say.
pub record Filled (M rows count parts : ℕ) (parity generator : List ℕ) : Type 0 where
  pub places : rows * (3 * (count + parts)) ≡ length parity
  pub numbered : count * (parts * words M) ≡ length generator

-- The identity of rules, at the lists that flat tables stand for.
abbrev pub flat_tied : ℕ → ℕ → ℕ → ℕ → ℕ → List ℕ → List ℕ → Bool
flat_tied M printed rows count parts parity generator =
    rows_tied_of M printed (parity_of M rows (count + parts) parity) (generator_of M count parts generator)
    && all_padded_of M (generator_of M count parts generator)
