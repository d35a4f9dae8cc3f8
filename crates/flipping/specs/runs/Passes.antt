-- What the engine's choices and runs mean.
use Rattle.std.specs.Prelude.{◌≡◌, List, ℕ, ◌+◌, ◌-◌, ◌*◌, ◌/◌, ◌≤◌, ◌<◌, length, get_or, ℤ}
use Rattle.bits.specs.Bits.{Word, flipped}
use Rattle.rules.specs.Codes.{Code}
use Rattle.rules.specs.Flipping.{Next as NextOf, quiet, stuck, flip, Way, run}
use Rattle.layout.specs.declared.Shape.{Shape}
use Rattle.rules.specs.Checks.{broken, met_of}
use Rattle.layout.specs.Lent.{Fit, Lent, laid}
use Rattle.flipping.specs.declared.bounds.Places.{Places}
use Rattle.flipping.specs.bounds.Keeping.{Kept, Laid}
use Rattle.flipping.specs.narrow.Weighing.{Rows}
use Rattle.flipping.specs.declared.runs.Next.{Next}
use Rattle.flipping.specs.declared.runs.Next.TheVariants.{Quiet, Stuck, Flip}
use Rattle.flipping.specs.declared.choice.Best.{Best}
use Rattle.flipping.specs.declared.runs.Ran.{Ran}
use Rattle.flipping.specs.runs.Endings.{number_of}

-- z is the syndrome of a word under a code whose table is lent.
pub record Holding (h : List ℕ) (sh : Shape) (z : Word) : Type 0 where
  pub code : Code
  pub word : Word
  pub lent : Lent code h sh
  pub held : z ≡ laid code sh word

-- The run of the code c begins with the word y, whose syndrome is z; `first` of its checks are broken, and bits before bit `from` are not
-- sent.
pub record Begins (c : Code) (h : List ℕ) (sh : Shape) (from first : ℕ) (y z : Word) : Type 0 where
  pub lent : Lent c h sh
  pub unsent : c.unsent ≡ from
  pub held : z ≡ laid c sh y
  pub broken : first ≡ broken c y

-- There is such a code.
pub record Beginning (h : List ℕ) (sh : Shape) (from first : ℕ) (y z : Word) : Type 0 where
  pub code : Code
  pub begins : Begins code h sh from first y z

-- What is kept is that of the word y under the code c, and its places are of a table.
pub record KeptIn (p : Places) (from : ℕ) (d met : List ℕ) (c : Code) (y : Word) : Type 0 where
  pub table : List ℕ
  pub fit : Fit table p.shape
  pub lent : Lent c table p.shape
  pub laid_in : Laid table p
  pub some : 1 ≤ p.shape.blocks
  pub begins : from < p.shape.size
  pub unsent : c.unsent ≡ from
  pub kept : Kept c p.shape from y d p.counts met

-- The same, and a bit has as many met checks as the bound of its block says.
pub record MetIn (p : Places) (from : ℕ) (d met : List ℕ) (c : Code) (y : Word) (bit : ℕ) : Type 0 where
  pub kept_in : KeptIn p from d met c y
  pub inside : bit < p.shape.blocks * p.shape.size
  pub met_is : met_of c y bit ≡ get_or met (bit / p.shape.size) 0

-- The rows are those of the word y under the code c, which h is the table of.
pub record RowsIn (h : List ℕ) (sh : Shape) (from : ℕ) (rows : List ℕ) (c : Code) (y : Word) : Type 0 where
  pub lent : Lent c h sh
  pub unsent : c.unsent ≡ from
  pub rows_are : Rows c sh y rows

-- The same, and a bit is one of the code's.
pub record InsideIn (h : List ℕ) (sh : Shape) (from : ℕ) (rows : List ℕ) (c : Code) (y : Word) (bit : ℕ) : Type 0 where
  pub rows_in : RowsIn h sh from rows c y
  pub inside : bit < sh.blocks * sh.size

-- There is a code and a word of which this stands.
pub record Known (stands : Code → Word → Type 0) : Type 0 where
  pub code : Code
  pub word : Word
  pub is : stands code word

-- There is a code of which this stands, and so many checks of the word are broken.
pub record Running (stands : Code → Word → Type 0) (first : ℕ) (y : Word) : Type 0 where
  pub code : Code
  pub is : stands code y
  pub first_is : first ≡ broken code y

-- There is a code of which this bit was chosen.
pub record Flipping (chosen : Code → Word → ℕ → Type 0) (y : Word) (bit : ℕ) : Type 0 where
  pub code : Code
  pub is : chosen code y bit

-- What comes next for the word y, as it was chosen: a bit of a score above 8 is flipped, by which so many fewer of its checks are broken;
-- else the run is stuck.
pub record Chooses (way : Way) (c : Code) (y : Word) (b : Best) : Type 0 where
  pub ends : b.score ≤ 8 → ((n : ℕ) × (e : ℤ) × (way y ≡ stuck n e))
  pub goes : 8 < b.score → ((e : ℤ) × (way y ≡ flip b.bit e))
  pub fewer : 8 < b.score → broken c (flipped y b.bit) + (b.score - 8) ≡ broken c y

-- What comes next, as the definition has it.
abbrev pub comes_next_of : Next → NextOf
comes_next_of Quiet = quiet
comes_next_of (Stuck n e) = stuck n e
comes_next_of (Flip n e) = flip n e

-- A bit that is named is one of these.
abbrev pub Within : ℕ → Next → Type 0
Within bits Quiet = Unit {0}
Within bits (Stuck n e) = n < bits
Within bits (Flip n e) = n < bits

-- Under a way of choosing, the word y and the syndrome z are those at the end of the run from x, and its number and flips are the run's.
pub record RunsTo (way : Way) (c : Code) (sh : Shape) (limit : ℕ) (x : Word) (r : Ran) (y z : Word) : Type 0 where
  pub number : number_of r.ending ≡ (run way limit x).number
  pub flips : r.flips ≡ length (run way limit x).flips
  pub word : y ≡ (run way limit x).word
  pub held : z ≡ laid c sh y

-- The run from x has come to y after so many flips.
pub record Going (way : Way) (c : Code) (sh : Shape) (limit : ℕ) (x : Word) (flips : ℕ) (y z : Word) : Type 0 where
  pub within : flips ≤ limit
  pub held : z ≡ laid c sh y
  pub number : (run way limit x).number ≡ (run way (limit - flips) y).number
  pub count : length (run way limit x).flips ≡ flips + length (run way (limit - flips) y).flips
  pub word : (run way limit x).word ≡ (run way (limit - flips) y).word
