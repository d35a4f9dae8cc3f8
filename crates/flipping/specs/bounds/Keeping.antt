-- What is kept of a word from flip to flip.
use Rattle.std.specs.Prelude.{◌≡◌, List, ℕ, ◌+◌, ◌-◌, ◌*◌, ◌/◌, ◌%◌, ◌≤◌, ◌<◌, length, get_or}
use Rattle.bits.specs.Bits.{Word, flipped}
use Rattle.rules.specs.Codes.{Code}
use Rattle.rules.specs.Checks.{met_of}
use Rattle.vectors.specs.Vectors.{wbit}
use Rattle.layout.specs.declared.Shape.{Shape}
use Rattle.layout.specs.Lent.{Lent, laid, score}
use Rattle.layout.specs.Rooms.{blocks_room, starts_room}
use Rattle.flipping.specs.bounds.Reading.{Twice, Gathered, hits}
use Rattle.flipping.specs.declared.bounds.Places.{Places}

-- The bound of block b: the score of a bit of its, of which so many checks are met as `met` has for the block.
abbrev pub bound : List ℕ → List ℕ → ℕ → ℕ
bound counts met b = 8 + get_or counts b 0 - 2 * get_or met b 0

-- Starts, counts and met checks fit each other and a shape.
pub record Ready (sh : Shape) (starts counts met : List ℕ) : Type 0 where
  pub some : 1 ≤ sh.size
  pub held : sh.size ≤ 64 * sh.words
  pub close : 64 * sh.words < sh.size + 64
  pub words : sh.words ≤ 8
  pub blocks : sh.blocks ≤ 16
  pub starts_long : length starts ≡ starts_room
  pub counts_long : length counts ≡ blocks_room
  pub met_long : length met ≡ blocks_room
  pub low : (b : ℕ) → b < sh.blocks → get_or counts b 0 ≤ 8
  pub near : (b e : ℕ) → b < sh.blocks → e < get_or counts b 0 → get_or starts (8 * b + e) 0 ≤ 3072 + sh.size
  pub inside : (b e k : ℕ) → b < sh.blocks → e < get_or counts b 0 → k < sh.size → (get_or starts (8 * b + e) 0 + k) % 1024 < 2 * sh.size
  pub few : (b : ℕ) → b < sh.blocks → get_or met b 0 ≤ get_or counts b 0

-- g is what the hits of each block give: twice their number, and 8 less n.
abbrev pub Scored : (ℕ → ℕ) → Shape → Word → List ℕ → List ℕ → Type 0
Scored g sh d starts counts = (b k : ℕ) → b < sh.blocks → k < sh.size
    → g (b * sh.size + k) ≡ 2 * hits d starts (8 * b) (get_or counts b 0) k + (8 - get_or counts b 0)

-- No bit from bit `from` on is above the bound of its block.
abbrev pub Under : (ℕ → ℕ) → Shape → ℕ → List ℕ → List ℕ → Type 0
Under g sh from counts met = (b k : ℕ) → b < sh.blocks → k < sh.size → from ≤ b * sh.size + k → g (b * sh.size + k) ≤ bound counts met b

-- The state is that of the word x: its syndrome, doubled, and no bit that is sent has a greater score than the bound of its block.
pub record Kept (c : Code) (sh : Shape) (from : ℕ) (x : Word) (d counts met : List ℕ) : Type 0 where
  pub twice : Twice sh sh.rows (laid c sh x) (wbit d)
  pub under : Under (score c x) sh from counts met

-- These places are those of the table h.
abbrev pub Laid : List ℕ → Places → Type 0
Laid h p = Gathered h p.shape p.starts p.counts p.shape.blocks

-- The state of any word becomes that of the word with this bit flipped, where as many of its checks are met as `met` has for its block.
abbrev pub Flips : Places → ℕ → List ℕ → List ℕ → List ℕ → List ℕ → Type 0
Flips p bit d met d' met' = (c : Code) (h : List ℕ) (from : ℕ) (x : Word) → Lent c h p.shape
    → Laid h p → Kept c p.shape from x d p.counts met
    → met_of c x bit ≡ get_or met (bit / p.shape.size) 0 → Kept c p.shape from (flipped x bit) d' p.counts met'
