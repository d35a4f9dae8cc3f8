-- Rows and blocks that one word holds each, and what is seen of a block's bits at once.
use Rattle.std.specs.Prelude.{◌≡◌, Bool, true, false, ◌&&◌, List, ℕ, ◌+◌, ◌-◌, ◌*◌, ◌%◌, ◌≤◌, ◌<◌, eqb, leb, ltb, length, get_or, map}
use Rattle.bits.specs.Bits.{Word, when◌then◌else◌, count_of}
use Rattle.rules.specs.Codes.{Code}
use Rattle.rules.specs.Checks.{check}
use Rattle.vectors.specs.Vectors.{Holds, up_to, from as bits_from}
use Rattle.planes.specs.Ranges.{Top}
use Rattle.flipping.specs.declared.choice.Best.{Best}
use Rattle.layout.specs.declared.Shape.{Shape}
use Rattle.layout.specs.Lent.{Fit, Lent, total, shifts_of, score}
use Rattle.magnitudes.specs.Patterns.{smaller}
use Rattle.magnitudes.specs.Sizes.{smallest}
use Rattle.flipping.specs.declared.narrow.Weights.{Weights}
use Rattle.flipping.specs.declared.narrow.Level.{Level}

-- The first m bits of a word, over and over.
abbrev pub around : ℕ → Word → Word
around m f i = f (i % m)

-- Each of four words holds a row of the checks of x, over and over.
abbrev pub Rows : Code → Shape → Word → List ℕ → Type 0
Rows c sh x rows = (r : ℕ) → r < 4 → Holds (get_or rows r 0) (around sh.size (λ i. check c x (r * sh.size + i)))

-- They are the rows of a word under a code whose table is lent.
pub record Held (h : List ℕ) (sh : Shape) (rows : List ℕ) : Type 0 where
  pub code : Code
  pub word : Word
  pub lent : Lent code h sh
  pub rows_are : Rows code sh word rows

-- Of the bits that count, those of which at most so many of n checks are met; hits has their broken ones.
abbrev pub lightly : Word → (ℕ → ℕ) → ℕ → ℕ → Word
lightly counts hits n met k = counts k && leb n (hits k + met)

-- The weights of the bits that count, after the checks of which hits has the broken ones.
pub record Weighs (counts : Word) (hits : ℕ → ℕ) (w : Weights) : Type 0 where
  pub none : Holds w.none (lightly counts hits w.checks 0)
  pub one : Holds w.one (lightly counts hits w.checks 1)
  pub two : Holds w.two (lightly counts hits w.checks 2)
  pub few : (k : ℕ) → k < 64 → hits k ≤ w.checks

-- Of the checks of bit k of block b in the first rows, how many are broken; and how many there are.
abbrev pub broke : Code → List ℕ → Shape → ℕ → Word → ℕ → ℕ → ℕ
broke c h sh b x rows k = total rows
    (λ r. count_of (shifts_of sh h r b) (λ s. check c x (r * sh.size + (k + (sh.size - s)) % sh.size)))

-- The bits of block b that are sent, where those before bit `from` are not, which is one of block 0.
abbrev pub sent : ℕ → ℕ → ℕ → Word
sent m from b k = leb (when eqb b 0 then from else 0) k && ltb k m

-- Of the bits that count, none whose score g is above 8 has more than this score; and if it is above 8, the mask has those that have it.
pub record Peaked (counts : Word) (g : ℕ → ℕ) (score mask : ℕ) : Type 0 where
  pub most : (k : ℕ) → k < 64 → counts k ≡ true → 8 < g k → g k ≤ score
  pub some : 8 < score → 0 < mask
  pub those : 8 < score → Holds mask (λ k. counts k && eqb (g k) score)

-- The first blocks of the word x have been weighed so.
pub record Weighed (c : Code) (sh : Shape) (from : ℕ) (x : Word) (scores masks : List ℕ) (blocks : ℕ) : Type 0 where
  pub each : (b : ℕ) → b < blocks
      → Peaked (sent sh.size from b) (λ k. score c x (b * sh.size + k)) (get_or scores b 0) (get_or masks b 0)

-- The scores of levels, and their masks.
abbrev pub scores_of : List Level → List ℕ
scores_of levels = map (λ l. l.score) levels

abbrev pub masks_of : List Level → List ℕ
masks_of levels = map (λ l. l.mask) levels

-- Of the first scores none is greater than `top`, which is 8 or the score of this block, and those of lower blocks are less.
pub record Greatest (scores : List ℕ) (blocks top block : ℕ) : Type 0 where
  pub some : 8 ≤ top
  pub most : (b : ℕ) → b < blocks → get_or scores b 0 ≤ top
  pub inside : 8 < top → block < blocks
  pub here : 8 < top → get_or scores block 0 ≡ top
  pub first : 8 < top → (b : ℕ) → b < block → get_or scores b 0 < top
  pub low : block < 16

-- The marked bits of a block are those of its mask if it has this score, and else there is none.
pub record Marks (marked : ℕ → Bool) (sh : Shape) (scores masks : List ℕ) (top : ℕ) : Type 0 where
  pub here : (b : ℕ) → b < sh.blocks → get_or scores b 0 ≡ top → Holds (get_or masks b 0) (up_to sh.size (bits_from (b * sh.size) marked))
  pub none : (b : ℕ) → b < sh.blocks → (get_or scores b 0 ≡ top → ⊥) → (k : ℕ) → k < sh.size → marked (b * sh.size + k) ≡ false

-- Some bits are marked so.
pub record Marked (sh : Shape) (scores masks : List ℕ) (top : ℕ) : Type 0 where
  pub marked : ℕ → Bool
  pub marks : Marks marked sh scores masks top

-- The blocks of a word have been weighed so under a code whose table is lent; there are as many samples as bits, of which all are sent, or
-- none.
pub record Told (sh : Shape) (samples : List ℕ) (scores masks : List ℕ) : Type 0 where
  pub code : Code
  pub table : List ℕ
  pub from : ℕ
  pub word : Word
  pub fit : Fit table sh
  pub lent : Lent code table sh
  pub narrow : sh.words ≡ 1
  pub some : 1 ≤ sh.blocks
  pub begin : from < sh.size
  pub long : 0 < length samples → (length samples ≡ sh.blocks * sh.size) × (from ≡ 0)
  pub weighed : Weighed code sh from word scores masks sh.blocks

-- No bit that is sent has a greater score than this one. If the score is above 8, `low` is the first that has it, and the bit is the
-- smallest of all that have it.
pub record Chosen (c : Code) (sh : Shape) (from : ℕ) (x : Word) (samples : List ℕ) (b : Best) : Type 0 where
  pub most : (n : ℕ) → from ≤ n → n < sh.blocks * sh.size → score c x n ≤ b.score
  pub low : ℕ
  pub top : 8 < b.score → Top (score c x) from (sh.blocks * sh.size) low b.score
  pub bit : 8 < b.score
      → b.bit ≡ smallest (smaller samples) (λ n. leb b.score (score c x n)) low from (sh.blocks * sh.size - from)
