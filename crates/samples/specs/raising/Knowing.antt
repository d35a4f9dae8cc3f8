-- What is known of each block, and what a flip makes of it.
use Rattle.std.specs.Prelude.{◌≡◌, Bool, true, false, ◌&&◌, ◌||◌, List, ℕ, zero, suc, ◌+◌, ◌-◌, ◌*◌, ◌%◌, ◌≤◌, ◌<◌, eqb, ltb, length}
use Rattle.std.specs.Prelude.{get_or}
use Rattle.bits.specs.Bits.{Word, when◌then◌else◌}
use Rattle.layout.specs.declared.Shape.{Shape}
use Rattle.flipping.specs.declared.bounds.Places.{Places}
use Rattle.flipping.specs.bounds.Reading.{hits}
use Rattle.magnitudes.specs.Patterns.{smaller}

-- n starts from start `from` on, of which no bit of a block of m bits lies past the end of d.
pub record Within (starts d : List ℕ) (from n m : ℕ) : Type 0 where
  pub few : n ≤ 8
  pub room : from + n ≤ length starts
  pub starts_long : length starts ≤ 128
  pub d_long : length d ≤ 65
  pub size : m ≤ 512
  pub near : (e : ℕ) → e < n → 64 + (get_or starts (from + e) 0 + m) ≤ 64 * length d

-- Of two bits the first is taken: the other is not smaller, and it is greater if it comes first.
abbrev pub Ahead : (ℕ → ℕ → Bool) → ℕ → ℕ → Type 0
Ahead less a b = (less b a ≡ false) × (b < a → less a b ≡ true)

-- A block of m bits, the first of which is bit `first`, with n starts. Of those of its bits that are seen: each has at least `met` of its
-- checks met; and if `bit` is the number of a sample, it is one of the block and ahead of all that have no more of them met.
pub record Known (samples : List ℕ) (d : Word) (starts : List ℕ) (from n m first : ℕ) (seen : ℕ → Bool) (met bit : ℕ) : Type 0 where
  pub under : (k : ℕ) → k < m → seen k ≡ true → hits d starts from n k + met ≤ n
  pub inside : bit < length samples → (first ≤ bit) × (bit < first + m)
  pub ahead : bit < length samples → (k : ℕ) → k < m → seen k ≡ true → n ≤ hits d starts from n k + met
      → Ahead (smaller samples) bit (first + k)

-- That of every block; `seen` says of each which bits are.
pub record Knows (samples : List ℕ) (sh : Shape) (d : Word) (starts counts : List ℕ) (seen : ℕ → ℕ → Bool) (met kept : List ℕ) : Type
    0 where
  pub block : (b : ℕ) → b < sh.blocks
      → Known samples d starts (8 * b) (get_or counts b 0) sh.size (b * sh.size) (seen b) (get_or met b 0) (get_or kept b 0)

-- Every bit is seen.
abbrev pub whole : ℕ → ℕ → Bool
whole b k = true

-- Bit k of a block is covered by the check that stands at p, and M places on once more, by one of the first n starts from start `from` on.
unfoldable pub covered : List ℕ → ℕ → ℕ → ℕ → ℕ → ℕ → Bool
covered starts from M p zero k = false
covered starts from M p (suc n) k =
    covered starts from M p n k || (eqb (get_or starts (from + n) 0 + k) p || eqb (get_or starts (from + n) 0 + k) (p + M))

-- The first place of the check that stands at p in a doubled row of M bits.
abbrev pub nearer : ℕ → ℕ → ℕ
nearer M p = when ltb (p % 1024) M then p else p - M

-- Bit i of block j is covered by a broken one of the first n checks of bit k of the block whose starts begin with start `from`.
unfoldable pub raised : Shape → Word → List ℕ → List ℕ → ℕ → ℕ → ℕ → ℕ → ℕ → Bool
raised sh d starts counts from k zero j i = false
raised sh d starts counts from k (suc n) j i =
    let p = get_or starts (from + n) 0 + k in
    raised sh d starts counts from k n j i || (d p && covered starts (8 * j) sh.size (nearer sh.size p) (get_or counts j 0) i)

-- There are as many samples as bits in these places; and what is said above, of these places.
abbrev pub Sampled : List ℕ → Places → Type 0
Sampled samples p = length samples ≡ p.shape.blocks * p.shape.size

abbrev pub KnowsIn : List ℕ → Places → Word → (ℕ → ℕ → Bool) → List ℕ → List ℕ → Type 0
KnowsIn samples p d seen met kept = Knows samples p.shape d p.starts p.counts seen met kept

abbrev pub covers : Places → ℕ → ℕ → ℕ → Bool
covers p at j i = covered p.starts (8 * j) p.shape.size at (get_or p.counts j 0) i

abbrev pub raises : Places → Word → ℕ → ℕ → ℕ → ℕ → ℕ → Bool
raises p d b k n j i = raised p.shape d p.starts p.counts (8 * b) k n j i
