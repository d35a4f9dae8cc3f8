-- What a search for the smallest bit has come to.
use Rattle.std.specs.Prelude.{◌≡◌, ◌&&◌, List, ℕ, ◌+◌, ◌-◌, ◌*◌, ◌≤◌, ◌<◌, length, get_or}
use Rattle.bits.specs.Bits.{Word}
use Rattle.layout.specs.declared.Shape.{Shape}
use Rattle.flipping.specs.declared.bounds.Places.{Places}
use Rattle.flipping.specs.bounds.Reading.{hits}
use Rattle.flipping.specs.bounds.Keeping.{bound, Ready, Scored}
use Rattle.magnitudes.specs.Patterns.{smaller}
use Rattle.samples.specs.raising.Knowing.{Ahead, Knows, whole}

-- Of the bits before bit `end`, those that have at least the score `top` have just that, and r is one of them and ahead of all; or there is
-- none, and r is not the number of a sample.
pub record Leads (samples : List ℕ) (g : ℕ → ℕ) (top end r : ℕ) : Type 0 where
  pub is : r < length samples → g r ≡ top
  pub ahead : r < length samples → (i : ℕ) → i < end → top ≤ g i → Ahead (smaller samples) r i
  pub none : length samples ≤ r → (i : ℕ) → i < end → g i < top

-- Of the first `at` bits of a block, r is ahead of all that have at most `met` of their n checks met, and is one of them; or there is none,
-- and r is not the number of a sample.
pub record Lightest (samples : List ℕ) (d : Word) (starts : List ℕ) (from n met m first at r : ℕ) : Type 0 where
  pub inside : r < length samples → (first ≤ r) × (r < first + m) × (r < first + at)
  pub light : r < length samples → n ≤ hits d starts from n (r - first) + met
  pub ahead : r < length samples → (k : ℕ) → k < m → k < at → n ≤ hits d starts from n k + met → Ahead (smaller samples) r (first + k)
  pub none : length samples ≤ r → (k : ℕ) → k < m → k < at → hits d starts from n k + met < n

-- Behind each of four places, the bit that stands i places on is set.
abbrev pub all_set : Word → ℕ → ℕ → ℕ → ℕ → Word
all_set d a b c e i = ((d (a + i) && d (b + i)) && d (c + i)) && d (e + i)

-- The search for bits of score `top` has come past block b, with r in place of `best`; only what is kept of that block has changed.
pub record Settled (samples : List ℕ) (sh : Shape) (d : Word) (starts counts : List ℕ) (b top best r : ℕ)
    (met met' kept kept' : List ℕ) : Type 0 where
  pub ready : Ready sh starts counts met'
  pub others : (j : ℕ) → (j ≡ b → ⊥) → get_or met' j 0 ≡ get_or met j 0
  pub lower : bound counts met' b ≤ top
  pub none : length samples ≤ r → (length samples ≤ best) × (bound counts met' b < top)
  pub knows : Knows samples sh d starts counts whole met kept → Knows samples sh d starts counts whole met' kept'
  pub leads : Knows samples sh d starts counts whole met kept → (g : ℕ → ℕ) → Scored g sh d starts counts
      → Leads samples g top (b * sh.size) best → Leads samples g top (b * sh.size + sh.size) r

-- That in these places; the bit r leads all bits of the score `top`; and no bit has a greater score.
abbrev pub SettledIn : List ℕ → Places → Word → ℕ → ℕ → ℕ → ℕ → List ℕ → List ℕ → List ℕ → List ℕ → Type 0
SettledIn samples p d b top best r met met' kept kept' = Settled samples p.shape d p.starts p.counts b top best r met met' kept kept'

abbrev pub LeadsIn : List ℕ → Places → Word → ℕ → ℕ → Type 0
LeadsIn samples p d top r = (g : ℕ → ℕ) → Scored g p.shape d p.starts p.counts → Leads samples g top (p.shape.blocks * p.shape.size) r

abbrev pub MostIn : Places → Word → ℕ → Type 0
MostIn p d top = (g : ℕ → ℕ) → Scored g p.shape d p.starts p.counts → (i : ℕ) → i < p.shape.blocks * p.shape.size → g i ≤ top
