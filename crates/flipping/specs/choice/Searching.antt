-- What a search over the blocks gives.
use Rattle.std.specs.Prelude.{◌≡◌, List, ℕ, zero, suc, ◌+◌, ◌*◌, ◌/◌, ◌≤◌, ◌<◌, eqb, ltb, get_or}
use Rattle.bits.specs.Bits.{Word, when◌then◌else◌}
use Rattle.planes.specs.Ranges.{Top}
use Rattle.layout.specs.declared.Shape.{Shape}
use Rattle.flipping.specs.declared.bounds.Places.{Places}
use Rattle.flipping.specs.bounds.Keeping.{bound, Ready, Scored, Under}

-- The greatest bound of the first blocks.
unfoldable pub highest : List ℕ → List ℕ → ℕ → ℕ
highest counts met zero = 0
highest counts met (suc b) = when ltb (highest counts met b) (bound counts met b) then bound counts met b else highest counts met b

-- The met checks that are kept are still right, where bounds have gone down.
pub record Lowered (sh : Shape) (from : ℕ) (d : Word) (starts counts met met' : List ℕ) : Type 0 where
  pub ready : Ready sh starts counts met'
  pub under : (g : ℕ → ℕ) → Scored g sh d starts counts → Under g sh from counts met → Under g sh from counts met'

-- The first bit of block b that counts, where bits from bit `from` on do.
abbrev pub begin_in_of : ℕ → ℕ → ℕ
begin_in_of b from = when eqb b 0 then from else 0

-- Block b was looked at for its first bit of score `top`, and k was found, or none.
pub record Looked (sh : Shape) (from : ℕ) (d : Word) (starts counts : List ℕ) (b top k : ℕ) (met met' : List ℕ) : Type 0 where
  pub lowered : Lowered sh from d starts counts met met'
  pub others : (j : ℕ) → (j ≡ b → ⊥) → get_or met' j 0 ≡ get_or met j 0
  pub most : bound counts met' b ≤ top
  pub missed : sh.size ≤ k → bound counts met' b < top
  pub here : k < sh.size → bound counts met' b ≡ top
  pub sent : k < sh.size → from ≤ b * sh.size + k
  pub score : k < sh.size → (g : ℕ → ℕ) → Scored g sh d starts counts → Under g sh from counts met → g (b * sh.size + k) ≡ top
  pub first : k < sh.size → (g : ℕ → ℕ) → Scored g sh d starts counts → (j : ℕ) → j < k → from ≤ b * sh.size + j
      → g (b * sh.size + j) < top

-- Bit r is the first of the greatest score, which is the bound of its block.
pub record Found (sh : Shape) (from : ℕ) (d : Word) (starts counts met : List ℕ) (top r : ℕ) (met' : List ℕ) : Type 0 where
  pub inside : r < sh.blocks * sh.size
  pub here : bound counts met' (r / sh.size) ≡ top
  pub first : (g : ℕ → ℕ) → Scored g sh d starts counts → Under g sh from counts met → Top g from (sh.blocks * sh.size) r top

-- Bit r was found so; or there is none, and every bound is less.
pub record Sought (sh : Shape) (from : ℕ) (d : Word) (starts counts met : List ℕ) (top r : ℕ) (met' : List ℕ) : Type 0 where
  pub lowered : Lowered sh from d starts counts met met'
  pub found : r < sh.blocks * sh.size → Found sh from d starts counts met top r met'
  pub none : sh.blocks * sh.size ≤ r → (b : ℕ) → b < sh.blocks → bound counts met' b < top

-- The same in these places.
abbrev pub Lowers : Places → ℕ → Word → List ℕ → List ℕ → Type 0
Lowers p from d met met' = Lowered p.shape from d p.starts p.counts met met'

abbrev pub Looks : Places → ℕ → Word → ℕ → ℕ → ℕ → List ℕ → List ℕ → Type 0
Looks p from d b top k met met' = Looked p.shape from d p.starts p.counts b top k met met'

abbrev pub Finds : Places → ℕ → Word → List ℕ → ℕ → ℕ → List ℕ → Type 0
Finds p from d met top r met' = Found p.shape from d p.starts p.counts met top r met'

abbrev pub Seeks : Places → ℕ → Word → List ℕ → ℕ → ℕ → List ℕ → Type 0
Seeks p from d met top r met' = Sought p.shape from d p.starts p.counts met top r met'
