-- What the doubled rows have at the starts of a block: the checks of its bits.
-- Assumes nothing.
use mathlib.Core.Path.{◌≡◌, refl, sym, ap, ap₂, ◌∙◌}
use mathlib.Core.Bool.{Bool, true, false}
use mathlib.Core.List.{List, [], ◌∷◌}
use Prim.Native.Nat.{ℕ, zero, suc, ◌+◌, ◌-◌, ◌*◌, ◌%◌, ◌≤◌, ◌<◌}
use native.Mathlib.Nat.{mod-lt}
use native.Mathlib.Omega.{arith}
use borrow.Author.Tests.{ltb-true}
use lib.Dec.{ltb}
use lib.ListN.{get_or}
use Rattle.bits.specs.Bits.{Word, count, tally, when◌then◌else◌, count_of}
use Rattle.rules.specs.Codes.{Code}
use Rattle.rules.specs.Checks.{check, broken_of, degree_of}
use Rattle.rules.proofs.Blocks.{count_all as entries_all}
use Rattle.layout.specs.declared.Shape.{Shape}
use Rattle.layout.specs.Lent.{kept, entries, place_of, shifts_of, Lent, laid, score}
use Rattle.layout.proofs.Lending.{total_same}
use Rattle.layout.proofs.Laying.{laid_at}
use Rattle.flipping.specs.bounds.Reading.{Twice, hits, Starts, Gathered}
use Rattle.flipping.specs.bounds.Keeping.{Scored}

-- ---- sums over rows and over entries

-- Every entry is below M.
kept_same : (m s : ℕ) (rest : List ℕ) (f g : Word) → ((k : ℕ) → k < m → f k ≡ g k) → count_of rest f ≡ count_of rest g
    → count_of (kept m s rest) f ≡ count_of (kept m s rest) g
kept_same m s rest f g e w = go (ltb s m) refl
  where
    go : (t : Bool) → ltb s m ≡ t → count_of (when t then s ∷ rest else rest) f ≡ count_of (when t then s ∷ rest else rest) g
    go true q = ap₂ ◌+◌ (ap tally (e s (ltb-true s m q))) w
    go false q = w

entries_same : (m : ℕ) (h : List ℕ) (at : ℕ) (f g : Word) → ((k : ℕ) → k < m → f k ≡ g k)
    → count_of (entries m h at) f ≡ count_of (entries m h at) g
entries_same m h at f g e = kept_same m (get_or h at m) _ f g e (kept_same m (get_or h (at + 1) m) [] f g e refl)

count_all : (n : ℕ) → count n (λ e. true) ≡ n
unfolding count
count_all zero = refl
count_all (suc n) = omega (arith, count_all n)

-- The starts of a block are as many as the checks of each of its bits.
pub degree_is : (h : List ℕ) (sh : Shape) (c : Code) → Lent c h sh → (b : ℕ) → b < sh.blocks → (starts : List ℕ) (n : ℕ)
    → Starts h sh b starts n → (k : ℕ) → k < sh.size
    → degree_of c (b * sh.size + k) ≡ n
degree_is h sh c lent b hb starts n are k hk =
    lent.degree_by b k hb hk ∙ sym (sym (count_all n) ∙ are.each (λ p. true)
    ∙ total_same sh.rows _ _ (λ r hr. entries_all (shifts_of sh h r b)))

-- ---- a check as it is held

module _ (c : Code) (h : List ℕ) (sh : Shape) (lent : Lent c h sh) (x d : Word) (fits : sh.size ≤ 64 * sh.words)
    (two : Twice sh sh.rows (laid c sh x) d) where
  -- k places after the start of an entry s of row r stands the check of bit k.
  turned : (r s k : ℕ) → r < sh.rows → s < sh.size → k < sh.size
      → d (1024 * r + (sh.size - s) + k) ≡ check c x (r * sh.size + (k + (sh.size - s)) % sh.size)
  turned r s k hr hs hk =
      let m = sh.size in
      let n = k + (m - s) in
      let e : 1024 * r + (m - s) + k ≡ 1024 * r + n = omega arith in
      ap d e ∙ two r n hr (omega arith) ∙ laid_at c sh x r (n % m) hr (mod-lt n (omega arith)) fits

  module _ (b : ℕ) (hb : b < sh.blocks) (starts : List ℕ) (n : ℕ) (are : Starts h sh b starts n) where
    hits_broken : (k : ℕ) → k < sh.size → hits d starts (8 * b) n k ≡ broken_of c x (b * sh.size + k)
    hits_broken k hk =
        are.each (λ p. d (p + k))
        ∙ total_same sh.rows _ _ (λ r hr. entries_same sh.size h (place_of sh r b) _ _ (λ s hs. turned r s k hr hs hk))
        ∙ sym (lent.broken_by x b k hb hk)

    hits_score : (k : ℕ) → k < sh.size → score c x (b * sh.size + k) ≡ 2 * hits d starts (8 * b) n k + (8 - n)
    unfolding score
    hits_score k hk = omega (
      arith,
      hits_broken k hk,
      degree_is h sh c lent b hb starts n are k hk,
      lent.degree_by b k hb hk,
      lent.few b hb,
    )

  pub scored : (starts counts : List ℕ) → Gathered h sh starts counts sh.blocks → Scored (score c x) sh d starts counts
  scored starts counts g b k hb hk = hits_score b hb starts (get_or counts b 0) (g b hb).1 k hk
