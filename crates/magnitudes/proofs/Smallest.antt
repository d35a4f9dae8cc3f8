-- What `smallest` gives.
use mathlib.Core.Path.{◌≡◌, refl, sym, ap, ap₂, ◌∙◌}
use mathlib.Core.Bool.{Bool, true, false, true≢false, ◌&&◌, and-false}
use mathlib.Core.Logic.{◌⊎◌, inl, inr}
use Prim.Native.Nat.{ℕ, zero, suc, ◌+◌, ◌≤◌, ◌<◌}
use native.Mathlib.Nat.{add-zero, add-suc, add_assoc}
use native.Mathlib.Decide.{ℕ_discrete}
use native.Mathlib.Omega.{arith}
use Rattle.bits.specs.Bits.{when◌then◌else◌}
use Rattle.magnitudes.specs.Sizes.{smaller_of, smallest}

-- of two bits of equal size, the lower number
pub lowest_of_equals : smallest (λ n k. false) (λ n. true) 0 0 2 ≡ 0
unfolding smallest
lowest_of_equals = refl

-- ---- for any order

module _ (less : ℕ → ℕ → Bool) (marked : ℕ → Bool) (bit first : ℕ) where
  -- the bit, or marked and one of the n
  abbrev pub Is : ℕ → ℕ → Type 0
  Is k n = (k ≡ bit) ⊎ ((marked k ≡ true) × (first ≤ k) × (k < first + n))

  pub smallest_one : (n : ℕ) → Is (smallest less marked bit first n) n
  unfolding smallest
  smallest_one zero = inl refl
  smallest_one (suc n) = go (marked (first + n)) (less (first + n) (smallest less marked bit first n)) refl (smallest_one n)
    where
      more : (k : ℕ) → Is k n → Is k (suc n)
      more k (inl e) = inl e
      more k (inr p) = inr (p.0, p.1, omega (arith, p.2))

      go : (a b : Bool) → marked (first + n) ≡ a → Is (smallest less marked bit first n) n
          → Is (when a && b then first + n else smallest less marked bit first n) (suc n)
      go true true e i = inr (e, omega arith, omega arith)
      go true false e i = more _ i
      go false b e i = more _ i

  -- where none that is marked is smaller it is the bit
  pub smallest_stays : (n : ℕ) → ((k : ℕ) → first ≤ k → k < first + n → marked k ≡ true → less k bit ≡ false)
      → smallest less marked bit first n ≡ bit
  unfolding smallest
  smallest_stays zero h = refl
  smallest_stays (suc n) h =
      ap (λ k. smaller_of less marked k (first + n)) (smallest_stays n (λ k f l. h k f (omega arith))) ∙ go (marked (first + n)) refl
    where
      go : (a : Bool) → marked (first + n) ≡ a → smaller_of less marked bit (first + n) ≡ bit
      go true e = ap (λ b. when marked (first + n) && b then first + n else bit) (h (first + n) (omega arith) (omega arith) e)
          ∙ ap (λ b. when b then first + n else bit) (and-false (marked (first + n)))
      go false e = ap (λ b. when b && less (first + n) bit then first + n else bit) e

  -- bits in two parts
  pub smallest_parts : (a b : ℕ) → smallest less marked bit first (a + b) ≡ smallest less marked (smallest less marked bit first a)
      (first + a) b
  unfolding smallest
  smallest_parts a zero = ap (smallest less marked bit first) (add-zero a)
  smallest_parts a (suc b) =
      ap (smallest less marked bit first) (add-suc a b)
      ∙ ap₂ (smaller_of less marked) (smallest_parts a b) (sym (add_assoc first a b))

-- it depends on the marks of the n bits alone
pub smallest_same : (less : ℕ → ℕ → Bool) (marked marked' : ℕ → Bool) (bit first n : ℕ)
    → ((k : ℕ) → first ≤ k → k < first + n → marked k ≡ marked' k)
    → smallest less marked bit first n ≡ smallest less marked' bit first n
unfolding smallest
smallest_same less marked marked' bit first zero h = refl
smallest_same less marked marked' bit first (suc n) h =
    ap₂ (λ k a. when a && less (first + n) k then first + n else k)
    (smallest_same less marked marked' bit first n (λ k f l. h k f (omega arith))) (h (first + n) (omega arith) (omega arith))

-- and on how the bits below `top` are ordered, if it has no others to choose from
pub smallest_alike : (less less' : ℕ → ℕ → Bool) (top : ℕ) → ((a b : ℕ) → a < top → b < top → less a b ≡ less' a b)
    → (marked : ℕ → Bool) (bit first n : ℕ) → bit < top → first + n ≤ top
    → smallest less marked bit first n ≡ smallest less' marked bit first n
unfolding smallest
smallest_alike less less' top alike marked bit first zero under room = refl
smallest_alike less less' top alike marked bit first (suc n) under room =
    ap (λ a. when marked (first + n) && a then first + n else smallest less marked bit first n)
    (alike (first + n) (smallest less marked bit first n) (omega arith) (inside (smallest_one less marked bit first n)))
    ∙ ap (λ k. smaller_of less' marked k (first + n)) (smallest_alike less less' top alike marked bit first n under (omega arith))
  where
    inside : Is less marked bit first (smallest less marked bit first n) n → smallest less marked bit first n < top
    inside (inl is) = omega (arith, is)
    inside (inr p) = omega (arith, p.2)

-- ---- where the order is one

-- of two bits below `top` not both are smaller than the other; and what is not above and not above again is not above
pub record Ordered (less : ℕ → ℕ → Bool) (top : ℕ) : Type 0 where
  pub apart : (a b : ℕ) → a < top → b < top → less a b ≡ true → less b a ≡ false
  pub onward : (a b c : ℕ) → a < top → b < top → c < top → less b a ≡ false → less c b ≡ false → less c a ≡ false

-- Of the marked ones among the n bits from `first` on none is smaller than the bit, and those before it are greater.
pub record Smallest (less : ℕ → ℕ → Bool) (marked : ℕ → Bool) (first n bit : ℕ) : Type 0 where
  pub least : (k : ℕ) → first ≤ k → k < first + n → marked k ≡ true → less k bit ≡ false
  pub lowest : (k : ℕ) → first ≤ k → k < first + n → marked k ≡ true → k < bit → less bit k ≡ true

module _ (less : ℕ → ℕ → Bool) (marked : ℕ → Bool) (bit first top : ℕ) (ordered : Ordered less top) (under : bit < top)
    (none : (k : ℕ) → first ≤ k → marked k ≡ true → bit ≤ k) where
  pub smallest_has : (n : ℕ) → first + n ≤ top → Smallest less marked first n (smallest less marked bit first n)
  unfolding smallest
  smallest_has zero h = record { least = λ k f l. absurd (omega arith); lowest = λ k f l. absurd (omega arith) }
  smallest_has (suc n) h = go (marked now) (less now best) refl refl (smallest_has n (omega arith)) (smallest_one less marked bit first n)
    where
      best : ℕ
      best = smallest less marked bit first n

      now : ℕ
      now = first + n

      inside : Is less marked bit first best n → best < top
      inside (inl is) = omega (arith, is)
      inside (inr p) = omega (arith, p.2)

      self : (b : Bool) → less now now ≡ b → less now now ≡ false
      self true f = ordered.apart now now (omega arith) (omega arith) f
      self false f = f

      -- what was not smaller than the last one is greater than one that is smaller
      over : Smallest less marked first n best → Is less marked bit first best n → less now best ≡ true → (k : ℕ) → first ≤ k → k < now
          → marked k ≡ true → (b : Bool) → less now k ≡ b
          → less now k ≡ true
      over s is f k from l m true g = g
      over s is f k from l m false g =
          absurd (true≢false (sym f ∙ ordered.onward best k now (inside is) (omega arith) (omega arith) (s.least k from l m) g))

      not_past : Is less marked bit first best n → marked now ≡ true → now < best → ⊥
      not_past (inl is) e l = omega (arith, is, none now (omega arith) e)
      not_past (inr p) e l = omega (arith, p.2)

      stays : Smallest less marked first n best → (marked now ≡ true → less now best ≡ false) → (marked now ≡ true → now < best → ⊥)
          → Smallest less marked first (suc n) best
      stays s here past = record {
        least = λ k from l m. by k from l m (ℕ_discrete k now);
        lowest = λ k from l m u. after k from l m u (ℕ_discrete k now);
      }
        where
          by : (k : ℕ) → first ≤ k → k < first + suc n → marked k ≡ true → Dec (k ≡ now) → less k best ≡ false
          by k from l m (yes e) = ap (λ j. less j best) e ∙ here (ap marked (sym e) ∙ m)
          by k from l m (no d) = s.least k from (omega arith) m

          after : (k : ℕ) → first ≤ k → k < first + suc n → marked k ≡ true → k < best → Dec (k ≡ now) → less best k ≡ true
          after k from l m u (yes e) = absurd (past (ap marked (sym e) ∙ m) (omega arith))
          after k from l m u (no d) = s.lowest k from (omega arith) m u

      moves : Smallest less marked first n best → Is less marked bit first best n → less now best ≡ true
          → Smallest less marked first (suc n) now
      moves s is f = record {
        least = λ k from l m. by k from l m (ℕ_discrete k now);
        lowest = λ k from l m u. over s is f k from u m (less now k) refl;
      }
        where
          by : (k : ℕ) → first ≤ k → k < first + suc n → marked k ≡ true → Dec (k ≡ now) → less k now ≡ false
          by k from l m (yes e) = ap (λ j. less j now) e ∙ self (less now now) refl
          by k from l m (no d) = ordered.apart now k (omega arith) (omega arith) (over s is f k from (omega arith) m (less now k) refl)

      go : (a b : Bool) → marked now ≡ a → less now best ≡ b → Smallest less marked first n best → Is less marked bit first best n
          → Smallest less marked first (suc n) (when a && b then now else best)
      go true true e f s is = moves s is f
      go true false e f s is = stays s (λ m. f) (not_past is)
      go false b e f s is = stays s (λ m. absurd (true≢false (sym m ∙ e))) (λ m. absurd (true≢false (sym m ∙ e)))
