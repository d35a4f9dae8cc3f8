-- The smallest of the bits that are set in a mask.
use mathlib.Core.Path.{◌≡◌, refl, sym, ap, ◌∙◌, subst}
use mathlib.Core.Bool.{Bool, true, false, true≢false, ◌&&◌}
use mathlib.Core.List.{List}
use mathlib.Core.Logic.{◌⊎◌, inl, inr}
use Prim.Native.Nat.{ℕ, ◌+◌, ◌-◌, ◌≤◌, ◌<◌}
use native.Mathlib.Nat.{lt_of_not-le}
use native.Mathlib.Decide.{dec_lt}
use native.Mathlib.Omega.{arith}
use borrow.Author.Tests.{lt-ltb}
use lib.ListN.{length}
use Rattle.bits.specs.Bits.{digit}
use Rattle.bits.proofs.Octets.{digit_zero}
use Rattle.vectors.specs.Vectors.{Holds, up_to, from}
use Rattle.magnitudes.specs.Patterns.{smaller}
use Rattle.magnitudes.specs.Sizes.{smallest}
use Rattle.magnitudes.proofs.Patterns.{ordered}
use Rattle.magnitudes.proofs.Smallest.{Is, smallest_one}
use Rattle.samples.specs.raising.Knowing.{Ahead}
use Rattle.samples.proofs.raising.Orders.{Over, smallest_over, ahead_self}

pub no_digit : (v i : ℕ) → v ≡ 0 → digit 64 v i ≡ false
no_digit v i e = ap (λ z. digit 64 z i) e ∙ digit_zero 64 i

module _ (samples : List ℕ) (mask first : ℕ) where
  abbrev pub marks : ℕ → Bool
  marks j = digit 64 mask (j - first)

  at : (i : ℕ) → marks (first + i) ≡ digit 64 mask i
  at i = let e : first + i - first ≡ i = omega arith in ap (digit 64 mask) e

  pub marks_hold : Holds mask (up_to 64 (from first marks))
  marks_hold i l = sym (at i) ∙ ap (λ b. b && marks (first + i)) (sym (lt-ltb i 64 l))

  -- none is set
  pub among_none : mask ≡ 0 → (bit : ℕ)
      → (length samples ≤ bit → (length samples ≤ bit) × ((i : ℕ) → i < 64 → digit 64 mask i ≡ false))
      × (bit < length samples → ((bit ≡ bit) ⊎ ((first ≤ bit) × (bit < first + 64) × (digit 64 mask (bit - first) ≡ true)))
      × (bit < length samples → Ahead (smaller samples) bit bit)
      × ((i : ℕ) → i < 64 → digit 64 mask i ≡ true → Ahead (smaller samples) bit (first + i)))
  among_none e bit = (
    λ u. (u, λ i l. no_digit mask i e),
    λ u. (
      inl refl,
      λ v. ahead_self (smaller samples) (length samples) (ordered samples (length samples)) bit u,
      λ i l q. absurd (true≢false (sym q ∙ no_digit mask i e)),
    ),
  )

  module _ (inside : (i : ℕ) → i < 64 → digit 64 mask i ≡ true → first + i < length samples) (bit : ℕ) (here : bit < length samples)
      (before : (i : ℕ) → i < 64 → digit 64 mask i ≡ true → bit ≤ first + i) (r : ℕ)
      (is : r ≡ smallest (smaller samples) marks bit first 64) where
    from_first : (P : ℕ → Type 0) → ((i : ℕ) → i < 64 → digit 64 mask i ≡ true → P (first + i)) → (k : ℕ) → first ≤ k → k < first + 64
        → marks k ≡ true → P k
    from_first P h k f l m = let e : first + (k - first) ≡ k = omega arith in subst P e (h (k - first) (omega arith) m)

    over : Over (smaller samples) (length samples) (ordered samples (length samples)) marks bit first 64 (smallest (smaller samples) marks
        bit first 64)
    over = smallest_over (smaller samples) (length samples) (ordered samples (length samples)) marks bit first 64 here
        (from_first (λ k. bit ≤ k) before) (from_first (λ k. k < length samples) inside)

    pub among_bit : Ahead (smaller samples) r bit
    among_bit = subst (λ k. Ahead (smaller samples) k bit) (sym is) over.bit_too

    pub among_all : (i : ℕ) → i < 64 → digit 64 mask i ≡ true → Ahead (smaller samples) r (first + i)
    among_all i l e = subst (λ k. Ahead (smaller samples) k (first + i)) (sym is)
        (over.all (first + i) (omega arith) (omega arith) (at i ∙ e))

    pub among_one : (r ≡ bit) ⊎ ((first ≤ r) × (r < first + 64) × (digit 64 mask (r - first) ≡ true))
    among_one = go (smallest_one (smaller samples) marks bit first 64)
      where
        go : Is (smaller samples) marks bit first (smallest (smaller samples) marks bit first 64) 64
            → (r ≡ bit) ⊎ ((first ≤ r) × (r < first + 64) × (digit 64 mask (r - first) ≡ true))
        go (inl e) = inl (is ∙ e)
        go (inr p) = inr (omega (arith, is, p.1), omega (arith, is, p.2), ap marks is ∙ p.0)

-- the first that is set comes before the others
pub first_before : (mask first f : ℕ) → ((i : ℕ) → i < f → digit 64 mask i ≡ false) → (i : ℕ) → i < 64 → digit 64 mask i ≡ true
    → first + f ≤ first + i
first_before mask first f clear i l e = go (le_or i f)
  where
    le_or : (a b : ℕ) → (a < b) ⊎ (b ≤ a)
    le_or a b = by (dec_lt a b)
      where
        by : Dec (a < b) → (a < b) ⊎ (b ≤ a)
        by (yes u) = inl u
        by (no u) = inr (omega (arith, lt_of_not-le u))

    go : (i < f) ⊎ (f ≤ i) → first + f ≤ first + i
    go (inl u) = absurd (true≢false (sym e ∙ clear i u))
    go (inr u) = omega arith

-- where it is the bit or one that is set, and the bit is set itself
pub one_set : (mask first f r : ℕ) → f < 64 → digit 64 mask f ≡ true
    → (r ≡ first + f) ⊎ ((first ≤ r) × (r < first + 64) × (digit 64 mask (r - first) ≡ true))
    → (first ≤ r) × (r < first + 64) × (digit 64 mask (r - first) ≡ true)
one_set mask first f r l e (inl q) =
    let p : r - first ≡ f = omega (arith, q) in
    (omega (arith, q), omega (arith, q), ap (digit 64 mask) p ∙ e)
one_set mask first f r l e (inr p) = p
