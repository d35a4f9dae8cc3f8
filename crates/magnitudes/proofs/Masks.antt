-- The bits of a mask, one after the other.
use mathlib.Core.Path.{◌≡◌, sym, ap, ap₂, ◌∙◌}
use mathlib.Core.Bool.{Bool, true, false, true≢false, ◌&&◌}
use mathlib.Core.Logic.{⊎_elim}
use Prim.Native.Nat.{ℕ, suc, ◌+◌, ◌-◌, ◌*◌, ◌%◌, ◌^◌, ◌≤◌, ◌<◌}
use native.Mathlib.Nat.{pos_of_ne-zero, one-mul, mod-eq_of_lt}
use native.Mathlib.Decide.{ℕ_discrete}
use native.Mathlib.Omega.{arith}
use lib.Count.{count_leading_zeros, leading_of_zero}
use lib.Dec.{eqb}
use lib.Pow.{pow-lt}
use borrow.Author.Tests.{lt-ltb, le-ltb, eq-eqb, ne_eqb}
use Rattle.bits.specs.Bits.{digit, ◌⊕◌, when◌then◌else◌}
use Rattle.bits.proofs.Octets.{digit_zero}
use Rattle.bits.proofs.Orders.{le-or-lt}
use Rattle.bits.proofs.Sums.{⊕-false}
use Rattle.vectors.specs.Vectors.{Holds, up_to, from}
use Rattle.vectors.proofs.Places.{digit_power}
use Rattle.vectors.proofs.Firsts.{First, first_digit}
use Rattle.magnitudes.specs.Sizes.{smallest}
use Rattle.magnitudes.proofs.Smallest.{smallest_stays, smallest_parts, smallest_same}

-- bit n alone
pub one_bit : (n i : ℕ) → n < 64 → i < 64 → digit 64 ((1 * 2 ^ (63 - n)) % 2 ^ 64) i ≡ eqb i n
one_bit n i h l =
    let e : 63 - n ≡ 64 - suc n = omega arith in
    ap (λ z. digit 64 z i) (ap (λ z. z % 2 ^ 64) (one-mul (2 ^ (63 - n))) ∙ mod-eq_of_lt (pow-lt {i = 63 - n} {j = 64} (omega arith))
    ∙ ap (λ z. 2 ^ z) e) ∙ digit_power 64 n i h l

-- the bits that a mask marks, which begins with bit `first`
abbrev pub marks : ℕ → ℕ → ℕ → Bool
marks v first k = digit 64 v (k - first)

module _ (less : ℕ → ℕ → Bool) (first : ℕ) where
  -- all of a mask
  pub masked : (v bit : ℕ) (marked : ℕ → Bool) (n : ℕ) → n ≤ 64 → Holds v (up_to n (from first marked))
      → smallest less (marks v first) bit first 64 ≡ smallest less marked bit first n
  masked v bit marked n h holds =
      let e : n + (64 - n) ≡ 64 = omega arith in
      ap (smallest less (marks v first) bit first) (sym e)
      ∙ smallest_parts less (marks v first) bit first n (64 - n)
      ∙ smallest_stays less (marks v first) (smallest less (marks v first) bit first n) (first + n) (64 - n)
      (λ k f l m. absurd (true≢false (sym m ∙ past k f l)))
      ∙ smallest_same less (marks v first) marked bit first n inside
    where
      past : (k : ℕ) → first + n ≤ k → k < first + n + (64 - n) → marks v first k ≡ false
      past k f l = holds (k - first) (omega arith) ∙ ap (λ b. b && marked (first + (k - first))) (le-ltb (k - first) n (omega arith))

      inside : (k : ℕ) → first ≤ k → k < first + n → marks v first k ≡ marked k
      inside k f l =
          let e : first + (k - first) ≡ k = omega arith in
          holds (k - first) (omega arith) ∙ ap (λ b. b && marked (first + (k - first))) (lt-ltb (k - first) n (omega arith)) ∙ ap marked e

  -- nothing of an empty one
  pub masked_none : (v bit : ℕ) → v ≡ 0 → smallest less (marks v first) bit first 64 ≡ bit
  masked_none v bit e =
      smallest_stays less (marks v first) bit first 64
      (λ k f l m. absurd (true≢false (sym m ∙ ap (λ z. digit 64 z (k - first)) e ∙ digit_zero 64 (k - first))))

  -- the first of a mask, and then the others
  module _ (v v' i : ℕ) (inside : i < 64) (here : digit 64 v i ≡ true) (clear : (k : ℕ) → k < i → digit 64 v k ≡ false)
      (rest : (k : ℕ) → k < 64 → digit 64 v' k ≡ digit 64 v k ⊕ eqb k i) where
    gone : (k : ℕ) → k ≤ i → digit 64 v' k ≡ false
    gone k l = rest k (omega arith) ∙ ⊎_elim same before (le-or-lt i k)
      where
        same : i ≤ k → digit 64 v k ⊕ eqb k i ≡ false
        same g = let e : k ≡ i = omega arith in ap₂ (λ a b. a ⊕ b) (ap (digit 64 v) e ∙ here) (eq-eqb k i e)

        before : k < i → digit 64 v k ⊕ eqb k i ≡ false
        before g = ap₂ (λ a b. a ⊕ b) (clear k g) (ne_eqb k i (λ e. omega arith))

    kept : (k : ℕ) → i < k → k < 64 → digit 64 v' k ≡ digit 64 v k
    kept k g l = rest k l ∙ ap (λ b. digit 64 v k ⊕ b) (ne_eqb k i (λ e. omega arith)) ∙ ⊕-false (digit 64 v k)

    pub masked_more : (bit best : ℕ) → best ≡ (when less (first + i) bit then first + i else bit)
        → smallest less (marks v' first) best first 64 ≡ smallest less (marks v first) bit first 64
    unfolding smallest
    masked_more bit best e =
        let n : suc i + (63 - i) ≡ 64 = omega arith in
        ap (smallest less (marks v' first) best first) (sym n)
        ∙ smallest_parts less (marks v' first) best first (suc i) (63 - i)
        ∙ ap (λ k. smallest less (marks v' first) k (first + suc i) (63 - i))
        (smallest_stays less (marks v' first) best first (suc i) (λ k f l m. absurd (true≢false (sym m ∙ gone (k - first) (omega arith))))
        ∙ e ∙ sym front)
        ∙ smallest_same less (marks v' first) (marks v first) _ (first + suc i) (63 - i)
        (λ k f l. kept (k - first) (omega arith) (omega arith))
        ∙ sym (smallest_parts less (marks v first) bit first (suc i) (63 - i))
        ∙ ap (smallest less (marks v first) bit first) n
      where
        place : first + i - first ≡ i
        place = omega arith

        front : smallest less (marks v first) bit first (suc i) ≡ (when less (first + i) bit then first + i else bit)
        front =
            ap₂ (λ k a. when a && less (first + i) k then first + i else k)
            (smallest_stays less (marks v first) bit first i (λ k f l m. absurd (true≢false (sym m ∙ clear (k - first) (omega arith)))))
            (ap (digit 64 v) place ∙ here)

    -- what is left was set
    pub left_set : (k : ℕ) → k < 64 → digit 64 v' k ≡ true → digit 64 v k ≡ true
    left_set k l e = ⊎_elim (λ (g : k ≤ i). absurd (true≢false (sym e ∙ gone k g))) (λ (g : i < k). sym (kept k g l) ∙ e) (le-or-lt k i)

    -- what is left begins later
    pub left_less : v < 2 ^ 64 → v' < 2 ^ 64 → 64 - count_leading_zeros 64 v' < 64 - count_leading_zeros 64 v
    left_less small small' = omega (arith, inside, begins, later (ℕ_discrete v' 0))
      where
        begins : count_leading_zeros 64 v ≡ i
        begins = go (first_digit 64 v (pos_of_ne-zero some) small)
          where
            some : v ≡ 0 → ⊥
            some e = true≢false (sym here ∙ ap (λ z. digit 64 z i) e ∙ digit_zero 64 i)

            go : First 64 v (count_leading_zeros 64 v) → count_leading_zeros 64 v ≡ i
            go f = ⊎_elim (λ (g : i ≤ count_leading_zeros 64 v). ⊎_elim (λ (u : count_leading_zeros 64 v ≤ i). omega arith)
                (λ (u : i < count_leading_zeros 64 v). absurd (true≢false (sym here
                ∙ f.clear i u))) (le-or-lt (count_leading_zeros 64 v) i))
                (λ (g : count_leading_zeros 64 v < i). absurd (true≢false (sym f.here ∙ clear (count_leading_zeros 64 v) g)))
                (le-or-lt i (count_leading_zeros 64 v))

        later : Dec (v' ≡ 0) → i < count_leading_zeros 64 v'
        later (yes e) = omega (arith, inside, ap (count_leading_zeros 64) e ∙ leading_of_zero 64)
        later (no d) =
            let f = first_digit 64 v' (pos_of_ne-zero d) small' in
            ⊎_elim (λ (g : count_leading_zeros 64 v' ≤ i). absurd (true≢false (sym f.here ∙ gone (count_leading_zeros 64 v') g)))
            (λ (g : i < count_leading_zeros 64 v'). g) (le-or-lt (count_leading_zeros 64 v') i)

-- one of two numbers
pub smaller_in : (b : Bool) (n k top : ℕ) → n < top → k < top → (when b then n else k) < top
smaller_in true n k top p q = p
smaller_in false n k top p q = q
