-- The bit where a signed number is greatest, and the lowest number of several: what `greatest` gives, and how scores find it.
-- Assumes nothing.
use mathlib.Core.Path.{◌≡◌, sym, ap, ap₂, ◌∙◌, subst}
use mathlib.Core.Bool.{Bool, cond}
use Prim.Native.Nat.{ℕ, suc, ◌+◌, ◌-◌, ◌≤◌, ◌<◌}
use native.Mathlib.Nat.{le_refl, lt_of_not-le}
use native.Mathlib.Decide.{dec_lt}
use native.Mathlib.Omega.{arith}
use borrow.Author.Tests.{lt-ltb, le-ltb}
use lib.Dec.{T, ltb, ltb→lt, lt→ltb}
use lib.IntN.{ℤ, pos, negsuc, sub_ℕ}
use lib.Signed.{lt_z, lt_z_yes, clash_ℤ}
use Rattle.rules.specs.Flipping.{greatest}
use Rattle.bits.proofs.Orders.{ltb_iff}
use Rattle.rules.proofs.Greatest.{Greatest, greatest_has}
use Rattle.planes.specs.Ranges.{Top}

-- ---- scores: signed numbers, all raised by the same number

-- A difference, by which is less.
less_is : (a k : ℕ) → a < k → sub_ℕ a k ≡ negsuc (k - suc a)
less_is a k l = ap (λ (t : Bool). cond t (negsuc (k - suc a)) (pos (a - k))) (lt-ltb a k l)

more-is : (a k : ℕ) → k ≤ a → sub_ℕ a k ≡ pos (a - k)
more-is a k l = ap (λ (t : Bool). cond t (negsuc (k - suc a)) (pos (a - k))) (le-ltb a k l)

pub raised_lt : (a b k : ℕ) → lt_z (sub_ℕ a k) (sub_ℕ b k) ≡ ltb a b
raised_lt a b k = go (dec_lt a k) (dec_lt b k)
  where
    go : Dec (a < k) → Dec (b < k) → lt_z (sub_ℕ a k) (sub_ℕ b k) ≡ ltb a b
    go (yes p) (yes q) = ap₂ lt_z (less_is a k p) (less_is b k q)
        ∙ ltb_iff (k - suc b) (k - suc a) a b (λ l. omega arith) (λ l. omega arith)
    go (yes p) (no q) =
        let u : k ≤ b = omega (arith, lt_of_not-le q) in
        ap₂ lt_z (less_is a k p) (more-is b k u) ∙ sym (lt-ltb a b (omega arith))
    go (no p) (yes q) =
        let u : k ≤ a = omega (arith, lt_of_not-le p) in
        ap₂ lt_z (more-is a k u) (less_is b k q) ∙ sym (le-ltb a b (omega arith))
    go (no p) (no q) =
        let u : k ≤ a = omega (arith, lt_of_not-le p) in
        let w : k ≤ b = omega (arith, lt_of_not-le q) in
        ap₂ lt_z (more-is a k u) (more-is b k w) ∙ ltb_iff (a - k) (b - k) a b (λ l. omega arith) (λ l. omega arith)

-- A raised number is above 0 where its score is above what 0 is raised to.
pub raised_above : (a k : ℕ) → lt_z (pos 0) (sub_ℕ a k) ≡ ltb k a
raised_above a k =
    let z : k - k ≡ 0 = omega arith in
    ap (λ (n : ℤ). lt_z n (sub_ℕ a k)) (sym (more-is k k (le_refl k) ∙ ap pos z)) ∙ raised_lt k a k

module _ (f : ℕ → ℤ) (g : ℕ → ℕ) (K from n bit score : ℕ) (raised : (i : ℕ) → i < from + n → f i ≡ sub_ℕ (g i) K)
    (t : Top g from (from + n) bit score) where
  same_order : (i j : ℕ) → i < from + n → j < from + n → lt_z (f i) (f j) ≡ ltb (g i) (g j)
  same_order i j hi hj = ap₂ lt_z (raised i hi) (raised j hj) ∙ raised_lt (g i) (g j) K

  -- The bit of greatest score is the bit that is chosen.
  pub top_greatest : greatest from n f ≡ bit
  top_greatest = go (dec_lt (greatest from n f) bit) (dec_lt bit (greatest from n f))
    where
      b : Greatest from n f (greatest from n f)
      b = greatest_has from n f (omega (arith, t.above, t.under))

      go : Dec (greatest from n f < bit) → Dec (bit < greatest from n f) → greatest from n f ≡ bit
      go (yes l) q =
          let less : g (greatest from n f) < g bit = omega (arith, t.first (greatest from n f) b.from l, t.is) in
          clash_ℤ (lt_z_yes (subst T (sym (same_order (greatest from n f) bit b.under t.under))
          (lt→ltb (g (greatest from n f)) (g bit) less))) (b.most bit t.above t.under)
      go (no p) (yes l) =
          let less : g bit < g (greatest from n f) = ltb→lt (g bit) (g (greatest from n f))
          (subst T (same_order bit (greatest from n f) t.under b.under) (b.lowest bit t.above l).lt) in
          absurd (omega (arith, t.is, t.most (greatest from n f) b.from b.under))
      go (no p) (no q) = omega (arith, lt_of_not-le p, lt_of_not-le q)

  score_is : f bit ≡ sub_ℕ score K
  score_is = raised bit t.under ∙ ap (λ (s : ℕ). sub_ℕ s K) t.is

  pub top_excess : f (greatest from n f) ≡ sub_ℕ score K
  top_excess = ap f top_greatest ∙ score_is

  pub top_above : lt_z (pos 0) (f bit) ≡ ltb K score
  top_above = ap (lt_z (pos 0)) score_is ∙ raised_above score K
