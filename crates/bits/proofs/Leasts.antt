-- The lowest number of which something holds. Assumes nothing.
use mathlib.Core.Path.{◌≡◌, refl, ap, ◌∙◌}
use mathlib.Core.Bool.{Bool, true, false}
use Prim.Native.Nat.{ℕ, zero, suc, ◌≤◌, ◌<◌}
use native.Mathlib.Omega.{arith}
use Rattle.bits.specs.Bits.{count, least, when◌then◌else◌}
use Rattle.bits.proofs.Counting.{count_none, none_counted}

abbrev next : (ℕ → Bool) → ℕ → Bool
next f k = f (suc k)

-- counted from 0
from_zero : least 2 (λ k. true) ≡ 0
unfolding least
from_zero = refl

-- one number more, in front
least_here : (n : ℕ) (f : ℕ → Bool) → f 0 ≡ true → least (suc n) f ≡ 0
unfolding least
least_here n f e = ap (λ b. when b then 0 else suc (least n (next f))) e

least_later : (n : ℕ) (f : ℕ → Bool) → f 0 ≡ false → least (suc n) f ≡ suc (least n (next f))
unfolding least
least_later n f e = ap (λ b. when b then 0 else suc (least n (next f))) e

-- where it holds of m and of no number before it, it is m
pub least_found : (n : ℕ) (f : ℕ → Bool) (m : ℕ) → m < n → f m ≡ true → ((k : ℕ) → k < m → f k ≡ false) → least n f ≡ m
least_found zero f m l e none = absurd (omega arith)
least_found (suc n) f zero l e none = least_here n f e
least_found (suc n) f (suc m) l e none =
    least_later n f (none 0 (omega arith)) ∙ ap suc (least_found n (next f) m (omega arith) e (λ k h. none (suc k) (omega arith)))

-- where it holds of none, it is n
pub least_none : (n : ℕ) (f : ℕ → Bool) → ((k : ℕ) → k < n → f k ≡ false) → least n f ≡ n
unfolding least
least_none zero f none = refl
least_none (suc n) f none = least_later n f (none 0 (omega arith)) ∙ ap suc (least_none n (next f) (λ k h. none (suc k) (omega arith)))

pub least_le : (n : ℕ) (f : ℕ → Bool) → least n f ≤ n
unfolding least
least_le zero f = omega arith
least_le (suc n) f = go (f 0) refl (least_le n (next f))
  where
    go : (b : Bool) → f 0 ≡ b → least n (next f) ≤ n → least (suc n) f ≤ suc n
    go true e more = omega (arith, least_here n f e)
    go false e more = omega (arith, least_later n f e, more)

-- it holds of no number below the lowest
pub least_below : (n : ℕ) (f : ℕ → Bool) (k : ℕ) → k < least n f → f k ≡ false
unfolding least
least_below zero f k l = absurd (omega arith)
least_below (suc n) f k l = go (f 0) refl k l (least_below n (next f))
  where
    go : (b : Bool) → f 0 ≡ b → (k : ℕ) → k < least (suc n) f → ((k : ℕ) → k < least n (next f) → f (suc k) ≡ false) → f k ≡ false
    go true e k l more = absurd (omega (arith, least_here n f e))
    go false e zero l more = e
    go false e (suc k) l more = more k (omega (arith, least_later n f e))

-- and of the lowest, if it is below n
pub least_holds : (n : ℕ) (f : ℕ → Bool) → least n f < n → f (least n f) ≡ true
unfolding least
least_holds zero f l = absurd (omega arith)
least_holds (suc n) f l = go (f 0) refl (least_holds n (next f))
  where
    go : (b : Bool) → f 0 ≡ b → (least n (next f) < n → f (suc (least n (next f))) ≡ true) → f (least (suc n) f) ≡ true
    go true e more = ap f (least_here n f e) ∙ e
    go false e more = ap f (least_later n f e) ∙ more (omega (arith, least_later n f e))

-- it is n just where nothing is counted
pub least_counted : (n : ℕ) (f : ℕ → Bool) → (least n f ≡ n → count n f ≡ 0) × (count n f ≡ 0 → least n f ≡ n)
least_counted n f = (
  (λ e. count_none n f (λ k h. least_below n f k (omega (arith, e)))),
  (λ e. least_none n f (λ k h. none_counted n f e k h)),
)
