-- What is read by the lowest check that is broken. Assumes nothing.
use mathlib.Core.Path.{◌≡◌, refl, sym, ap, ◌∙◌}
use mathlib.Core.Bool.{Bool, true, false, true≢false}
use Prim.Native.Nat.{ℕ, zero, suc, ◌<◌}
use native.Mathlib.Decide.{dec_lt}
use native.Mathlib.Nat.{lt_of_not-le}
use native.Mathlib.Omega.{arith}
use Rattle.bits.specs.Bits.{count, least, when◌then◌else◌}
use Rattle.bits.proofs.Leasts.{least_le, least_below, least_holds, least_counted}
use Rattle.quick.specs.Quick.{Read, one_more, read}

-- counted from 1, in order, and no further than the first that is broken
one_read : read 3 (λ k. true) ≡ record { yes = false; evaluated = 1 }
unfolding read
one_read = refl

abbrev next : (ℕ → Bool) → ℕ → Bool
next f k = f (suc k)

read_here : (n : ℕ) (f : ℕ → Bool) → f 0 ≡ true → read (suc n) f ≡ record { yes = false; evaluated = 1 }
unfolding read
read_here n f e = ap (λ b. when b then record { yes = false; evaluated = 1 } else one_more (read n (next f))) e

read_later : (n : ℕ) (f : ℕ → Bool) → f 0 ≡ false → read (suc n) f ≡ one_more (read n (next f))
unfolding read
read_later n f e = ap (λ b. when b then record { yes = false; evaluated = 1 } else one_more (read n (next f))) e

-- where check m is broken and none before it is: no, after m + 1 checks
pub read_found : (n : ℕ) (f : ℕ → Bool) (m : ℕ) → m < n → f m ≡ true → ((k : ℕ) → k < m → f k ≡ false)
    → read n f ≡ record { yes = false; evaluated = suc m }
read_found zero f m l e none = absurd (omega arith)
read_found (suc n) f zero l e none = read_here n f e
read_found (suc n) f (suc m) l e none =
    read_later n f (none 0 (omega arith)) ∙ ap one_more (read_found n (next f) m (omega arith) e (λ k h. none (suc k) (omega arith)))

-- where none is broken: yes, after all of them
pub read_none : (n : ℕ) (f : ℕ → Bool) → ((k : ℕ) → k < n → f k ≡ false) → read n f ≡ record { yes = true; evaluated = n }
unfolding read
read_none zero f none = refl
read_none (suc n) f none = read_later n f (none 0 (omega arith)) ∙ ap one_more (read_none n (next f) (λ k h. none (suc k) (omega arith)))

-- the same by the lowest that is broken
pub read_lowest : (n : ℕ) (f : ℕ → Bool) → least n f < n → read n f ≡ record { yes = false; evaluated = suc (least n f) }
read_lowest n f l = read_found n f (least n f) l (least_holds n f l) (least_below n f)

pub read_all : (n : ℕ) (f : ℕ → Bool) → least n f ≡ n → read n f ≡ record { yes = true; evaluated = n }
read_all n f e = read_none n f (λ k h. least_below n f k (omega (arith, e)))

-- yes exactly if the count is 0
pub read_quiet : (n : ℕ) (f : ℕ → Bool) → ((read n f).yes ≡ true → count n f ≡ 0) × (count n f ≡ 0 → (read n f).yes ≡ true)
read_quiet n f = (quiet (dec_lt (least n f) n), λ e. ap (λ (r : Read). r.yes) (read_all n f ((least_counted n f).1 e)))
  where
    quiet : Dec (least n f < n) → (read n f).yes ≡ true → count n f ≡ 0
    quiet (yes l) e = absurd (true≢false (sym e ∙ ap (λ (r : Read). r.yes) (read_lowest n f l)))
    quiet (no g) e = (least_counted n f).0 (omega (arith, least_le n f, lt_of_not-le g))
