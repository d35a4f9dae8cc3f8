-- Counting one more, the places that a count goes over, and a table that is as it was.
use mathlib.Core.Path.{◌≡◌, refl, sym, ap, ap₂, ◌∙◌}
use mathlib.Core.Bool.{Bool, true, false}
use Prim.Native.Nat.{ℕ, ◌+◌, ◌*◌, ◌/◌, ◌≤◌, ◌<◌}
use native.Mathlib.Nat.{div-lt_iff_lt-mul, mul-le-mul}
use native.Mathlib.Omega.{arith}
use mathlib.Core.List.{List}
use lib.ListN.{get_or, set}
use lib.Seq.{set-set, set-get_or}
use Rattle.std.specs.Int.{from_bool}
use Rattle.bits.specs.Bits.{count, tally}
use Rattle.bits.proofs.Counting.{count_next}

pub count_more : (t : ℕ) (f : ℕ → Bool) {n r : ℕ} {b : Bool} → n ≡ count t f → b ≡ f t → r ≡ tally b → n + r ≡ count (t + 1) f
count_more t f {n} {r} {b} e p q = ap₂ (λ (x y : ℕ). x + y) e (q ∙ ap tally p) ∙ sym (count_next t f)

-- A bool as a number.
pub tally_from : (b : Bool) → from_bool b ≡ tally b
tally_from true = refl
tally_from false = refl

-- What is put back.
pub put_back : (l : List ℕ) (i x : ℕ) → set (set l i x) i (get_or l i 0) ≡ l
put_back l i x = set-set l i x (get_or l i 0) ∙ set-get_or l i 0

-- t below n * k is one of k in one of n places.
pub within : (t n k : ℕ) → 0 < k → t < n * k → t / k < n
within t n k pos h = (div-lt_iff_lt-mul pos).1 h

pub product_fits : {n k : ℕ} → n < 65536 → k ≤ 65536 → n * k ≤ 65535 * 65536
product_fits {n} {k} h l =
    let m : n ≤ 65535 = omega arith in
    mul-le-mul m l
