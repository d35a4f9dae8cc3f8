-- The first bit of a number that is set. Assumes nothing.
use mathlib.Core.Path.{◌≡◌, sym, ap, ◌∙◌}
use mathlib.Core.Bool.{true, false}
use mathlib.Core.Logic.{⊎_elim}
use mathlib.Core.List.{List}
use Prim.Native.Nat.{ℕ, suc, ◌+◌, ◌-◌, ◌*◌, ◌/◌, ◌%◌, ◌^◌, ◌≤◌, ◌<◌}
use native.Mathlib.Nat.{pow-suc, div-eq_of_lt-le}
use native.Mathlib.Omega.{arith}
use lib.Bits.{bit_or, or_lt}
use lib.Count.{count_leading_zeros, leading_top}
use lib.Dec.{eqb}
use lib.ListN.{length, get_or}
use Rattle.bits.specs.Bits.{digit, least}
use Rattle.bits.proofs.Orders.{le-or-lt}
use Rattle.bits.proofs.Octets.{digit_zero}
use Rattle.bits.proofs.Leasts.{least_found}
use Rattle.vectors.specs.Vectors.{wbit, Clear}
use Rattle.vectors.proofs.Filling.{word_holds}
use Rattle.vectors.proofs.Counts.{or-zero}
use Rattle.vectors.proofs.Places.{place, place_above}

-- Bit i of a number of w bits is its first that is set.
pub record First (w x i : ℕ) : Type 0 where
  pub inside : i < w
  pub here : digit w x i ≡ true
  pub clear : (q : ℕ) → q < i → digit w x q ≡ false

pub first_digit : (w x : ℕ) → 0 < x → x < 2 ^ w → First w x (count_leading_zeros w x)
first_digit w x some small =
    let t = leading_top w x some small in
    let j = t.0 in
    let e : count_leading_zeros w x + suc j ≡ w = t.1 in
    let d : w - suc (count_leading_zeros w x) ≡ j = omega arith in
    let one : x / 2 ^ j ≡ 1 = div-eq_of_lt-le (2 ^ j) (omega (arith, t.2)) (omega (arith, pow-suc 2 j, t.3)) in
    record {
      inside = omega arith;
      here = ap (place x) d ∙ ap (λ (n : ℕ). eqb (n % 2) 1) one;
      clear = λ q hq. place_above x (suc j) (w - suc q) t.3 (omega arith);
    }

-- ---- the first bit of several words

-- one word more that is 0
pub clear_more : (ws : List ℕ) (k : ℕ) → Clear ws k → get_or ws k 0 ≡ 0 → Clear ws (k + 1)
clear_more ws k clear e i l =
    ⊎_elim
    (λ (h : 64 * k ≤ i).
    let d : i ≡ 64 * k + (i - 64 * k) = omega arith in
    ap (wbit ws) d
    ∙ sym (word_holds ws k (i - 64 * k) (omega arith))
    ∙ ap (λ v. digit 64 v (i - 64 * k)) e
    ∙ digit_zero 64 (i - 64 * k))
    (λ (h : i < 64 * k). clear i h)
    (le-or-lt (64 * k) i)

-- the first bit of the first word that is not 0
pub first_of : (ws : List ℕ) (k : ℕ) → k < length ws → Clear ws k → 0 < get_or ws k 0 → get_or ws k 0 < 2 ^ 64
    → 64 * k + count_leading_zeros 64 (get_or ws k 0) ≡ least (64 * length ws) (wbit ws)
first_of ws k l clear some small =
    let v = get_or ws k 0 in
    let f = first_digit 64 v some small in
    sym (least_found (64 * length ws) (wbit ws) (64 * k + count_leading_zeros 64 v) (omega (arith, f.inside))
    (sym (word_holds ws k (count_leading_zeros 64 v) f.inside) ∙ f.here)
    (λ i h. ⊎_elim
    (λ (g : 64 * k ≤ i).
    let d : i ≡ 64 * k + (i - 64 * k) = omega arith in
    ap (wbit ws) d ∙ sym (word_holds ws k (i - 64 * k) (omega (arith, f.inside))) ∙ f.clear (i - 64 * k) (omega arith))
    (λ (g : i < 64 * k). clear i g)
    (le-or-lt (64 * k) i)))

-- four words more, if none of their bits is set
pub clear_four : (ws : List ℕ) (k : ℕ) → Clear ws k → ((i : ℕ) → get_or ws i 0 < 2 ^ 64)
    → bit_or (bit_or (get_or ws k 0) (get_or ws (k + 1) 0)) (bit_or (get_or ws (k + 2) 0) (get_or ws (k + 3) 0)) ≡ 0 → Clear ws (k + 4)
clear_four ws k clear small e =
    let h = or-zero (bit_or (w k) (w (k + 1))) (bit_or (w (k + 2)) (w (k + 3))) (pair k (k + 1)) (pair (k + 2) (k + 3)) e in
    let a = or-zero (w k) (w (k + 1)) (small k) (small (k + 1)) h.0 in
    let b = or-zero (w (k + 2)) (w (k + 3)) (small (k + 2)) (small (k + 3)) h.1 in
    let two : Clear ws (k + 2) = again (clear_more ws (k + 1) (clear_more ws k clear a.0) a.1) in
    further (clear_more ws (k + 3) (again' (clear_more ws (k + 2) two b.0)) b.1)
  where
    w : ℕ → ℕ
    w i = get_or ws i 0

    pair : (i j : ℕ) → bit_or (w i) (w j) < 2 ^ 64
    pair i j = or_lt 64 (w i) (w j) (small i) (small j)

    again : Clear ws (k + 1 + 1) → Clear ws (k + 2)
    again f i l = f i (omega arith)

    again' : Clear ws (k + 2 + 1) → Clear ws (k + 3)
    again' f i l = f i (omega arith)

    further : Clear ws (k + 3 + 1) → Clear ws (k + 4)
    further f i l = f i (omega arith)
