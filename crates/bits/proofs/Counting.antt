-- Counts of bits that are set.
use mathlib.Core.Path.{◌≡◌, refl, sym, ap, ap₂, ◌∙◌, fun_ext}
use mathlib.Core.Bool.{Bool, true, false, not, ◌&&◌}
use mathlib.Core.List.{List, [], ◌∷◌}
use Prim.Native.Nat.{ℕ, zero, suc, ◌+◌, ◌*◌, ◌/◌, ◌%◌, ◌≤◌, ◌<◌, zero-le}
use native.Mathlib.Nat.{le_step, lt-suc_self, le_refl, add-zero, add-suc, zero-add, add_comm, add_assoc, suc-mul, zero-mul, not-suc-le-zero}
use native.Mathlib.Nat.{zero-lt-suc, add-div_left, add-mod_left, mod-eq_of_lt}
use native.Mathlib.Numerals.{add-one}
use native.Mathlib.Decide.{ℕ_discrete}
use native.Mathlib.Omega.{arith}
use lib.Arith.{digits_div}
use lib.Dec.{eqb}
use lib.ListN.{length, get_or}
use borrow.Author.Tests.{eq-eqb, ne_eqb}
use Rattle.bits.specs.Bits.{◌⊕◌, tally, count}

pub tally_none : (a : Bool) → tally a ≡ 0 → a ≡ false
tally_none true e = absurd (omega arith)
tally_none false e = refl

pub tally_le : (a : Bool) → tally a ≤ 1
tally_le true = le_refl 1
tally_le false = zero-le

tally_xor : (a b : Bool) → tally (a ⊕ b) + 2 * tally (b && a) ≡ tally a + tally b
tally_xor true true = refl
tally_xor true false = refl
tally_xor false true = refl
tally_xor false false = refl

tally_split : (a b : Bool) → tally (b && a) + tally (b && not a) ≡ tally b
tally_split true true = refl
tally_split true false = refl
tally_split false true = refl
tally_split false false = refl

-- nothing yet, and one more
pub count-start : (f : ℕ → Bool) → 0 ≡ count 0 f
unfolding count
count-start f = refl

pub count_next : (n : ℕ) (f : ℕ → Bool) → count (n + 1) f ≡ count n f + tally (f n)
unfolding count
count_next n f = ap (λ k. count k f) (add-one n)

pub count_same : (n : ℕ) (f g : ℕ → Bool) → ((i : ℕ) → i < n → f i ≡ g i) → count n f ≡ count n g
unfolding count
count_same zero f g h = refl
count_same (suc n) f g h = ap₂ (λ a b. a + tally b) (count_same n f g (λ i l. h i (le_step l))) (h n (lt-suc_self n))

pub count_none : (n : ℕ) (f : ℕ → Bool) → ((i : ℕ) → i < n → f i ≡ false) → count n f ≡ 0
unfolding count
count_none zero f h = refl
count_none (suc n) f h = ap₂ (λ a b. a + tally b) (count_none n f (λ i l. h i (le_step l))) (h n (lt-suc_self n))

-- where none is counted, none is set
pub none_counted : (n : ℕ) (f : ℕ → Bool) → count n f ≡ 0 → (i : ℕ) → i < n → f i ≡ false
unfolding count
none_counted zero f e i h = absurd (not-suc-le-zero h)
none_counted (suc n) f e i h = go (ℕ_discrete i n) (none_counted n f (omega arith) i)
  where
    go : Dec (i ≡ n) → (i < n → f i ≡ false) → f i ≡ false
    go (yes q) ih = ap f q ∙ tally_none (f n) (omega arith)
    go (no d) ih = ih (omega arith)

-- flipping some bits: those that were set are lost, the others gained
pub count_xor : (n : ℕ) (f g : ℕ → Bool) → count n (λ i. f i ⊕ g i) + 2 * count n (λ i. g i && f i) ≡ count n f + count n g
unfolding count
count_xor zero f g = refl
count_xor (suc n) f g = omega (arith, count_xor n f g, tally_xor (f n) (g n))

pub count_split : (n : ℕ) (f g : ℕ → Bool) → count n (λ i. g i && f i) + count n (λ i. g i && not (f i)) ≡ count n g
unfolding count
count_split zero f g = refl
count_split (suc n) f g = omega (arith, count_split n f g, tally_split (f n) (g n))

pub count-le : (n : ℕ) (f : ℕ → Bool) → count n f ≤ n
unfolding count
count-le zero f = zero-le
count-le (suc n) f = omega (arith, count-le n f, tally_le (f n))

-- one place
pub count_pick : (n y : ℕ) (g : ℕ → Bool) → y < n → count n (λ i. eqb i y && g i) ≡ tally (g y)
unfolding count
count_pick zero y g h = absurd (not-suc-le-zero h)
count_pick (suc n) y g h = go (ℕ_discrete n y) (count_pick n y g)
  where
    go : Dec (n ≡ y) → (y < n → count n (λ i. eqb i y && g i) ≡ tally (g y))
        → count n (λ i. eqb i y && g i) + tally (eqb n y && g n) ≡ tally (g y)
    go (yes e) ih =
        ap₂ (λ a b. a + tally (b && g n)) (count_none n (λ i. eqb i y && g i) (λ i l. ap (λ z. z && g i) (ne_eqb i y (λ q. omega arith))))
        (eq-eqb n y e)
        ∙ zero-add (tally (g n)) ∙ ap (λ z. tally (g z)) e
    go (no d) ih = ap₂ (λ a b. a + tally (b && g n)) (ih (omega arith)) (ne_eqb n y d) ∙ add-zero (tally (g y))

-- two lots that have no place in common
pub count_apart : (n : ℕ) (f g h : ℕ → Bool) → ((i : ℕ) → i < n → tally (h i) ≡ tally (f i) + tally (g i))
    → count n h ≡ count n f + count n g
unfolding count
count_apart zero f g h e = refl
count_apart (suc n) f g h e = omega (arith, count_apart n f g h (λ i l. e i (le_step l)), e n (lt-suc_self n))

-- first a places, then b
pub count_add : (a b : ℕ) (f : ℕ → Bool) → count (a + b) f ≡ count a f + count b (λ i. f (a + i))
unfolding count
count_add a zero f = ap (λ z. count z f) (add-zero a) ∙ sym (add-zero (count a f))
count_add a (suc b) f = ap (λ z. count z f) (add-suc a b) ∙ ap (λ z. z + tally (f (a + b))) (count_add a b f)
    ∙ add_assoc (count a f) (count b (λ i. f (a + i))) (tally (f (a + b)))

-- a sum over the rows of a table
abbrev pub each : {A : Type 0} → List A → (A → ℕ) → ℕ
each [] g = 0
each (row ∷ rows) g = g row + each rows g

-- M places for each row of a table
pub count_rows : {A : Type 0} (m : ℕ) (rows : List A) (d : A) (F : A → ℕ → Bool)
    → count (length rows * suc m) (λ k. F (get_or rows (k / suc m) d) (k % suc m)) ≡ each rows (λ row. count (suc m) (F row))
unfolding count
count_rows m [] d F = ap (λ z. count z (λ k. F d (k % suc m))) (zero-mul (suc m))
count_rows m (row ∷ rows) d F =
    ap (λ z. count z (λ k. F (get_or (row ∷ rows) (k / suc m) d) (k % suc m))) (suc-mul (length rows) (suc m)
    ∙ add_comm (length rows * suc m) (suc m))
    ∙ count_add (suc m) (length rows * suc m) (λ k. F (get_or (row ∷ rows) (k / suc m) d) (k % suc m))
    ∙ ap₂ (λ a b. a + b)
    (count_same (suc m) _ (F row) (λ i l. ap₂ (λ q r. F (get_or (row ∷ rows) q d) r) (first_div i l) (first_mod i l)))
    (ap (count (length rows * suc m)) (fun_ext (λ i. ap₂ (λ q r. F (get_or (row ∷ rows) q d) r) (next_div i) (next_mod i)))
    ∙ count_rows m rows d F)
  where
    first_div : (i : ℕ) → i < suc m → i / suc m ≡ 0
    first_div i l = ap (λ z. z / suc m) (sym (zero-add i) ∙ ap (λ z. z + i) (sym (zero-mul (suc m)))) ∙ digits_div 0 l

    first_mod : (i : ℕ) → i < suc m → i % suc m ≡ i
    first_mod i l = mod-eq_of_lt l

    next_div : (i : ℕ) → (suc m + i) / suc m ≡ suc (i / suc m)
    next_div i = add-div_left i (zero-lt-suc m) ∙ add-one (i / suc m)

    next_mod : (i : ℕ) → (suc m + i) % suc m ≡ i % suc m
    next_mod i = add-mod_left (suc m) i
