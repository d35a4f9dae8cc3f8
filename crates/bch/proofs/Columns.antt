-- Computed facts of the generator: what each of the 63 bits alone leaves, and the rows that are read off it. Assumes nothing.
use mathlib.Core.Path.{◌≡◌, refl, sym, ap, ◌∙◌, subst}
use mathlib.Core.Bool.{Bool, true, false, not}
use mathlib.Core.Logic.{⊎_elim}
use mathlib.Core.List.{List, [], ◌∷◌}
use Prim.Native.Nat.{ℕ, ◌+◌, ◌≤◌, ◌<◌}
use lib.Arith.{lt_of_le-ne}
use lib.Dec.{T, T_not, eqb, eqb→eq, eqb_refl}
use lib.ListN.{get_or}
use Rattle.bits.specs.Bits.{digit, number, ◌⊕◌, sum, below}
use Rattle.bits.proofs.Orders.{le-or-lt, eq_or_not}
use Rattle.bits.proofs.Sums.{below_at, not-true, ⊕-eq}
use Rattle.bits.proofs.Octets.{digit_number}
use Rattle.bch.specs.Bch.{reduced, remainder}
use Rattle.bch.specs.Answers.{alone}

-- ---- the tests

some_test : T (below 63 (λ i. not (eqb (alone i) 0)))
unfolding remainder reduced
some_test = tt

apart_test : T (below 63 (λ i. below i (λ k. not (eqb (alone i) (alone k)))))
unfolding remainder reduced
apart_test = tt

odd_test : T (below 63 (λ i. sum 7 (digit 7 (alone i))))
unfolding remainder reduced sum
odd_test = tt

parity_test : T (below 7 (λ a. below 7 (λ j. not (digit 7 (alone (56 + a)) j ⊕ eqb (56 + a) (56 + j)))))
unfolding remainder reduced
parity_test = tt

-- The rows as the source has them: column i has the coefficients of what bit i alone leaves, and the fill bit is in no row.
abbrev pub rows : List ℕ
rows =
    0xA9912D8E86B9EF80
    ∷ 0xFD59BB49C5E51840
    ∷ 0x7EACDDA4E2F28C20
    ∷ 0x3F566ED271794610
    ∷ 0x1FAB376938BCA308
    ∷ 0xA644B63A1AE7BE04
    ∷ 0x53225B1D0D73DF02
    ∷ []

abbrev column : ℕ → ℕ
column i = number 7 (λ j. digit 64 (get_or rows j 0) i)

rows_test : T (below 63 (λ i. eqb (alone i) (column i)))
unfolding number remainder reduced
rows_test = tt

fill_test : T (below 7 (λ j. not (digit 64 (get_or rows j 0) 63)))
fill_test = tt

-- ---- and what they say

-- no bit leaves nothing, no two leave the same, and each leaves an odd number of coefficients
pub alone_some : (i : ℕ) → i < 63 → alone i ≡ 0 → ⊥
alone_some i h e = T_not (eqb (alone i) 0) (below_at 63 (λ i. not (eqb (alone i) 0)) some_test i h) (subst (λ z. T (eqb z 0)) (sym e) tt)

apart : (i k : ℕ) → i < 63 → k < i → alone i ≡ alone k → ⊥
apart i k hi hk e =
    T_not (eqb (alone i) (alone k))
    (below_at i (λ k. not (eqb (alone i) (alone k))) (below_at 63 (λ i. below i (λ k. not (eqb (alone i) (alone k)))) apart_test i hi) k hk)
    (subst (λ z. T (eqb (alone i) z)) e (eqb_refl (alone i)))

pub alone_apart : (i k : ℕ) → i < 63 → k < 63 → alone i ≡ alone k → i ≡ k
alone_apart i k hi hk e = ⊎_elim less (λ l. absurd (apart i k hi l e)) (le-or-lt i k)
  where
    less : i ≤ k → i ≡ k
    less l = ⊎_elim (λ q. q) (λ d. absurd (apart k i hk (lt_of_le-ne l d) (sym e))) (eq_or_not i k)

pub alone_odd : (i : ℕ) → i < 63 → sum 7 (digit 7 (alone i)) ≡ true
alone_odd i h = is_true (sum 7 (digit 7 (alone i))) (below_at 63 (λ i. sum 7 (digit 7 (alone i))) odd_test i h)
  where
    is_true : (b : Bool) → T b → b ≡ true
    is_true true t = refl
    is_true false t = absurd t

-- a parity bit leaves itself
pub alone_parity : (a j : ℕ) → a < 7 → j < 7 → digit 7 (alone (56 + a)) j ≡ eqb (56 + a) (56 + j)
alone_parity a j ha hj =
    ⊕-eq (digit 7 (alone (56 + a)) j) (eqb (56 + a) (56 + j))
    (not-true (digit 7 (alone (56 + a)) j ⊕ eqb (56 + a) (56 + j))
    (below_at 7 (λ j. not (digit 7 (alone (56 + a)) j ⊕ eqb (56 + a) (56 + j)))
    (below_at 7 (λ a. below 7 (λ j. not (digit 7 (alone (56 + a)) j ⊕ eqb (56 + a) (56 + j)))) parity_test a ha) j hj))

-- row j has the coefficients of x^(6-j)
pub row_alone : (i j : ℕ) → i < 63 → j < 7 → digit 7 (alone i) j ≡ digit 64 (get_or rows j 0) i
row_alone i j hi hj =
    ap (λ z. digit 7 z j) (eqb→eq (alone i) (column i) (below_at 63 (λ i. eqb (alone i) (column i)) rows_test i hi))
    ∙ digit_number 7 (λ j. digit 64 (get_or rows j 0) i) j hj

pub row_fill : (j : ℕ) → j < 7 → digit 64 (get_or rows j 0) 63 ≡ false
row_fill j h = not-true (digit 64 (get_or rows j 0) 63) (below_at 7 (λ j. not (digit 64 (get_or rows j 0) 63)) fill_test j h)
