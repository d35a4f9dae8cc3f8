-- The checks that two bits share, from a test of the differences of shifts. Said once over M.
use mathlib.Core.Path.{◌≡◌, refl, sym, ap, ap₂, ◌∙◌, subst}
use mathlib.Core.Bool.{Bool, true, false, ◌&&◌, ◌||◌}
use mathlib.Core.List.{List, [], ◌∷◌}
use Prim.Native.Nat.{ℕ, zero, suc, ◌+◌, ◌-◌, ◌*◌, ◌/◌, ◌%◌, ◌≤◌, ◌<◌, zero-le}
use native.Mathlib.Nat.{zero-lt-suc, mod-lt, zero-add, add_assoc, add_comm, mod-add-mod, mod-eq_of_lt, add-mod_right, sub-add_cancel}
use native.Mathlib.Nat.{le_of_lt, le_trans, le_of_eq, div-lt_iff_lt-mul, div-add-mod'}
use native.Mathlib.Decide.{ℕ_discrete}
use native.Mathlib.Omega.{arith}
use lib.Dec.{T, eqb, eqb→eq}
use lib.ListN.{get_or}
use borrow.Author.Tests.{eq-eqb, ne_eqb}
use Rattle.bits.specs.Bits.{tally, below, count_of}
use Rattle.rules.specs.Checks.{one_at}
use Rattle.bits.proofs.Sums.{and_l, and_r, below_at, eqb_iff}
use Rattle.bits.proofs.Cyclic.{cancel, near}
use Rattle.bits.proofs.Counting.{each}
use Rattle.rules.proofs.Blocks.{shaped, with_tables, cover_rows}
use Rattle.rules.proofs.Ways.{shared}

-- ---- the test: over all block rows, no difference of a shift of one block and a shift of another stands twice

abbrev pub apart : ℕ → ℕ → List ℕ → List ℕ → List ℕ
apart M s [] rest = rest
apart M s (s₀ ∷ S₀) rest = (((M - s) + s₀) % M) ∷ apart M s S₀ rest

abbrev pub aparts : ℕ → List ℕ → List ℕ → List ℕ → List ℕ
aparts M [] S₀ rest = rest
aparts M (s ∷ S) S₀ rest = apart M s S₀ (aparts M S S₀ rest)

abbrev pub differences : ℕ → List (List (List ℕ)) → ℕ → ℕ → List ℕ
differences M [] b b₀ = []
differences M (row ∷ H) b b₀ = aparts M (get_or row b []) (get_or row b₀ []) (differences M H b b₀)

-- a bit shares all its checks with itself, at the difference 0 in its own block
abbrev pub nonzero : List ℕ → List ℕ
nonzero [] = []
nonzero (zero ∷ xs) = nonzero xs
nonzero (suc x ∷ xs) = suc x ∷ nonzero xs

abbrev pub others : Bool → List ℕ → List ℕ
others true xs = nonzero xs
others false xs = xs

abbrev pub occurs : ℕ → List ℕ → ℕ
occurs d [] = 0
occurs d (x ∷ xs) = tally (eqb x d) + occurs d xs

abbrev pub once : List ℕ → Bool
once [] = true
once (x ∷ xs) = eqb (occurs x xs) 0 && once xs

abbrev pub shared_once : ℕ → ℕ → List (List (List ℕ)) → Bool
shared_once M B H = below B (λ b. below B (λ b₀. once (others (eqb b b₀) (differences M H b b₀))))

-- ---- from the test to the count

tally_or : (a b : Bool) → tally (a || b) ≤ tally a + tally b
tally_or true b = omega arith
tally_or false b = le_of_eq (sym (zero-add (tally b)))

occurs_once : (d : ℕ) (xs : List ℕ) → T (once xs) → occurs d xs ≤ 1
occurs_once d [] t = zero-le
occurs_once d (x ∷ xs) t = go (ℕ_discrete x d) (occurs_once d xs (and_r (eqb (occurs x xs) 0) (once xs) t))
  where
    e : occurs x xs ≡ 0
    e = eqb→eq (occurs x xs) 0 (and_l (eqb (occurs x xs) 0) (once xs) t)

    go : Dec (x ≡ d) → occurs d xs ≤ 1 → tally (eqb x d) + occurs d xs ≤ 1
    go (yes q) ih = le_of_eq (ap₂ (λ a b. tally a + b) (eq-eqb x d q) (ap (λ z. occurs z xs) (sym q) ∙ e))
    go (no n) ih = le_trans (le_of_eq (ap (λ a. tally a + occurs d xs) (ne_eqb x d n) ∙ zero-add (occurs d xs))) ih

occurs_nonzero : (d : ℕ) (xs : List ℕ) → (d ≡ 0 → ⊥) → occurs d (nonzero xs) ≡ occurs d xs
occurs_nonzero d [] n = refl
occurs_nonzero d (zero ∷ xs) n = occurs_nonzero d xs n ∙ sym (ap (λ a. tally a + occurs d xs) (ne_eqb 0 d (λ e. n (sym e)))
    ∙ zero-add (occurs d xs))
occurs_nonzero d (suc x ∷ xs) n = ap (λ z. tally (eqb (suc x) d) + z) (occurs_nonzero d xs n)

module _ (m : ℕ) where
  -- a check of bit k is one of bit k₀ where the shifts differ as the places do
  gap : ℕ → ℕ → ℕ
  gap k k₀ = (k₀ + (suc m - k)) % suc m

  meets : (k k₀ y s₀ : ℕ) → k < suc m → k₀ < suc m → eqb (((k + y) % suc m + s₀) % suc m) k₀ ≡ eqb ((y + s₀) % suc m) (gap k k₀)
  unfolding gap
  meets k k₀ y s₀ hk hk₀ =
      ap (λ z. eqb z k₀) (mod-add-mod (k + y) (suc m) s₀ ∙ ap (λ z. z % suc m) (add_assoc k y s₀))
      ∙ eqb_iff ((k + (y + s₀)) % suc m) k₀ ((y + s₀) % suc m) ((k₀ + (suc m - k)) % suc m)
      (λ e. cancel m (y + s₀) (k₀ + (suc m - k)) k (ap (λ z. z % suc m) (add_comm (y + s₀) k) ∙ e ∙ sym round))
      (λ e. ap (λ z. z % suc m) (add_comm k (y + s₀)) ∙ sym (mod-add-mod (y + s₀) (suc m) k) ∙ ap (λ z. (z + k) % suc m) e
      ∙ mod-add-mod (k₀ + (suc m - k)) (suc m) k ∙ round)
    where
      round : (k₀ + (suc m - k) + k) % suc m ≡ k₀
      round = ap (λ z. z % suc m) (add_assoc k₀ (suc m - k) k ∙ ap (λ z. k₀ + z) (sub-add_cancel (le_of_lt hk))) ∙ add-mod_right k₀ (suc m)
          ∙ mod-eq_of_lt hk₀

  one_few : (S₀ rest : List ℕ) (k k₀ s : ℕ) → k < suc m → k₀ < suc m
      → tally (one_at (suc m) S₀ ((k + (suc m - s)) % suc m) k₀) + occurs (gap k k₀) rest ≤ occurs (gap k k₀) (apart (suc m) s S₀ rest)
  one_few [] rest k k₀ s hk hk₀ = le_of_eq (zero-add (occurs (gap k k₀) rest))
  one_few (s₀ ∷ S₀) rest k k₀ s hk hk₀ =
      omega (
        arith,
        tally_or (eqb (((k + (suc m - s)) % suc m + s₀) % suc m) k₀) (one_at (suc m) S₀ ((k + (suc m - s)) % suc m) k₀),
        ap tally (meets k k₀ (suc m - s) s₀ hk hk₀),
        one_few S₀ rest k k₀ s hk hk₀,
      )

  block_few : (S S₀ rest : List ℕ) (k k₀ : ℕ) → k < suc m → k₀ < suc m
      → count_of S (λ s. one_at (suc m) S₀ ((k + (suc m - s)) % suc m) k₀) + occurs (gap k k₀) rest ≤ occurs (gap k k₀)
      (aparts (suc m) S S₀ rest)
  block_few [] S₀ rest k k₀ hk hk₀ = le_of_eq (zero-add (occurs (gap k k₀) rest))
  block_few (s ∷ S) S₀ rest k k₀ hk hk₀ =
      omega (arith, one_few S₀ (aparts (suc m) S S₀ rest) k k₀ s hk hk₀, block_few S S₀ rest k k₀ hk hk₀)

  rows_few : (H : List (List (List ℕ))) (b b₀ k k₀ : ℕ) → k < suc m → k₀ < suc m
      → each H (λ row. count_of (get_or row b []) (λ s. one_at (suc m) (get_or row b₀ []) ((k + (suc m - s)) % suc m) k₀)) ≤ occurs
      (gap k k₀)
      (differences (suc m) H b b₀)
  rows_few [] b b₀ k k₀ hk hk₀ = zero-le
  rows_few (row ∷ H) b b₀ k k₀ hk hk₀ =
      omega (arith, block_few (get_or row b []) (get_or row b₀ []) (differences (suc m) H b b₀) k k₀ hk hk₀, rows_few H b b₀ k k₀ hk hk₀)

module _ (octets_of_word octets_of_information unsent m : ℕ) (H : List (List (List ℕ))) (gs : List (List ℕ)) (printed B : ℕ)
    (shape : T (shaped (suc m) B H)) (test : T (shared_once (suc m) B H)) where
  -- no two bits share two checks
  pub shared_few : (n n₀ : ℕ) → n < B * suc m → n₀ < B * suc m → (n ≡ n₀ → ⊥)
      → shared (with_tables octets_of_word octets_of_information unsent m H gs printed) n n₀ ≤ 1
  unfolding shared gap
  shared_few n n₀ h h₀ d =
      le_trans (le_of_eq (cover_rows octets_of_word octets_of_information unsent m H gs printed B shape
      (λ row i. one_at (suc m) (get_or row (n₀ / suc m) []) i (n₀ % suc m)) n h))
      (le_trans (rows_few m H (n / suc m) (n₀ / suc m) (n % suc m) (n₀ % suc m) k_lt k₀_lt) (go (ℕ_discrete (n / suc m) (n₀ / suc m))))
    where
      k_lt : n % suc m < suc m
      k_lt = mod-lt n (zero-lt-suc m)

      k₀_lt : n₀ % suc m < suc m
      k₀_lt = mod-lt n₀ (zero-lt-suc m)

      place : ℕ
      place = (n₀ % suc m + (suc m - n % suc m)) % suc m

      diffs : List ℕ
      diffs = differences (suc m) H (n / suc m) (n₀ / suc m)

      tested : T (once (others (eqb (n / suc m) (n₀ / suc m)) (differences (suc m) H (n / suc m) (n₀ / suc m))))
      tested =
          below_at B (λ b₀. once (others (eqb (n / suc m) b₀) (differences (suc m) H (n / suc m) b₀)))
          (below_at B (λ b. below B (λ b₀. once (others (eqb b b₀) (differences (suc m) H b b₀)))) test (n / suc m)
          ((div-lt_iff_lt-mul (zero-lt-suc m)).1 h))
          (n₀ / suc m) ((div-lt_iff_lt-mul (zero-lt-suc m)).1 h₀)

      same : n / suc m ≡ n₀ / suc m → n % suc m ≡ n₀ % suc m → n ≡ n₀
      same p q = sym (div-add-mod' n (suc m)) ∙ ap₂ (λ a b. a * suc m + b) p q ∙ div-add-mod' n₀ (suc m)

      go : Dec (n / suc m ≡ n₀ / suc m) → occurs place diffs ≤ 1
      go (yes e) =
          le_trans (le_of_eq (sym (occurs_nonzero place diffs
          (λ z. d (same e (eqb→eq (n % suc m) (n₀ % suc m)
          (subst T (near m (n₀ % suc m) (n % suc m) k₀_lt k_lt) (subst (λ y. T (eqb y 0)) (sym z) tt))))))))
          (occurs_once place (nonzero diffs) (subst (λ z. T (once (others z diffs))) (eq-eqb (n / suc m) (n₀ / suc m) e) tested))
      go (no n) = occurs_once place diffs (subst (λ z. T (once (others z diffs))) (ne_eqb _ _ n) tested)
