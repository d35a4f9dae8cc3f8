-- Checks and the counts of a bit, block by block: what they are where the shifts of each block differ. Said once over M.
use mathlib.Core.Path.{◌≡◌, refl, sym, ap, ap₂, ◌∙◌, fun_ext, subst}
use mathlib.Core.Bool.{Bool, true, false, not, ◌&&◌, ◌||◌, and-true, and_comm}
use mathlib.Core.List.{List, [], ◌∷◌}
use Prim.Native.Nat.{ℕ, zero, suc, ◌+◌, ◌-◌, ◌*◌, ◌/◌, ◌%◌, ◌<◌, zero-le, suc-le-suc}
use native.Mathlib.Nat.{zero-lt-suc, mod-lt, add-zero, zero-add, add_comm, add_assoc, add-suc, suc-mul, zero-mul, mod-eq_of_lt, mod-add-mod}
use native.Mathlib.Nat.{add-mod_right, le_of_lt, sub-add_cancel, add-sub_of_le, not-suc-le-zero, le_of_suc-le-suc, div-lt_iff_lt-mul}
use native.Mathlib.Nat.{lt_of_le_of_lt}
use native.Mathlib.Numerals.{one-add}
use lib.Arith.{digits_div, digits_mod}
use lib.Dec.{T, eqb, eqb→eq, ltb, ltb→lt}
use lib.ListN.{length, get_or}
use Rattle.bits.specs.Bits.{Word, ◌⊕◌, tally, sum, count, below, over, blocks, count_of}
use Rattle.rules.specs.Codes.{Code, bits, checks}
use Rattle.rules.specs.Checks.{one_at, covers, check}
use Rattle.bits.proofs.Sums.{⊕-false, ⊕-assoc, sum_linear, sum_same, pick, blocks_sum, and_l, and_r, below_at, not-true, eqb_iff}
use Rattle.bits.proofs.Cyclic.{cancel}
use Rattle.bits.proofs.Counting.{count_same, count_none, count_pick, count_apart, count_rows, each}

-- an entry 7, M = 16: row 9 has its one at column 0
pub entry_column : one_at 16 (7 ∷ []) 9 0 ≡ true
entry_column = refl

-- ---- words by blocks

-- bit k of block b
abbrev pub blk : ℕ → Word → ℕ → ℕ → Bool
blk M x b k = x (b * M + k)

-- check i of a row of blocks, by its shifts
abbrev pub check_in : ℕ → List (List ℕ) → (ℕ → ℕ → Bool) → ℕ → Bool
check_in M row w i = blocks row 0 (λ b s. w b ((i + s) % M))

pub count_all : (S : List ℕ) → count_of S (λ s. true) ≡ length S
count_all [] = refl
count_all (s ∷ S) = ap (λ z. 1 + z) (count_all S) ∙ one-add (length S)

-- of bit k of block b: its broken checks, and all its checks
abbrev pub broken_in : ℕ → List (List (List ℕ)) → (ℕ → ℕ → Bool) → ℕ → ℕ → ℕ
broken_in M H w b k = each H (λ row. count_of (get_or row b []) (λ s. check_in M row w ((k + (M - s)) % M)))

abbrev pub degree : List (List (List ℕ)) → ℕ → ℕ
degree H b = each H (λ row. length (get_or row b []))

-- ---- the tests of a parity table's shape

-- the shifts of a block are below M and differ
abbrev pub distinct : ℕ → List ℕ → Bool
distinct M [] = true
distinct M (s ∷ S) = ltb s M && (not (one_at M S 0 s) && distinct M S)

-- each row has B such blocks
abbrev pub shaped : ℕ → ℕ → List (List (List ℕ)) → Bool
shaped M B [] = true
shaped M B (row ∷ H) = (eqb (length row) B && below B (λ b. distinct M (get_or row b []))) && shaped M B H

pub record Row (M B : ℕ) (row : List (List ℕ)) : Type 0 where
  pub long : length row ≡ B
  pub apart : (b : ℕ) → b < B → T (distinct M (get_or row b []))

pub row_shaped : (M B : ℕ) (row : List (List ℕ)) → T (eqb (length row) B && below B (λ b. distinct M (get_or row b []))) → Row M B row
row_shaped M B row t = record {
  long = eqb→eq (length row) B (and_l (eqb (length row) B) (below B (λ b. distinct M (get_or row b []))) t);
  apart = below_at B (λ b. distinct M (get_or row b [])) (and_r (eqb (length row) B) (below B (λ b. distinct M (get_or row b []))) t);
}

pub shaped_at : (M B : ℕ) (H : List (List (List ℕ))) → T (shaped M B H) → (r : ℕ) → r < length H → Row M B (get_or H r [])
shaped_at M B [] t r h = absurd (not-suc-le-zero h)
shaped_at M B (row ∷ H) t zero h =
    row_shaped M B row (and_l (eqb (length row) B && below B (λ b. distinct M (get_or row b []))) (shaped M B H) t)
shaped_at M B (row ∷ H) t (suc r) h =
    shaped_at M B H (and_r (eqb (length row) B && below B (λ b. distinct M (get_or row b []))) (shaped M B H) t) r (le_of_suc-le-suc h)

-- ---- sums and counts along a circulant

-- (a or b) and y, where a and b do not hold together
or_apart : (a b y : Bool) → (a ≡ true → b ≡ false) → ((a || b) && y) ≡ (a && y) ⊕ (b && y)
or_apart true b y h = sym (⊕-false y) ∙ ap (λ z. y ⊕ (z && y)) (sym (h refl))
or_apart false b y h = refl

tally_apart : (a b y : Bool) → (a ≡ true → b ≡ false) → tally ((a || b) && y) ≡ tally (a && y) + tally (b && y)
tally_apart true b y h = sym (ap (λ z. tally y + tally (z && y)) (h refl) ∙ add-zero (tally y))
tally_apart false b y h = sym (zero-add (tally (b && y)))

module _ (m : ℕ) where
  -- the place of a shift: row i has its one at column k where i is k - s
  pub at_shift : (k s i : ℕ) → k < suc m → s < suc m → i < suc m → eqb ((i + s) % suc m) k ≡ eqb i ((k + (suc m - s)) % suc m)
  at_shift k s i hk hs hi =
      eqb_iff ((i + s) % suc m) k i ((k + (suc m - s)) % suc m)
      (λ e. sym (sym (ap (λ z. (z + (suc m - s)) % suc m) e) ∙ mod-add-mod (i + s) (suc m) (suc m - s) ∙ around i ∙ mod-eq_of_lt hi) ∙ refl)
      (λ e. ap (λ z. (z + s) % suc m) e ∙ mod-add-mod (k + (suc m - s)) (suc m) s
      ∙ ap (λ z. z % suc m) (add_assoc k (suc m - s) s ∙ ap (λ z. k + z) (sub-add_cancel (le_of_lt hs))) ∙ add-mod_right k (suc m)
      ∙ mod-eq_of_lt hk)
    where
      around : (i : ℕ) → (i + s + (suc m - s)) % suc m ≡ i % suc m
      around i = ap (λ z. z % suc m) (add_assoc i s (suc m - s) ∙ ap (λ z. i + z) (add-sub_of_le (le_of_lt hs))) ∙ add-mod_right i (suc m)

  -- another shift of the block has its one elsewhere, in a row and in a column
  one_elsewhere : (S : List ℕ) (i s : ℕ) → s < suc m → one_at (suc m) S 0 s ≡ false → one_at (suc m) S i ((i + s) % suc m) ≡ false
  one_elsewhere [] i s h e = refl
  one_elsewhere (s₀ ∷ S) i s h e = go (eqb ((0 + s₀) % suc m) s) refl (one_elsewhere S i s h)
    where
      moved : eqb ((i + s₀) % suc m) ((i + s) % suc m) ≡ eqb ((0 + s₀) % suc m) s
      moved =
          eqb_iff ((i + s₀) % suc m) ((i + s) % suc m) ((0 + s₀) % suc m) s
          (λ q. ap (λ z. z % suc m) (zero-add s₀)
          ∙ cancel m s₀ s i (ap (λ z. z % suc m) (add_comm s₀ i) ∙ q ∙ ap (λ z. z % suc m) (add_comm i s)) ∙ mod-eq_of_lt h)
          (λ q. ap (λ z. z % suc m) (add_comm i s₀) ∙ sym (mod-add-mod s₀ (suc m) i)
          ∙ ap (λ z. (z + i) % suc m) (sym (ap (λ z. z % suc m) (zero-add s₀)) ∙ q) ∙ ap (λ z. z % suc m) (add_comm s i))

      go : (b : Bool) → eqb ((0 + s₀) % suc m) s ≡ b → (one_at (suc m) S 0 s ≡ false → one_at (suc m) S i ((i + s) % suc m) ≡ false)
          → eqb ((i + s₀) % suc m) ((i + s) % suc m) || one_at (suc m) S i ((i + s) % suc m) ≡ false
      go true q ih = absurd (subst T (sym (ap (λ z. z || one_at (suc m) S 0 s) q) ∙ e) tt)
      go false q ih = ap (λ z. z || one_at (suc m) S i ((i + s) % suc m)) (moved ∙ q) ∙ ih (sym (ap (λ z. z || one_at (suc m) S 0 s) q) ∙ e)

  low : (s : ℕ) (S : List ℕ) → T (distinct (suc m) (s ∷ S)) → s < suc m
  low s S t = ltb→lt s (suc m) (and_l (ltb s (suc m)) (not (one_at (suc m) S 0 s) && distinct (suc m) S) t)

  alone : (s : ℕ) (S : List ℕ) → T (distinct (suc m) (s ∷ S)) → one_at (suc m) S 0 s ≡ false
  alone s S t = not-true (one_at (suc m) S 0 s)
      (and_l (not (one_at (suc m) S 0 s)) (distinct (suc m) S) (and_r (ltb s (suc m)) (not (one_at (suc m) S 0 s) && distinct (suc m) S) t))

  rest : (s : ℕ) (S : List ℕ) → T (distinct (suc m) (s ∷ S)) → T (distinct (suc m) S)
  rest s S t = and_r (not (one_at (suc m) S 0 s)) (distinct (suc m) S)
      (and_r (ltb s (suc m)) (not (one_at (suc m) S 0 s) && distinct (suc m) S) t)

  -- the bits at the ones of row i
  pub one_sum : (S : List ℕ) (i : ℕ) (y : Word) → T (distinct (suc m) S)
      → sum (suc m) (λ t. one_at (suc m) S i t && y t) ≡ over S (λ s. y ((i + s) % suc m))
  one_sum [] i y t = (sum_linear (suc m)).none
  one_sum (s ∷ S) i y t =
      ap (sum (suc m)) (fun_ext (λ k. or_apart (eqb ((i + s) % suc m) k) (one_at (suc m) S i k) (y k) (λ e.
      ap (one_at (suc m) S i) (sym (eqb→eq ((i + s) % suc m) k (subst T (sym e) tt))) ∙ one_elsewhere S i s (low s S t) (alone s S t))))
      ∙ (sum_linear (suc m)).plus (λ k. eqb ((i + s) % suc m) k && y k) (λ k. one_at (suc m) S i k && y k)
      ∙ ap₂ (λ a b. a ⊕ b)
      (ap (sum (suc m)) (fun_ext (λ k. and_comm (eqb ((i + s) % suc m) k) (y k)
      ∙ ap (λ z. y k && z) (eqb_iff ((i + s) % suc m) k k ((i + s) % suc m) sym sym)))
      ∙ pick (suc m) ((i + s) % suc m) y (mod-lt (i + s) (zero-lt-suc m)))
      (one_sum S i y (rest s S t))

  -- the rows that have a one at column k
  pub one_count : (S : List ℕ) (k : ℕ) (g : ℕ → Bool) → k < suc m → T (distinct (suc m) S)
      → count (suc m) (λ i. one_at (suc m) S i k && g i) ≡ count_of S (λ s. g ((k + (suc m - s)) % suc m))
  one_count [] k g h t = count_none (suc m) (λ i. false && g i) (λ i l. refl)
  one_count (s ∷ S) k g h t =
      count_apart (suc m) (λ i. eqb ((i + s) % suc m) k && g i) (λ i. one_at (suc m) S i k && g i) (λ i. one_at (suc m) (s ∷ S) i k && g i)
      (λ i l. tally_apart (eqb ((i + s) % suc m) k) (one_at (suc m) S i k) (g i) (λ e.
      ap (one_at (suc m) S i) (sym (eqb→eq ((i + s) % suc m) k (subst T (sym e) tt))) ∙ one_elsewhere S i s (low s S t) (alone s S t)))
      ∙ ap₂ (λ a b. a + b)
      (count_same (suc m) _ (λ i. eqb i ((k + (suc m - s)) % suc m) && g i) (λ i l. ap (λ z. z && g i) (at_shift k s i h (low s S t) l))
      ∙ count_pick (suc m) ((k + (suc m - s)) % suc m) g (mod-lt (k + (suc m - s)) (zero-lt-suc m)))
      (one_count S k g h (rest s S t))

  -- the columns that have a one in row i
  pub one_wide : (S : List ℕ) (i : ℕ) → T (distinct (suc m) S) → count (suc m) (λ k. one_at (suc m) S i k) ≡ length S
  one_wide [] i t = count_none (suc m) (λ k. false) (λ k l. refl)
  one_wide (s ∷ S) i t =
      count_apart (suc m) (λ k. eqb k ((i + s) % suc m) && true) (λ k. one_at (suc m) S i k) (λ k. one_at (suc m) (s ∷ S) i k)
      (λ k l. ap tally (sym (and-true (one_at (suc m) (s ∷ S) i k)))
      ∙ tally_apart (eqb ((i + s) % suc m) k) (one_at (suc m) S i k) true (λ e.
      ap (one_at (suc m) S i) (sym (eqb→eq ((i + s) % suc m) k (subst T (sym e) tt))) ∙ one_elsewhere S i s (low s S t) (alone s S t))
      ∙ ap₂ (λ a b. tally (a && true) + tally b) (eqb_iff ((i + s) % suc m) k k ((i + s) % suc m) sym sym)
      (and-true (one_at (suc m) S i k)))
      ∙ ap₂ (λ a b. a + b) (count_pick (suc m) ((i + s) % suc m) (λ k. true) (mod-lt (i + s) (zero-lt-suc m))) (one_wide S i (rest s S t))
      ∙ one-add (length S)

pub sum-add : (a b : ℕ) (f : ℕ → Bool) → sum (a + b) f ≡ sum a f ⊕ sum b (λ i. f (a + i))
unfolding sum
sum-add a zero f = ap (λ z. sum z f) (add-zero a) ∙ sym (⊕-false (sum a f))
sum-add a (suc b) f = ap (λ z. sum z f) (add-suc a b) ∙ ap (λ z. z ⊕ f (a + b)) (sum-add a b f)
    ∙ ⊕-assoc (sum a f) (sum b (λ i. f (a + i))) (f (a + b))

pub sum_blocks : (J M : ℕ) (f : ℕ → Bool) → sum (J * M) f ≡ sum J (λ j. sum M (λ t. f (j * M + t)))
unfolding sum
sum_blocks zero M f = ap (λ z. sum z f) (zero-mul M)
sum_blocks (suc J) M f = ap (λ z. sum z f) (suc-mul J M) ∙ sum-add (J * M) M f ∙ ap (λ z. z ⊕ sum M (λ t. f (J * M + t))) (sum_blocks J M f)

-- ---- a code with these tables; the other fields are as they may be

-- M is m + 1
abbrev pub with_tables : ℕ → ℕ → ℕ → ℕ → List (List (List ℕ)) → List (List ℕ) → ℕ → Code
with_tables octets_of_word octets_of_information unsent m H gs printed = record {
  octets_of_word = octets_of_word;
  octets_of_information = octets_of_information;
  unsent = unsent;
  size = suc m;
  parity = H;
  generator = gs;
  printed = printed;
}

module _ (octets_of_word octets_of_information unsent m : ℕ) (H : List (List (List ℕ))) (gs : List (List ℕ)) (printed B : ℕ)
    (shape : T (shaped (suc m) B H)) where
  abbrev c : Code
  c = with_tables octets_of_word octets_of_information unsent m H gs printed

  row_of : (k : ℕ) → k < length H * suc m → k / suc m < length H
  row_of k h = (div-lt_iff_lt-mul (zero-lt-suc m)).1 h

  -- a check, by the shifts of its row
  pub check_in_lem : (x : Word) (k : ℕ) → k < checks c
      → check c x k ≡ check_in (suc m) (get_or H (k / suc m) []) (blk (suc m) x) (k % suc m)
  unfolding check
  check_in_lem x k h =
      let row = get_or H (k / suc m) [] in
      let here : Row (suc m) B (get_or H (k / suc m) []) = shaped_at (suc m) B H shape (k / suc m) (row_of k h) in
      let first : Row (suc m) B (get_or H 0 []) = shaped_at (suc m) B H shape 0 (lt_of_le_of_lt zero-le (row_of k h)) in
      ap (λ z. sum (z * suc m) (λ n. covers c k n && x n)) first.long
      ∙ sum_blocks B (suc m) (λ n. covers c k n && x n)
      ∙ sum_same B _ (λ b. over (get_or (get_or H (k / suc m) []) b []) (λ s. blk (suc m) x (0 + b) ((k % suc m + s) % suc m))) (λ b l.
      sum_same (suc m) _ (λ t. one_at (suc m) (get_or (get_or H (k / suc m) []) b []) (k % suc m) t && x (b * suc m + t)) (λ t l'.
      ap₂ (λ q r. one_at (suc m) (get_or (get_or H (k / suc m) []) q []) (k % suc m) r && x (b * suc m + t)) (digits_div b l')
      (digits_mod b l'))
      ∙ one_sum m (get_or (get_or H (k / suc m) []) b []) (k % suc m) (λ t. x (b * suc m + t)) (here.apart b l)
      ∙ ap (λ z. over (get_or (get_or H (k / suc m) []) b []) (λ s. x (z * suc m + (k % suc m + s) % suc m))) (sym (zero-add b)))
      ∙ ap (λ z. sum z (λ b. over (get_or (get_or H (k / suc m) []) b []) (λ s. blk (suc m) x (0 + b) ((k % suc m + s) % suc m))))
      (sym here.long)
      ∙ sym (blocks_sum (get_or H (k / suc m) []) 0 (λ b s. blk (suc m) x b ((k % suc m + s) % suc m)))

  -- what holds of the checks of a bit, by the shifts of its block
  pub cover_rows : (G : List (List ℕ) → ℕ → Bool) (n : ℕ) → n < B * suc m
      → count (checks c) (λ k. covers c k n && G (get_or H (k / suc m) []) (k % suc m))
      ≡ each H (λ row. count_of (get_or row (n / suc m) []) (λ s. G row ((n % suc m + (suc m - s)) % suc m)))
  cover_rows G n h =
      count_rows m H [] (λ row i. one_at (suc m) (get_or row (n / suc m) []) i (n % suc m) && G row i) ∙ go H shape
    where
      go : (H : List (List (List ℕ))) → T (shaped (suc m) B H)
          → each H (λ row. count (suc m) (λ i. one_at (suc m) (get_or row (n / suc m) []) i (n % suc m) && G row i))
          ≡ each H (λ row. count_of (get_or row (n / suc m) []) (λ s. G row ((n % suc m + (suc m - s)) % suc m)))
      go [] t = refl
      go (row ∷ H) t =
          ap₂ (λ a b. a + b)
          (one_count m (get_or row (n / suc m) []) (n % suc m) (G row) (mod-lt n (zero-lt-suc m))
          ((row_shaped (suc m) B row (and_l (eqb (length row) B && below B (λ b. distinct (suc m) (get_or row b [])))
          (shaped (suc m) B H) t)).apart (n / suc m) ((div-lt_iff_lt-mul (zero-lt-suc m)).1 h)))
          (go H (and_r (eqb (length row) B && below B (λ b. distinct (suc m) (get_or row b []))) (shaped (suc m) B H) t))

  pub broken_in_lem : (x : Word) (n : ℕ) → n < B * suc m → count (checks c) (λ k. covers c k n && check c x k) ≡ broken_in (suc m) H
      (blk (suc m) x) (n / suc m) (n % suc m)
  broken_in_lem x n h =
      count_same (checks c) _ (λ k. covers c k n && check_in (suc m) (get_or H (k / suc m) []) (blk (suc m) x) (k % suc m))
      (λ k l. ap (λ z. covers c k n && z) (check_in_lem x k l))
      ∙ cover_rows (λ row. check_in (suc m) row (blk (suc m) x)) n h

  pub degree_in : (n : ℕ) → n < B * suc m → count (checks c) (λ k. covers c k n) ≡ degree H (n / suc m)
  degree_in n h = count_same (checks c) _ (λ k. covers c k n && true) (λ k l. sym (and-true (covers c k n)))
      ∙ cover_rows (λ row i. true) n h ∙ go H
    where
      go : (H : List (List (List ℕ))) → each H (λ row. count_of (get_or row (n / suc m) []) (λ s. true)) ≡ each H
          (λ row. length (get_or row (n / suc m) []))
      go [] = refl
      go (row ∷ H) = ap₂ (λ a b. a + b) (count_all (get_or row (n / suc m) [])) (go H)

  -- how many bits a check covers, by the entries of its row
  pub check_wide : (k : ℕ) → k < checks c → count (bits c) (λ n. covers c k n) ≡ each (get_or H (k / suc m) []) length
  check_wide k h =
      let first : Row (suc m) B (get_or H 0 []) = shaped_at (suc m) B H shape 0 (lt_of_le_of_lt zero-le (row_of k h)) in
      let here : Row (suc m) B (get_or H (k / suc m) []) = shaped_at (suc m) B H shape (k / suc m) (row_of k h) in
      ap (λ z. count (z * suc m) (λ n. covers c k n)) (first.long ∙ sym here.long)
      ∙ count_rows m (get_or H (k / suc m) []) [] (λ S. one_at (suc m) S (k % suc m))
      ∙ go (get_or H (k / suc m) []) (λ b l. here.apart b (subst (λ z. b < z) here.long l))
    where
      go : (row : List (List ℕ)) → ((b : ℕ) → b < length row → T (distinct (suc m) (get_or row b [])))
          → each row (λ S. count (suc m) (one_at (suc m) S (k % suc m))) ≡ each row length
      go [] t = refl
      go (S ∷ row) t = ap₂ (λ a b. a + b) (one_wide m S (k % suc m) (t 0 (zero-lt-suc (length row))))
          (go row (λ b l. t (suc b) (suc-le-suc l)))
