-- A flat table that has a code's shifts block by block is the code's parity table, lent. Said once over M.
use mathlib.Core.Path.{◌≡◌, refl, sym, ap, ap₂, ◌∙◌, fun_ext, subst}
use mathlib.Core.Bool.{Bool, true, false, not, ◌&&◌}
use mathlib.Core.List.{List, [], ◌∷◌}
use Prim.Native.Nat.{ℕ, zero, suc, ◌+◌, ◌-◌, ◌*◌, ◌/◌, ◌%◌, ◌<◌}
use native.Mathlib.Nat.{zero-lt-suc, not-suc-le-zero, le_of_suc-le-suc, mod-lt, zero-add, add-zero, add_assoc, le_step, lt-suc_self}
use native.Mathlib.Nat.{le_trans, le_of_eq}
use lib.Arith.{digits_div, digits_mod, digits_lt}
use lib.Dec.{T, eqb, leb, ltb, eqb→eq, leb→le, ltb→lt}
use lib.ListN.{length, get_or}
use Rattle.bits.specs.Bits.{Word, ◌⊕◌, sum, flipped, below, over, count_of}
use Rattle.rules.specs.Codes.{Code, bits}
use Rattle.rules.specs.Checks.{one_at, check, broken_of, degree_of}
use Rattle.bits.proofs.Sums.{and_l, and_r, below_at, sum_same, pick, blocks_sum}
use Rattle.bits.proofs.Counting.{each}
use Rattle.rules.proofs.Blocks.{blk, check_in, broken_in, degree, distinct, shaped, Row, shaped_at, at_shift, one_sum, with_tables}
use Rattle.rules.proofs.Blocks.{check_in_lem}
use Rattle.rules.proofs.Blocks.{broken_in_lem, degree_in}
use Rattle.rules.proofs.Flips.{check_flip}
use Rattle.layout.specs.declared.Shape.{Shape}
use Rattle.layout.specs.Lent.{shifts_of, total, Lent}

-- ---- the test

abbrev pub same_list : List ℕ → List ℕ → Bool
same_list [] [] = true
same_list [] (b ∷ ys) = false
same_list (a ∷ xs) [] = false
same_list (a ∷ xs) (b ∷ ys) = eqb a b && same_list xs ys

pub same_list_lem : (xs ys : List ℕ) → T (same_list xs ys) → xs ≡ ys
same_list_lem [] [] t = refl
same_list_lem [] (b ∷ ys) t = absurd t
same_list_lem (a ∷ xs) [] t = absurd t
same_list_lem (a ∷ xs) (b ∷ ys) t = ap₂ (λ z zs. z ∷ zs) (eqb→eq a b (and_l (eqb a b) (same_list xs ys) t))
    (same_list_lem xs ys (and_r (eqb a b) (same_list xs ys) t))

-- M, words and blocks are given; the rows are the table's
abbrev pub shape_of : ℕ → ℕ → ℕ → List (List (List ℕ)) → Shape
shape_of m words B H = record { size = suc m; words = words; blocks = B; rows = length H }

abbrev pub same_table : ℕ → ℕ → ℕ → List (List (List ℕ)) → List ℕ → Bool
same_table m words B H h = below (length H)
    (λ r. below B (λ b. same_list (shifts_of (shape_of m words B H) h r b) (get_or (get_or H r []) b [])))

-- what is read does not depend on what stands past the end
pub read_any : (h : List ℕ) (n d e : ℕ) → n < length h → get_or h n d ≡ get_or h n e
read_any [] n d e l = absurd (not-suc-le-zero l)
read_any (v ∷ h) zero d e l = refl
read_any (v ∷ h) (suc n) d e l = read_any h n d e (le_of_suc-le-suc l)

-- ---- totals

pub total_same : (n : ℕ) (f g : ℕ → ℕ) → ((i : ℕ) → i < n → f i ≡ g i) → total n f ≡ total n g
unfolding total
total_same zero f g h = refl
total_same (suc n) f g h = ap₂ (λ a b. a + b) (total_same n f g (λ i l. h i (le_step l))) (h n (lt-suc_self n))

total_front : (n : ℕ) (f : ℕ → ℕ) → total (suc n) f ≡ f 0 + total n (λ i. f (suc i))
unfolding total
total_front zero f = zero-add (f 0) ∙ sym (add-zero (f 0))
total_front (suc n) f = ap (λ z. z + f (suc n)) (total_front n f) ∙ add_assoc (f 0) (total n (λ i. f (suc i))) (f (suc n))

each_total : (H : List (List (List ℕ))) (g : List (List ℕ) → ℕ) → each H g ≡ total (length H) (λ r. g (get_or H r []))
unfolding total
each_total [] g = refl
each_total (row ∷ H) g = ap (λ z. g row + z) (each_total H g) ∙ sym (total_front (length H) (λ r. g (get_or (row ∷ H) r [])))

-- sums over shifts, which are below M
over_low : (M : ℕ) (S : List ℕ) (f g : ℕ → Bool) → T (distinct M S) → ((s : ℕ) → s < M → f s ≡ g s) → over S f ≡ over S g
over_low M [] f g t h = refl
over_low M (s ∷ S) f g t h =
    ap₂ (λ a b. a ⊕ b) (h s (ltb→lt s M (and_l (ltb s M) (not (one_at M S 0 s) && distinct M S) t)))
    (over_low M S f g (and_r (not (one_at M S 0 s)) (distinct M S) (and_r (ltb s M) (not (one_at M S 0 s) && distinct M S) t)) h)

module _ (octets_of_word octets_of_information unsent m : ℕ) (H : List (List (List ℕ))) (gs : List (List ℕ)) (printed B words : ℕ)
    (h : List ℕ)
    (shape : T (shaped (suc m) B H)) (wide : length (get_or H 0 []) ≡ B) (same : T (same_table m words B H h))
    (low : T (below B (λ b. leb (degree H b) 6))) where
  abbrev c : Code
  c = with_tables octets_of_word octets_of_information unsent m H gs printed

  abbrev sh : Shape
  sh = shape_of m words B H

  lent_block : (r b : ℕ) → r < length H → b < B → get_or (get_or H r []) b [] ≡ shifts_of sh h r b
  lent_block r b hr hb =
      sym (same_list_lem (shifts_of sh h r b) (get_or (get_or H r []) b [])
      (below_at B (λ b. same_list (shifts_of sh h r b) (get_or (get_or H r []) b []))
      (below_at (length H) (λ r. below B (λ b. same_list (shifts_of sh h r b) (get_or (get_or H r []) b []))) same r hr) b hb))

  row_at : (r : ℕ) → r < length H → Row (suc m) B (get_or H r [])
  row_at = shaped_at (suc m) B H shape

  in_row : (x : Word) (r i : ℕ) → r < length H → i < suc m → check c x (r * suc m + i) ≡ check_in (suc m) (get_or H r []) (blk (suc m) x) i
  in_row x r i hr hi =
      check_in_lem octets_of_word octets_of_information unsent m H gs printed B shape x (r * suc m + i) (digits_lt hr hi)
      ∙ ap₂ (λ q k. check_in (suc m) (get_or H q []) (blk (suc m) x) k) (digits_div r hi) (digits_mod r hi)

  lent_check : (x : Word) (r i : ℕ) → r < length H → i < suc m
      → check c x (r * suc m + i) ≡ sum B (λ b. over (shifts_of sh h r b) (λ s. x (b * suc m + (i + s) % suc m)))
  lent_check x r i hr hi =
      in_row x r i hr hi ∙ blocks_sum (get_or H r []) 0 (λ b s. x (b * suc m + (i + s) % suc m))
      ∙ ap (λ z. sum z (λ b. over (get_or (get_or H r []) b []) (λ s. x ((0 + b) * suc m + (i + s) % suc m)))) (row_at r hr).long
      ∙ sum_same B _ _ (λ b l.
      ap (λ z. over (get_or (get_or H r []) b []) (λ s. x (z * suc m + (i + s) % suc m))) (zero-add b)
      ∙ ap (λ S. over S (λ s. x (b * suc m + (i + s) % suc m))) (lent_block r b hr l))

  one_over : (r b i k : ℕ) → r < length H → b < B → i < suc m → k < suc m
      → one_at (suc m) (get_or (get_or H r []) b []) i k ≡ over (shifts_of sh h r b) (λ s. eqb i ((k + (suc m - s)) % suc m))
  one_over r b i k hr hb hi hk =
      let S : List ℕ = get_or (get_or H r []) b [] in
      sym (pick (suc m) k (one_at (suc m) (get_or (get_or H r []) b []) i) hk)
      ∙ one_sum m (get_or (get_or H r []) b []) i (λ t. eqb t k) ((row_at r hr).apart b hb)
      ∙ over_low (suc m) (get_or (get_or H r []) b []) (λ s. eqb ((i + s) % suc m) k) (λ s. eqb i ((k + (suc m - s)) % suc m))
      ((row_at r hr).apart b hb) (λ s l. at_shift m k s i hk l hi)
      ∙ ap (λ S. over S (λ s. eqb i ((k + (suc m - s)) % suc m))) (lent_block r b hr hb)

  bit_lt : (b k : ℕ) → b < B → k < suc m → b * suc m + k < bits c
  bit_lt b k hb hk = subst (λ z. b * suc m + k < z * suc m) (sym wide) (digits_lt hb hk)

  lent_flip : (x : Word) (b k r i : ℕ) → b < B → k < suc m → r < length H → i < suc m
      → check c (flipped x (b * suc m + k)) (r * suc m + i) ≡ check c x (r * suc m + i) ⊕ over (shifts_of sh h r b)
      (λ s. eqb i ((k + (suc m - s)) % suc m))
  lent_flip x b k r i hb hk hr hi =
      check_flip c x (b * suc m + k) (bit_lt b k hb hk) (r * suc m + i)
      ∙ ap (λ z. check c x (r * suc m + i) ⊕ z)
      (ap₂ (λ q j. one_at (suc m) (get_or (get_or H q []) ((b * suc m + k) / suc m) []) j ((b * suc m + k) % suc m)) (digits_div r hi)
      (digits_mod r hi)
      ∙ ap₂ (λ q j. one_at (suc m) (get_or (get_or H r []) q []) i j) (digits_div b hk) (digits_mod b hk)
      ∙ one_over r b i k hr hb hi hk)

  lent_broken : (x : Word) (b k : ℕ) → b < B → k < suc m
      → broken_of c x (b * suc m + k) ≡ total (length H)
      (λ r. count_of (shifts_of sh h r b) (λ s. check c x (r * suc m + (k + (suc m - s)) % suc m)))
  unfolding broken_of
  lent_broken x b k hb hk =
      broken_in_lem octets_of_word octets_of_information unsent m H gs printed B shape x (b * suc m + k) (digits_lt hb hk)
      ∙ ap₂ (λ q j. broken_in (suc m) H (blk (suc m) x) q j) (digits_div b hk) (digits_mod b hk)
      ∙ each_total H (λ row. count_of (get_or row b []) (λ s. check_in (suc m) row (blk (suc m) x) ((k + (suc m - s)) % suc m)))
      ∙ total_same (length H) _ _ (λ r hr.
      ap (count_of (get_or (get_or H r []) b []))
      (fun_ext (λ s. sym (in_row x r ((k + (suc m - s)) % suc m) hr (mod-lt (k + (suc m - s)) (zero-lt-suc m)))))
      ∙ ap (λ S. count_of S (λ s. check c x (r * suc m + (k + (suc m - s)) % suc m))) (lent_block r b hr hb))

  lent_total : (b : ℕ) → b < B → degree H b ≡ total (length H) (λ r. length (shifts_of sh h r b))
  lent_total b hb = each_total H (λ row. length (get_or row b [])) ∙ total_same (length H) _ _ (λ r hr. ap length (lent_block r b hr hb))

  lent_degree : (b k : ℕ) → b < B → k < suc m → degree_of c (b * suc m + k) ≡ total (length H) (λ r. length (shifts_of sh h r b))
  unfolding degree_of
  lent_degree b k hb hk =
      degree_in octets_of_word octets_of_information unsent m H gs printed B shape (b * suc m + k) (digits_lt hb hk)
      ∙ ap (degree H) (digits_div b hk) ∙ lent_total b hb

  pub lent : Lent c h sh
  lent = record {
    size = refl;
    bits_are = ap (λ z. z * suc m) wide;
    checks_are = refl;
    check_by = lent_check;
    flip_by = lent_flip;
    broken_by = lent_broken;
    degree_by = lent_degree;
    few = λ b hb. le_trans (le_of_eq (sym (lent_total b hb))) (leb→le (degree H b) 6 (below_at B (λ b. leb (degree H b) 6) low b hb));
  }
