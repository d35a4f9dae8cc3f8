-- Information, and the walk of its checks as parity: such a word meets every check. Said once over M.
use mathlib.Core.Path.{◌≡◌, refl, sym, ap, ap₂, ◌∙◌, fun_ext, subst}
use mathlib.Core.Bool.{Bool, true, false, not, ◌&&◌, and-false}
use mathlib.Core.List.{List, [], ◌∷◌}
use Prim.Native.Nat.{ℕ, suc, ◌+◌, ◌-◌, ◌*◌, ◌/◌, ◌%◌, ◌≤◌, ◌<◌}
use native.Mathlib.Nat.{zero-lt-suc, mod-lt, mod-eq_of_lt, add-zero, zero-add, add_comm, add-mul, add_assoc, div-add-mod'}
use native.Mathlib.Nat.{div-lt_iff_lt-mul}
use native.Mathlib.Omega.{arith}
use lib.Arith.{digits_div, digits_mod, digits_lt}
use lib.Dec.{T, eqb, ltb, ltb→lt}
use lib.ListN.{length, get_or}
use borrow.Author.Tests.{lt-ltb, le-ltb}
use Rattle.bits.specs.Bits.{Word, ◌⊕◌, sum, below, over, blocks}
use Rattle.rules.specs.Codes.{Code, bits, checks, information}
use Rattle.rules.specs.Checks.{one_at, covers, check, broken}
use Rattle.rules.specs.Encoding.{parity_bit, OwnParity}
use Rattle.bits.proofs.Sums.{⊕-false, ⊕-self, and-⊕, into, swap, sum_linear, blocks_linear, blocks', sum_same, sum_none, turn, blocks_sum}
use Rattle.bits.proofs.Sums.{and_l, and_r, below_at}
use Rattle.bits.proofs.Cyclic.{undo}
use Rattle.bits.proofs.Counting.{count_none}
use Rattle.rules.proofs.Blocks.{blk, check_in, distinct, shaped, Row, shaped_at, with_tables, check_in_lem, sum-add}
use Rattle.rules.proofs.Unique.{even, even_none}
use Rattle.rules.proofs.Codewords.{parity_same}
use Rattle.encoder.specs.steps.Steps.{rows_in, walked, check_rows}
use Rattle.encoder.proofs.steps.Walk.{weighted, weighted_rows, chosen, ⊕-and, and_right, walk_weighs, walk_even}
use Rattle.encoder.proofs.steps.Facts.{checked, alone, Solves, itself, others}

-- the ones of a block, and what they weigh
over_weighs : (m : ℕ) (S : List ℕ) (f : Word) → T (distinct (suc m) S) → sum (suc m) (λ k. over S (λ s. eqb k s) && f k) ≡ over S f
over_weighs m [] f t = (sum_linear (suc m)).none
over_weighs m (s ∷ S) f t =
    ap (sum (suc m)) (fun_ext (λ k. ⊕-and (eqb k s) (over S (λ s. eqb k s)) (f k)))
    ∙ (sum_linear (suc m)).plus (λ k. eqb k s && f k) (λ k. over S (λ s. eqb k s) && f k)
    ∙ ap₂ (λ a b. a ⊕ b)
    (chosen (suc m) s f (ltb→lt s (suc m) (and_l (ltb s (suc m)) (not (one_at (suc m) S 0 s) && distinct (suc m) S) t)))
    (over_weighs m S f (and_r (not (one_at (suc m) S 0 s)) (distinct (suc m) S)
    (and_r (ltb s (suc m)) (not (one_at (suc m) S 0 s) && distinct (suc m) S) t)))

not_and : (a b : Bool) → (not a && b) ≡ b ⊕ (a && b)
not_and true true = refl
not_and true false = refl
not_and false b = sym (⊕-false b)

module _ (m : ℕ) (v : Word) (i : ℕ) (h : i < suc m) where
  -- weighed by itself alone, a row is what it was
  pub by_itself : weighted (suc m) itself v i ≡ v i
  by_itself = chosen (suc m) 0 (λ k. v ((i + k) % suc m)) (zero-lt-suc m) ∙ ap v (ap (λ z. z % suc m) (add-zero i) ∙ mod-eq_of_lt h)

  -- and by all its other bits too, if it has an even number of ones
  pub by_others : sum (suc m) v ≡ false → weighted (suc m) others v i ≡ v i
  by_others even =
      ap (sum (suc m)) (fun_ext (λ k. not_and (eqb k 0) (v ((i + k) % suc m))))
      ∙ (sum_linear (suc m)).plus (λ k. v ((i + k) % suc m)) (λ k. eqb k 0 && v ((i + k) % suc m))
      ∙ ap₂ (λ a b. a ⊕ b) (ap (sum (suc m)) (fun_ext (λ k. ap (λ z. v (z % suc m)) (add_comm i k))) ∙ turn m i v ∙ even) by_itself

-- J information blocks and R = q + 1 parity blocks; parity block a ends in row (a + first) mod R
module _ (octets_of_word octets_of_information unsent m : ℕ) (H : List (List (List ℕ))) (gs : List (List ℕ)) (printed J q first : ℕ)
    (e : Word)
    (steps : List (List ℕ))
    (shape : T (shaped (suc m) (J + suc q) H)) (long : length H ≡ suc q) (informs : length gs ≡ J)
    (bounds : T (below 15 (λ k. rows_in (suc q) (get_or steps k []))))
    (facts : (r : ℕ) → r < suc q → Solves m q first J e H steps r) where
  abbrev c : Code
  c = with_tables octets_of_word octets_of_information unsent m H gs printed

  row_at : (r : ℕ) → r < suc q → Row (suc m) (J + suc q) (get_or H r [])
  row_at r h = shaped_at (suc m) (J + suc q) H shape r (subst (λ z. r < z) (sym long) h)

  -- a check, by the blocks of its row
  check_at : (x : Word) (r i : ℕ) → r < suc q → i < suc m → check c x (r * suc m + i) ≡ check_in (suc m) (get_or H r []) (blk (suc m) x) i
  check_at x r i hr hi =
      check_in_lem octets_of_word octets_of_information unsent m H gs printed (J + suc q) shape x (r * suc m + i)
      (digits_lt (subst (λ z. r < z) (sym long) hr) hi)
      ∙ ap₂ (λ a k. check_in (suc m) (get_or H a []) (blk (suc m) x) k) (digits_div r hi) (digits_mod r hi)

  check_plus : (x z : Word) (k : ℕ) → check c (λ n. x n ⊕ z n) k ≡ check c x k ⊕ check c z k
  unfolding check
  check_plus x z k =
      ap (sum (bits c)) (fun_ext (λ n. and-⊕ (covers c k n) (x n) (z n)))
      ∙ (sum_linear (bits c)).plus (λ n. covers c k n && x n) (λ n. covers c k n && z n)

  -- rows as parity blocks, zeros before them
  unfoldable pub placed : (ℕ → Word) → Word
  placed v n = not (ltb (n / suc m) J) && v ((n / suc m - J + first) % suc q) (n % suc m)

  pub placed-front : (v : ℕ → Word) (b k : ℕ) → b < J → k < suc m → placed v (b * suc m + k) ≡ false
  unfolding placed
  placed-front v b k hb hk =
      ap (λ z. not (ltb z J) && v (((b * suc m + k) / suc m - J + first) % suc q) ((b * suc m + k) % suc m)) (digits_div b hk)
      ∙ ap (λ z. not z && v (((b * suc m + k) / suc m - J + first) % suc q) ((b * suc m + k) % suc m)) (lt-ltb b J hb)

  pub placed_behind : (v : ℕ → Word) (a k : ℕ) → k < suc m → placed v ((J + a) * suc m + k) ≡ v ((a + first) % suc q) k
  unfolding placed
  placed_behind v a k hk =
      let same : J + a - J ≡ a = omega arith in
      ap₂ (λ z y. not (ltb z J) && v ((z - J + first) % suc q) y) (digits_div (J + a) hk) (digits_mod (J + a) hk)
      ∙ ap₂ (λ z y. not z && v ((y + first) % suc q) k) (le-ltb (J + a) J (omega arith)) same

  -- a check of placed rows, as weights of the rows
  placed_check : (v : ℕ → Word) (r i : ℕ) → r < suc q → i < suc m
      → check c (placed v) (r * suc m + i) ≡ weighted_rows (suc m) (suc q) (checked q first J (get_or H r [])) v i
  placed_check v r i hr hi =
      check_at (placed v) r i hr hi
      ∙ blocks_sum row 0 (λ b s. placed v (b * suc m + (i + s) % suc m))
      ∙ ap (λ z. sum z (λ b. over (get_or row b []) (λ s. placed v ((0 + b) * suc m + (i + s) % suc m)))) (row_at r hr).long
      ∙ sum-add J (suc q) (λ b. over (get_or row b []) (λ s. placed v ((0 + b) * suc m + (i + s) % suc m)))
      ∙ ap₂ (λ a b. a ⊕ b)
      (sum_none J _ (λ b l. ap (over (get_or row b [])) (fun_ext (λ s. ap (λ z. placed v (z * suc m + (i + s) % suc m)) (zero-add b)
      ∙ placed-front v b ((i + s) % suc m) l (mod-lt (i + s) (zero-lt-suc m)))) ∙ none (get_or row b [])))
      (sum_same (suc q) _ (λ a. ones ((a + first) % suc q)) each ∙ turn q first ones)
      ∙ sum_same (suc q) ones (λ j. weighted (suc m) (checked q first J row j) (v j) i) (λ j l.
      sym (over_weighs m (block j) (λ k. v j ((i + k) % suc m))
      ((row_at r hr).apart (J + (j + first * q) % suc q) (within (mod-lt (j + first * q) (zero-lt-suc q))))))
    where
      row : List (List ℕ)
      row = get_or H r []

      block : ℕ → List ℕ
      block j = get_or row (J + (j + first * q) % suc q) []

      ones : ℕ → Bool
      ones j = over (block j) (λ s. v j ((i + s) % suc m))

      within : {a : ℕ} → a < suc q → J + a < J + suc q
      within {a} l = omega arith

      none : (S : List ℕ) → over S (λ s. false) ≡ false
      none [] = refl
      none (s ∷ S) = none S

      each : (a : ℕ) → a < suc q → over (get_or row (J + a) []) (λ s. placed v ((0 + (J + a)) * suc m + (i + s) % suc m)) ≡ ones
          ((a + first) % suc q)
      each a l =
          ap (over (get_or row (J + a) [])) (fun_ext (λ s. ap (λ z. placed v (z * suc m + (i + s) % suc m)) (zero-add (J + a))
          ∙ placed_behind v a ((i + s) % suc m) (mod-lt (i + s) (zero-lt-suc m))))
          ∙ ap (λ z. over (get_or row (J + z) []) (λ s. v ((a + first) % suc q) ((i + s) % suc m))) (sym (undo q a first ∙ mod-eq_of_lt l))

  module _ (y : Word) (short : (n : ℕ) → J * suc m ≤ n → y n ≡ false)
      (weighs : (r i : ℕ) → r < suc q → i < suc m → weighted (suc m) e (check_rows c y r) i ≡ check_rows c y r i) where
    -- the rows at the end, and the word that has them as its parity
    abbrev pub ending : ℕ → Word
    ending = walked (suc m) steps 15 (check_rows c y)

    abbrev pub finished : Word
    finished n = y n ⊕ placed ending n

    check_none : (r i : ℕ) → r < suc q → i < suc m → check c finished (r * suc m + i) ≡ false
    check_none r i hr hi =
        check_plus y (placed ending) (r * suc m + i)
        ∙ ap (λ z. check c y (r * suc m + i) ⊕ z)
        (placed_check ending r i hr hi
        ∙ walk_weighs m (suc q) steps 15 bounds (checked q first J (get_or H r [])) (alone r e) (facts r hr) (check_rows c y) i
        ∙ ap (sum (suc q)) (fun_ext (λ x.
        ap (sum (suc m)) (fun_ext (λ k. and_right (eqb x r) (e k) (check_rows c y x ((i + k) % suc m))))
        ∙ into (sum (suc m)) (sum_linear (suc m)) (eqb x r) (λ k. e k && check_rows c y x ((i + k) % suc m))))
        ∙ chosen (suc q) r (λ x. weighted (suc m) e (check_rows c y x) i) hr
        ∙ weighs r i hr hi)
        ∙ ⊕-self (check c y (r * suc m + i))

    pub finished_met : broken c finished ≡ 0
    unfolding broken
    finished_met =
        count_none (checks c) (check c finished) (λ k l.
        ap (check c finished) (sym (div-add-mod' k (suc m)))
        ∙ check_none (k / suc m) (k % suc m) ((div-lt_iff_lt-mul (zero-lt-suc m)).1 (subst (λ z. k < z * suc m) long l))
        (mod-lt k (zero-lt-suc m)))

    finished_front : (n : ℕ) → n < information c → finished n ≡ y n
    finished_front n h =
        let hb : n / suc m < J = (div-lt_iff_lt-mul (zero-lt-suc m)).1 (subst (λ z. n < z * suc m) informs h) in
        ap (λ z. y n ⊕ z) (ap (placed ending) (sym (div-add-mod' n (suc m)))
        ∙ placed-front ending (n / suc m) (n % suc m) hb (mod-lt n (zero-lt-suc m))) ∙ ⊕-false (y n)

    finished_behind : (p : ℕ) → finished (information c + p) ≡ ending ((p / suc m + first) % suc q) (p % suc m)
    finished_behind p =
        ap finished (ap (λ z. z * suc m + p) informs ∙ ap (λ z. J * suc m + z) (sym (div-add-mod' p (suc m)))
        ∙ sym (ap (λ z. z + p % suc m) (add-mul J (p / suc m) (suc m)) ∙ add_assoc (J * suc m) (p / suc m * suc m) (p % suc m)))
        ∙ ap₂ (λ a b. a ⊕ b) (short ((J + p / suc m) * suc m + p % suc m) (omega (arith, add-mul J (p / suc m) (suc m))))
        (placed_behind ending (p / suc m) (p % suc m) (mod-lt p (zero-lt-suc m)))

    -- where the parity of that word is the encoder's up to f, so are the rows
    pub ending_parity : (f : Word) (p : ℕ) → finished (information c + p) ≡ parity_bit c finished p ⊕ f (p / suc m)
        → ending ((p / suc m + first) % suc q) (p % suc m) ≡ parity_bit c y p ⊕ f (p / suc m)
    ending_parity f p own = sym (finished_behind p) ∙ own ∙ ap (λ z. z ⊕ f (p / suc m)) (parity_same c finished y finished_front p)

    -- where every such word has the encoder's parity, the rows are that
    pub ending_own : ((x : Word) → broken c x ≡ 0 → OwnParity c x) → (p : ℕ) → p < bits c - information c
        → ending ((p / suc m + first) % suc q) (p % suc m) ≡ parity_bit c y p
    ending_own own p l = ending_parity (λ b. false) p (own finished finished_met p l ∙ sym (⊕-false (parity_bit c finished p)))
        ∙ ⊕-false (parity_bit c y p)

    -- where the rows are even, a block of that word has as many ones as before, modulo 2
    pub finished_odd : ((r : ℕ) → r < suc q → sum (suc m) (check_rows c y r) ≡ false) → (j : ℕ)
        → sum (suc m) (blk (suc m) finished j) ≡ sum (suc m) (blk (suc m) y j)
    unfolding placed
    finished_odd even j =
        (sum_linear (suc m)).plus (blk (suc m) y j) (blk (suc m) (placed ending) j)
        ∙ ap (λ z. sum (suc m) (blk (suc m) y j) ⊕ z)
        (sum_same (suc m) _ (λ k. not (ltb j J) && ending ((j - J + first) % suc q) k) (λ k l.
        ap₂ (λ a b. not (ltb a J) && ending ((a - J + first) % suc q) b) (digits_div j l) (digits_mod j l))
        ∙ into (sum (suc m)) (sum_linear (suc m)) (not (ltb j J)) (ending ((j - J + first) % suc q))
        ∙ ap (λ z. not (ltb j J) && z) (walk_even m (suc q) steps 15 (below_at 15 (λ k. rows_in (suc q) (get_or steps k [])) bounds)
        (check_rows c y) even ((j - J + first) % suc q) (mod-lt (j - J + first) (zero-lt-suc q)))
        ∙ and-false (not (ltb j J)))
        ∙ ⊕-false (sum (suc m) (blk (suc m) y j))

  -- the checks of a row whose blocks have even numbers of shifts are broken in even number
  pub checks_even : (x : Word) (r : ℕ) → r < suc q → T (even (get_or H r [])) → sum (suc m) (check_rows c x r) ≡ false
  checks_even x r h t =
      sum_same (suc m) _ (λ i. blocks' (get_or H r []) 0 (λ p. blk (suc m) x p.0 ((i + p.1) % suc m))) (λ i l. check_at x r i h l)
      ∙ sym (swap (blocks' (get_or H r []) 0) (blocks_linear (get_or H r []) 0) (suc m) (λ p i. blk (suc m) x p.0 ((i + p.1) % suc m)))
      ∙ ap (blocks (get_or H r []) 0) (fun_ext (λ b. fun_ext (λ s. turn m s (blk (suc m) x b))))
      ∙ even_none m printed (get_or H r []) 0 (λ b. sum (suc m) (blk (suc m) x b)) t
