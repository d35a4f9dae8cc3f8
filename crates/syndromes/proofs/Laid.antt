-- The syndrome as it is held: how it is made, counted, and changed by a flip. Assumes nothing.
use mathlib.Core.Path.{◌≡◌, refl, sym, ap, ap₂, ◌∙◌, fun_ext}
use mathlib.Core.Bool.{Bool, false, not, and-false}
use mathlib.Core.Logic.{⊎_elim}
use mathlib.Core.List.{List}
use Prim.Native.Nat.{ℕ, zero, suc, ◌+◌, ◌-◌, ◌*◌, ◌/◌, ◌%◌, ◌≤◌, ◌<◌}
use native.Mathlib.Nat.{mod-lt, mul_comm, zero-mul, suc-mul, add-zero}
use native.Mathlib.Numerals.{add-one}
use native.Mathlib.Omega.{arith}
use lib.Dec.{eqb, ltb}
use lib.Arith.{digits_div, digits_mod}
use borrow.Author.Tests.{lt-ltb, le-ltb, eq-eqb, ne_eqb}
use Rattle.bits.specs.Bits.{Word, ◌⊕◌, sum, count, flipped, over}
use Rattle.rules.specs.Codes.{Code}
use Rattle.rules.specs.Checks.{check, broken}
use Rattle.bits.proofs.Sums.{over_linear, sum_same}
use Rattle.bits.proofs.Counting.{count_same, count_none, count_add}
use Rattle.vectors.specs.Vectors.{up_to}
use Rattle.bits.proofs.Orders.{le-or-lt}
use Rattle.vectors.proofs.Cells.{low}
use Rattle.vectors.proofs.Counts.{count_up_to}
use Rattle.vectors.proofs.Spans.{up_to_below, up_to_above}
use Rattle.layout.specs.Lent.{Fit, Lent, laid, shifts_of, place_of}
use Rattle.layout.specs.declared.Shape.{Shape}
use Rattle.syndromes.specs.Rows.{plus, rowed, wide, spread, doubled, turned, summed, covering}
use Rattle.syndromes.proofs.Bounds.{wide_some}
use Rattle.syndromes.proofs.Rowwise.{rowed_inside, rowed_past, rowed_plus, rowed_same}
use Rattle.syndromes.proofs.Shifts.{over_same, turned_is}

-- check i of row r
abbrev pub check_of : Code → Shape → Word → ℕ → Word
check_of c sh x r i = check c x (r * sh.size + i)

pub laid_rows : (c : Code) (sh : Shape) (x : Word) → laid c sh x ≡ rowed (wide sh) sh.rows (λ r. up_to sh.size (check_of c sh x r))
unfolding laid rowed
laid_rows c sh x = refl

module _ (h : List ℕ) (sh : Shape) (fit : Fit h sh) where
  some : 0 < wide sh
  some = wide_some h sh fit

  pub summed_none : (x : Word) → (λ n. false) ≡ rowed (wide sh) sh.rows (summed sh h x 0)
  unfolding rowed sum
  summed_none x = fun_ext (λ n. sym (and-false (ltb (n / wide sh) sh.rows)))

  -- one block more
  pub summed_more : (x : Word) (k : ℕ)
      → plus (rowed (wide sh) sh.rows (summed sh h x k)) (rowed (wide sh) sh.rows (spread sh h k (turned (doubled sh.size x k))))
      ≡ rowed (wide sh) sh.rows (summed sh h x (k + 1))
  unfolding sum
  summed_more x k =
      rowed_plus (wide sh) some sh.rows (summed sh h x k) (spread sh h k (turned (doubled sh.size x k)))
      ∙ ap (λ (n : ℕ). rowed (wide sh) sh.rows (summed sh h x n)) (sym (add-one k))

  module _ (c : Code) (lent : Lent c h sh) where
    -- all blocks, and only the first M bits of each row
    pub laid_summed : (x : Word) → rowed (wide sh) sh.rows (λ r. up_to sh.size (summed sh h x sh.blocks r)) ≡ laid c sh x
    laid_summed x =
        rowed_same (wide sh) some sh.rows (λ r. up_to sh.size (summed sh h x sh.blocks r))
        (λ r. up_to sh.size (check_of c sh x r)) same
        ∙ sym (laid_rows c sh x)
      where
        block : (r i b : ℕ) → i < sh.size → spread sh h b (turned (doubled sh.size x b)) r i ≡ over (shifts_of sh h r b)
            (λ s. x (b * sh.size + (i + s) % sh.size))
        block r i b l = over_same sh.size h (place_of sh r b) (λ s. turned (doubled sh.size x b) s i)
            (λ s. x (b * sh.size + (i + s) % sh.size)) (λ s hs. turned_is sh.size x b s i hs l)

        same : (r i : ℕ) → r < sh.rows → i < wide sh → up_to sh.size (summed sh h x sh.blocks r) i ≡ up_to sh.size
            (check_of c sh x r) i
        same r i hr hi =
            ⊎_elim
            (λ (l : sh.size ≤ i). up_to_above sh.size i (summed sh h x sh.blocks r) l
            ∙ sym (up_to_above sh.size i (check_of c sh x r) l))
            (λ (l : i < sh.size).
            up_to_below sh.size i (summed sh h x sh.blocks r) l
            ∙ sum_same sh.blocks (λ b. spread sh h b (turned (doubled sh.size x b)) r i)
            (λ b. over (shifts_of sh h r b) (λ s. x (b * sh.size + (i + s) % sh.size))) (λ b hb. block r i b l)
            ∙ sym (lent.check_by x r i hr l)
            ∙ sym (up_to_below sh.size i (check_of c sh x r) l))
            (le-or-lt sh.size i)

    -- the checks of one bit flipped
    pub laid_flipped : (x : Word) (b k : ℕ) → b < sh.blocks → k < sh.size
        → plus (laid c sh x) (rowed (wide sh) sh.rows (spread sh h b (covering sh.size k))) ≡ laid c sh (flipped x (b * sh.size + k))
    laid_flipped x b k hb hk =
        ap (λ (z : Word). plus z (rowed (wide sh) sh.rows g)) (laid_rows c sh x)
        ∙ rowed_plus (wide sh) some sh.rows (λ r. up_to sh.size (check_of c sh x r)) g
        ∙ rowed_same (wide sh) some sh.rows (λ r. plus (up_to sh.size (check_of c sh x r)) (g r))
        (λ r. up_to sh.size (check_of c sh y r)) same
        ∙ sym (laid_rows c sh y)
      where
        y : Word
        y = flipped x (b * sh.size + k)

        g : ℕ → Word
        g = spread sh h b (covering sh.size k)

        none : (r i : ℕ) → sh.size ≤ i → g r i ≡ false
        none r i l =
            over_same sh.size h (place_of sh r b) (λ s. covering sh.size k s i) (λ s. false)
            (λ s hs. ne_eqb i ((k + (sh.size - s)) % sh.size) (λ e. omega (arith, mod-lt (k + (sh.size - s)) fit.some)))
            ∙ (over_linear (shifts_of sh h r b)).none

        same : (r i : ℕ) → r < sh.rows → i < wide sh → plus (up_to sh.size (check_of c sh x r)) (g r) i ≡ up_to sh.size
            (check_of c sh y r) i
        same r i hr hi =
            ⊎_elim
            (λ (l : sh.size ≤ i). ap₂ ◌⊕◌ (up_to_above sh.size i (check_of c sh x r) l) (none r i l)
            ∙ sym (up_to_above sh.size i (check_of c sh y r) l))
            (λ (l : i < sh.size).
            ap (λ (p : Bool). p ⊕ g r i) (up_to_below sh.size i (check_of c sh x r) l)
            ∙ sym (lent.flip_by x b k r i hb hk hr l)
            ∙ sym (up_to_below sh.size i (check_of c sh y r) l))
            (le-or-lt sh.size i)

-- ---- counted

module _ (w m K : ℕ) (some : 0 < w) (held : m ≤ w) (g : Word) where
  abbrev rows : ℕ → Word
  rows r = up_to m (λ i. g (r * m + i))

  count_rows : (k : ℕ) → k ≤ K → count (k * w) (rowed w K rows) ≡ count (k * m) g
  unfolding count
  count_rows zero h = ap (λ (n : ℕ). count n (rowed w K rows)) (zero-mul w) ∙ sym (ap (λ (n : ℕ). count n g) (zero-mul m))
  count_rows (suc k) h =
      ap (λ (n : ℕ). count n (rowed w K rows)) (suc-mul k w)
      ∙ count_add (k * w) w (rowed w K rows)
      ∙ ap₂ ◌+◌ (count_rows k (omega arith)) (count_same w (λ i. rowed w K rows (k * w + i)) (rows k) row
      ∙ count_up_to m w (λ i. g (k * m + i)) held)
      ∙ sym (count_add (k * m) m g)
      ∙ sym (ap (λ (n : ℕ). count n g) (suc-mul k m))
    where
      row : (i : ℕ) → i < w → rowed w K rows (k * w + i) ≡ rows k i
      row i hi =
          let e : (k * w + i) / w ≡ k = digits_div k hi in
          rowed_inside w some K rows (k * w + i) (omega arith) ∙ ap₂ rows e (digits_mod k hi)

  pub count_rowed : (n : ℕ) → K * w ≤ n → count n (rowed w K rows) ≡ count (K * m) g
  count_rowed n h =
      let e : n ≡ K * w + (n - K * w) = omega arith in
      ap (λ (z : ℕ). count z (rowed w K rows)) e
      ∙ count_add (K * w) (n - K * w) (rowed w K rows)
      ∙ ap₂ ◌+◌ (count_rows K (omega arith)) (count_none (n - K * w) (λ i. rowed w K rows (K * w + i)) past)
      ∙ add-zero (count (K * m) g)
    where
      past : (i : ℕ) → i < n - K * w → rowed w K rows (K * w + i) ≡ false
      past i l =
          rowed_past w some K rows (K * w + i)
          (⊎_elim (λ k. k) (λ k. absurd (omega (arith, low w some (K * w + i) K k, mul_comm w K))) (le-or-lt K ((K * w + i) / w)))

pub laid_count : (h : List ℕ) (sh : Shape) → Fit h sh → (c : Code) → Lent c h sh → (x : Word) (n : ℕ) → 1024 ≤ n
    → count n (laid c sh x) ≡ broken c x
unfolding broken
laid_count h sh fit c lent x n long =
    ap (count n) (laid_rows c sh x)
    ∙ count_rowed (wide sh) sh.size sh.rows (wide_some h sh fit) fit.held (check c x) n (omega (arith, fit.room))
    ∙ ap (λ (z : ℕ). count z (check c x)) (sym lent.checks_are)

pub none_test : (n : ℕ) → not (ltb 0 n) ≡ eqb n 0
none_test n =
    ⊎_elim
    (λ (l : 1 ≤ n). ap not (lt-ltb 0 n l) ∙ sym (ne_eqb n 0 (λ e. omega arith)))
    (λ (l : n < 1). ap not (le-ltb 0 n (omega arith)) ∙ sym (eq-eqb n 0 (omega arith)))
    (le-or-lt 1 n)
