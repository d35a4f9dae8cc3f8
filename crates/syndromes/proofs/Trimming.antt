-- Rows that keep only their first bits. Assumes nothing.
use mathlib.Core.Path.{◌≡◌, refl, sym, ap, ap₂, ◌∙◌, fun_ext}
use mathlib.Core.Bool.{Bool, true, false, not, ◌&&◌, ◌||◌}
use mathlib.Core.Logic.{◌⊎◌, inl, inr, ⊎_elim}
use mathlib.Core.List.{List}
use Prim.Native.Nat.{ℕ, ◌+◌, ◌-◌, ◌*◌, ◌/◌, ◌%◌, ◌≤◌, ◌<◌}
use native.Mathlib.Nat.{mod-lt, mul_comm}
use native.Mathlib.Omega.{arith}
use lib.Dec.{ltb}
use lib.ListN.{length, get_or, set}
use lib.Arith.{digits_div, digits_mod}
use borrow.Author.Tests.{lt-ltb, le-ltb}
use Rattle.bits.specs.Bits.{Word, digit}
use Rattle.vectors.specs.Vectors.{wbit, Holds, up_to}
use Rattle.bits.proofs.Orders.{le-or-lt, eq_or_not}
use Rattle.vectors.proofs.Cells.{joined_start, joined_end}
use Rattle.vectors.proofs.Filling.{word_holds, word_stored}
use Rattle.vectors.proofs.Spans.{up_to_below, up_to_above}
use Rattle.syndromes.specs.Rows.{rowed, within}
use Rattle.vectors.proofs.Cells.{split, low}
use Rattle.syndromes.proofs.Rowwise.{rowed_inside, rowed_past}

or-true : (p : Bool) → (p || true) ≡ true
or-true true = refl
or-true false = refl

module _ (w m k : ℕ) (x : Word) (n : ℕ) where
  -- a row that is not trimmed yet; a bit that is kept; one that is not
  pub within_open : k ≤ n / w → within w m k x n ≡ x n
  unfolding within
  within_open h = ap (λ (b : Bool). (not b || ltb (n % w) m) && x n) (le-ltb (n / w) k h)

  pub within_kept : n % w < m → within w m k x n ≡ x n
  unfolding within
  within_kept h = ap (λ (b : Bool). (not (ltb (n / w) k) || b) && x n) (lt-ltb (n % w) m h)
      ∙ ap (λ (b : Bool). b && x n) (or-true (not (ltb (n / w) k)))

  pub within_cut : n / w < k → m ≤ n % w → within w m k x n ≡ false
  unfolding within
  within_cut h l = ap₂ (λ (a b : Bool). (not a || b) && x n) (lt-ltb (n / w) k h) (le-ltb (n % w) m l)

module _ (w m : ℕ) (some : 0 < w) (x : Word) where
  pub within_none : x ≡ within w m 0 x
  within_none = fun_ext (λ n. sym (within_open w m 0 x n (omega arith)))

  -- rows that have no more bits than they keep
  pub within_full : (k : ℕ) → w ≤ m → within w m k x ≡ within w m (k + 1) x
  within_full k h =
      fun_ext
      (λ n.
      let l : n % w < m = omega (arith, mod-lt n some) in
      within_kept w m k x n l ∙ sym (within_kept w m (k + 1) x n l))

  -- the other rows stay as they are
  within_other : (k n : ℕ) → (n / w ≡ k → ⊥) → within w m k x n ≡ within w m (k + 1) x n
  within_other k n d =
      ⊎_elim
      (λ (h : k ≤ n / w). within_open w m k x n h ∙ sym (within_open w m (k + 1) x n (omega (arith, d))))
      (λ (h : n / w < k).
      ⊎_elim
      (λ (l : m ≤ n % w). within_cut w m k x n h l ∙ sym (within_cut w m (k + 1) x n (omega arith) l))
      (λ (l : n % w < m). within_kept w m k x n l ∙ sym (within_kept w m (k + 1) x n l))
      (le-or-lt m (n % w)))
      (le-or-lt k (n / w))

  -- row k ends with word q, of which t bits are kept
  module _ (ws : List ℕ) (k q t v : ℕ) (ends : 64 * q + 64 ≡ w * (k + 1)) (rest : m + 64 ≡ w + t) (short : t < 64) (room : 64 ≤ w)
      (so_far : wbit ws ≡ within w m k x) (inside : q < length ws) (held : Holds v (up_to t (digit 64 (get_or ws q 0)))) where
    away : (n : ℕ) → (n < 64 * q) ⊎ (64 * (q + 1) ≤ n) → wbit ws n ≡ within w m (k + 1) x n
    away n out = ap (λ (y : Word). y n) so_far ∙ ⊎_elim here (within_other k n) (eq_or_not (n / w) k)
      where
        here : n / w ≡ k → within w m k x n ≡ within w m (k + 1) x n
        here e =
            let l : n % w < m = ⊎_elim (λ (a : n < 64 * q). omega (arith, split w some n k e))
            (λ (a : 64 * (q + 1) ≤ n). absurd (omega (arith, low w some n (k + 1) (omega arith)))) out in
            within_kept w m k x n l ∙ sym (within_kept w m (k + 1) x n l)

    at : (i : ℕ) → i < 64 → digit 64 v i ≡ within w m (k + 1) x (64 * q + i)
    at i hi =
        let n = 64 * q + i in
        let p = w - 64 + i in
        let lp : p < w = omega arith in
        let e : n ≡ k * w + p = omega (arith, mul_comm w k) in
        let row : n / w ≡ k = ap (λ (z : ℕ). z / w) e ∙ digits_div k lp in
        let place : n % w ≡ p = ap (λ (z : ℕ). z % w) e ∙ digits_mod k lp in
        held i hi
        ∙ ⊎_elim
        (λ (h : t ≤ i). up_to_above t i (digit 64 (get_or ws q 0)) h ∙ sym (within_cut w m (k + 1) x n (omega arith) (omega arith)))
        (λ (h : i < t).
        up_to_below t i (digit 64 (get_or ws q 0)) h
        ∙ word_holds ws q i hi
        ∙ ap (λ (y : Word). y n) so_far
        ∙ within_open w m k x n (omega arith)
        ∙ sym (within_kept w m (k + 1) x n (omega arith)))
        (le-or-lt t i)

    pub within_more : wbit (set ws q v) ≡ within w m (k + 1) x
    within_more =
        let y = within w m (k + 1) x in
        word_stored ws q y (wbit ws) (joined_start (64 * q) y (wbit ws) (λ n h. away n (inl h))) v inside at
        ∙ joined_end (64 * (q + 1)) y (wbit ws) (λ n h. away n (inr h))

-- every row trimmed
pub within_rowed : (w m k : ℕ) → 0 < w → (f : ℕ → Word) → within w m k (rowed w k f) ≡ rowed w k (λ r. up_to m (f r))
within_rowed w m k some f = fun_ext (λ n. ⊎_elim (past n) (row n) (le-or-lt k (n / w)))
  where
    g : ℕ → Word
    g r = up_to m (f r)

    past : (n : ℕ) → k ≤ n / w → within w m k (rowed w k f) n ≡ rowed w k g n
    past n h = within_open w m k (rowed w k f) n h ∙ rowed_past w some k f n h ∙ sym (rowed_past w some k g n h)

    row : (n : ℕ) → n / w < k → within w m k (rowed w k f) n ≡ rowed w k g n
    row n h =
        ⊎_elim
        (λ (l : m ≤ n % w). within_cut w m k (rowed w k f) n h l ∙ sym (up_to_above m (n % w) (f (n / w)) l))
        (λ (l : n % w < m). within_kept w m k (rowed w k f) n l ∙ rowed_inside w some k f n h ∙ sym (up_to_below m (n % w) (f (n / w)) l))
        (le-or-lt m (n % w))
        ∙ sym (rowed_inside w some k g n h)
