-- Words in rows, row by row. Assumes nothing.
use mathlib.Core.Path.{◌≡◌, sym, ap, ap₂, ◌∙◌, fun_ext}
use mathlib.Core.Bool.{Bool, false, ◌&&◌}
use mathlib.Core.Logic.{⊎_elim}
use mathlib.Core.List.{List}
use Prim.Native.Nat.{ℕ, ◌+◌, ◌-◌, ◌*◌, ◌/◌, ◌%◌, ◌≤◌, ◌<◌}
use native.Mathlib.Nat.{mod-lt, le_of_lt}
use native.Mathlib.Omega.{arith}
use lib.Dec.{ltb}
use lib.ListN.{length}
use borrow.Author.Tests.{lt-ltb, le-ltb}
use Rattle.bits.specs.Bits.{Word, ◌⊕◌}
use Rattle.bits.proofs.Sums.{⊕-false, and-⊕}
use Rattle.vectors.specs.Vectors.{wbit, added}
use Rattle.bits.proofs.Orders.{le-or-lt, eq_or_not}
use Rattle.vectors.proofs.Cells.{split, low, high}
use Rattle.vectors.proofs.Spans.{added_before, added_after, added_inside}
use Rattle.syndromes.specs.Rows.{plus, rowed}

module _ (w : ℕ) (some : 0 < w) where
  module _ (k : ℕ) (f : ℕ → Word) (n : ℕ) where
    pub rowed_inside : n / w < k → rowed w k f n ≡ f (n / w) (n % w)
    unfolding rowed
    rowed_inside h = ap (λ (b : Bool). b && f (n / w) (n % w)) (lt-ltb (n / w) k h)

    pub rowed_past : k ≤ n / w → rowed w k f n ≡ false
    unfolding rowed
    rowed_past h = ap (λ (b : Bool). b && f (n / w) (n % w)) (le-ltb (n / w) k h)

  -- one row more
  pub rowed_more : (x : Word) (k : ℕ) (f : ℕ → Word) → added (plus x (rowed w k f)) (w * k) (w * (k + 1)) (f k) ≡ plus x (rowed w (k + 1) f)
  rowed_more x k f = fun_ext (λ n. ⊎_elim (here n) (other n) (eq_or_not (n / w) k))
    where
      y : Word
      y = plus x (rowed w k f)

      here : (n : ℕ) → n / w ≡ k → added y (w * k) (w * (k + 1)) (f k) n ≡ plus x (rowed w (k + 1) f) n
      here n e =
          let l = split w some n k e in
          let place : n - w * k ≡ n % w = omega arith in
          added_inside y (f k) (w * k) (w * (k + 1)) n (omega arith) (low w some n (k + 1) (omega arith))
          ∙ ap₂ (λ (p q : Bool). x n ⊕ p ⊕ q) (rowed_past k f n (omega arith)) (ap (f k) place)
          ∙ ap₂ (λ (p : Bool) (r : ℕ). p ⊕ f r (n % w)) (⊕-false (x n)) (sym e)
          ∙ ap (λ (p : Bool). x n ⊕ p) (sym (rowed_inside (k + 1) f n (omega arith)))

      before : (n : ℕ) → n / w < k → added y (w * k) (w * (k + 1)) (f k) n ≡ plus x (rowed w (k + 1) f) n
      before n h =
          added_before y (f k) (w * k) (w * (k + 1)) n (low w some n k h)
          ∙ ap (λ (p : Bool). x n ⊕ p) (rowed_inside k f n h ∙ sym (rowed_inside (k + 1) f n (omega arith)))

      after : (n : ℕ) → k < n / w → added y (w * k) (w * (k + 1)) (f k) n ≡ plus x (rowed w (k + 1) f) n
      after n h =
          added_after y (f k) (w * k) (w * (k + 1)) n (high w some n k (le_of_lt h)) (high w some n (k + 1) (omega arith))
          ∙ ap (λ (p : Bool). x n ⊕ p) (rowed_past k f n (le_of_lt h) ∙ sym (rowed_past (k + 1) f n (omega arith)))

      other : (n : ℕ) → (n / w ≡ k → ⊥) → added y (w * k) (w * (k + 1)) (f k) n ≡ plus x (rowed w (k + 1) f) n
      other n d = ⊎_elim (λ (h : k ≤ n / w). after n (omega (arith, d))) (before n) (le-or-lt k (n / w))

  pub rowed_none : (x : Word) (f : ℕ → Word) → x ≡ plus x (rowed w 0 f)
  rowed_none x f = fun_ext (λ n. sym (ap (λ (p : Bool). x n ⊕ p) (rowed_past 0 f n (omega arith)) ∙ ⊕-false (x n)))

  pub rowed_plus : (k : ℕ) (f g : ℕ → Word) → plus (rowed w k f) (rowed w k g) ≡ rowed w k (λ r. plus (f r) (g r))
  unfolding rowed
  rowed_plus k f g = fun_ext (λ n. sym (and-⊕ (ltb (n / w) k) (f (n / w) (n % w)) (g (n / w) (n % w))))

  pub rowed_same : (k : ℕ) (f g : ℕ → Word) → ((r i : ℕ) → r < k → i < w → f r i ≡ g r i) → rowed w k f ≡ rowed w k g
  rowed_same k f g e =
      fun_ext
      (λ n.
      ⊎_elim (λ h. rowed_past k f n h ∙ sym (rowed_past k g n h))
      (λ h. rowed_inside k f n h ∙ e (n / w) (n % w) h (mod-lt n some) ∙ sym (rowed_inside k g n h)) (le-or-lt k (n / w)))

-- A loop over the rows: f was added to the first r of them.
pub record Reached (w rows : ℕ) (f : ℕ → Word) (x : Word) (ws : List ℕ) (r : ℕ) : Type 0 where
  pub far : r ≤ rows
  pub long : length ws ≡ 16
  pub bits : wbit ws ≡ plus x (rowed w r f)

module _ (w rows : ℕ) (some : 0 < w) (f : ℕ → Word) where
  pub reached_none : (ws : List ℕ) → length ws ≡ 16 → Reached w rows f (wbit ws) ws 0
  reached_none ws long = record { far = omega arith; long = long; bits = rowed_none w some (wbit ws) f }

  module _ (x : Word) (ws : List ℕ) (r : ℕ) (so_far : Reached w rows f x ws r) where
    pub reached-more : (next : List ℕ) → r < rows → length next ≡ 16 → wbit next ≡ added (wbit ws) (w * r) (w * (r + 1)) (f r)
        → Reached w rows f x next (r + 1)
    reached-more next h long e = record {
      far = omega arith;
      long = long;
      bits = e ∙ ap (λ (y : Word). added y (w * r) (w * (r + 1)) (f r)) so_far.bits ∙ rowed_more w some x r f;
    }
