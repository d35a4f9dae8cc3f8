-- Lists of numbers of a width, bit by bit, and the loops that fill them. Assumes nothing.
use mathlib.Core.Path.{◌≡◌, sym, ap, ◌∙◌, subst, fun_ext}
use mathlib.Core.Bool.{Bool, false}
use mathlib.Core.Logic.{⊎_elim}
use mathlib.Core.List.{List}
use Prim.Native.Nat.{ℕ, suc, ◌+◌, ◌-◌, ◌*◌, ◌/◌, ◌%◌, ◌^◌, ◌≤◌, ◌<◌}
use native.Mathlib.Nat.{mod-lt, mul_comm, div-add-mod', div-lt_iff_lt-mul, le_of_lt}
use native.Mathlib.Omega.{arith}
use lib.Arith.{digits_div, digits_mod, lt_of_le-ne}
use lib.ListN.{get_or, length, set, get_or-eq_default}
use lib.Seq.{get_or-set_same, get_or-set_other, ext_get_or}
use borrow.Author.Tests.{lt-ltb, le-ltb}
use Rattle.bits.specs.Bits.{Word, digit, when◌then◌else◌}
use Rattle.vectors.specs.Vectors.{joined}
use Rattle.bits.proofs.Orders.{le-or-lt, eq_or_not}
use Rattle.vectors.proofs.Places.{place_zero, same_digits}

-- Bit n of a list of numbers of w bits: `bit` at w = 8, `wbit` at w = 64.
abbrev pub cell : ℕ → List ℕ → Word
cell w xs n = digit w (get_or xs (n / w) 0) (n % w)

module _ (m n : ℕ) (x y : Word) where
  pub joined_below : n < m → joined m x y n ≡ x n
  joined_below h = ap (λ (b : Bool). when b then x n else y n) (lt-ltb n m h)

  pub joined_above : m ≤ n → joined m x y n ≡ y n
  joined_above h = ap (λ (b : Bool). when b then x n else y n) (le-ltb n m h)

-- A loop over part of a list starts with the part before it, and leaves what follows.
pub joined_start : (m : ℕ) (x y : Word) → ((n : ℕ) → n < m → y n ≡ x n) → y ≡ joined m x y
joined_start m x y e =
    fun_ext
    (λ n. ⊎_elim (λ h. sym (joined_above m n x y h)) (λ h. e n h ∙ sym (joined_below m n x y h)) (le-or-lt m n))

pub joined_end : (m : ℕ) (x y : Word) → ((n : ℕ) → m ≤ n → y n ≡ x n) → joined m x y ≡ x
joined_end m x y e =
    fun_ext (λ n. ⊎_elim (λ h. joined_above m n x y h ∙ e n h) (λ h. joined_below m n x y h) (le-or-lt m n))

module _ (w : ℕ) (some : 0 < w) where
  -- a bit by its number's place in the list and the bit's place there
  pub cell_at : (xs : List ℕ) (q i : ℕ) → i < w → cell w xs (w * q + i) ≡ digit w (get_or xs q 0) i
  cell_at xs q i hi =
      ap (λ (n : ℕ). cell w xs (n + i)) (mul_comm w q)
      ∙ ap (λ (n : ℕ). digit w (get_or xs n 0) ((q * w + i) % w)) (digits_div q hi)
      ∙ ap (digit w (get_or xs q 0)) (digits_mod q hi)

  pub split : (n q : ℕ) → n / w ≡ q → n ≡ w * q + n % w
  split n q e = sym (div-add-mod' n w) ∙ ap (λ (k : ℕ). k + n % w) (ap (λ (k : ℕ). k * w) e ∙ mul_comm q w)

  pub low : (n q : ℕ) → n / w < q → n < w * q
  low n q h = subst (λ (k : ℕ). n < k) (mul_comm q w) ((div-lt_iff_lt-mul some).0 h)

  pub high : (n q : ℕ) → q ≤ n / w → w * q ≤ n
  high n q h = ⊎_elim (λ k. k) (λ k. absurd (omega (arith, back k))) (le-or-lt (w * q) n)
    where
      back : n < w * q → n / w < q
      back k = (div-lt_iff_lt-mul some).1 (subst (λ (z : ℕ). n < z) (mul_comm w q) k)

  pub cell_past : (xs : List ℕ) (n : ℕ) → w * length xs ≤ n → cell w xs n ≡ false
  cell_past xs n h =
      ap (λ (v : ℕ). digit w v (n % w))
      (get_or-eq_default xs 0 (⊎_elim (λ k. k) (λ k. absurd (omega (arith, low n (length xs) k))) (le-or-lt (length xs) (n / w))))
      ∙ place_zero (w - suc (n % w))

  module _ (xs : List ℕ) (k : ℕ) (x y : Word) (so_far : cell w xs ≡ joined (w * k) x y) where
    -- what a loop has not come to is as it was
    pub unread : (i : ℕ) → i < w → digit w (get_or xs k 0) i ≡ y (w * k + i)
    unread i hi =
        sym (cell_at xs k i hi) ∙ ap (λ (z : Word). z (w * k + i)) so_far ∙ joined_above (w * k) (w * k + i) x y (omega arith)

    -- a pass of a loop stores the next number
    pub stored : (v : ℕ) → k < length xs → ((i : ℕ) → i < w → digit w v i ≡ x (w * k + i)) → cell w (set xs k v) ≡ joined (w * (k + 1)) x y
    stored v hk hv = fun_ext (λ n. ⊎_elim (here n) (other n) (eq_or_not (n / w) k))
      where
        more : (n : ℕ) → n / w ≤ k → n < w * (k + 1)
        more n h = low n (k + 1) (omega arith)

        here : (n : ℕ) → n / w ≡ k → cell w (set xs k v) n ≡ joined (w * (k + 1)) x y n
        here n e =
            ap (λ (q : ℕ). digit w (get_or (set xs k v) q 0) (n % w)) e
            ∙ ap (λ (u : ℕ). digit w u (n % w)) (get_or-set_same xs k v 0 hk)
            ∙ hv (n % w) (mod-lt n some)
            ∙ ap x (sym (split n k e))
            ∙ sym (joined_below (w * (k + 1)) n x y (more n (omega arith)))

        other : (n : ℕ) → (n / w ≡ k → ⊥) → cell w (set xs k v) n ≡ joined (w * (k + 1)) x y n
        other n d =
            ap (λ (u : ℕ). digit w u (n % w)) (get_or-set_other xs k (n / w) v 0 d)
            ∙ ap (λ (z : Word). z n) so_far
            ∙ ⊎_elim
            (λ (h : n / w ≤ k).
            joined_below (w * k) n x y (low n k (lt_of_le-ne h d))
            ∙ sym (joined_below (w * (k + 1)) n x y (more n h)))
            (λ (h : k < n / w).
            joined_above (w * k) n x y (high n k (le_of_lt h))
            ∙ sym (joined_above (w * (k + 1)) n x y (high n (k + 1) (omega arith))))
            (le-or-lt (n / w) k)

-- Lists of numbers of a width are known by their length and their bits.
pub same_cells : (w : ℕ) → 0 < w → (xs ys : List ℕ) → length xs ≡ length ys → ((k : ℕ) → get_or xs k 0 < 2 ^ w)
    → ((k : ℕ) → get_or ys k 0 < 2 ^ w)
    → cell w xs ≡ cell w ys → xs ≡ ys
same_cells w some xs ys el hx hy e =
    ext_get_or 0 xs ys el
    (λ k hk.
    same_digits w (get_or xs k 0) (get_or ys k 0) (hx k) (hy k)
    (λ i hi. sym (cell_at w some xs k i hi) ∙ ap (λ (x : Word). x (w * k + i)) e ∙ cell_at w some ys k i hi))
