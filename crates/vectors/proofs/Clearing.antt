-- A vector whose last words are cleared. Assumes nothing.
use mathlib.Core.Path.{◌≡◌, sym, ap, ◌∙◌, fun_ext}
use mathlib.Core.Logic.{⊎_elim}
use mathlib.Core.List.{List}
use Prim.Native.Nat.{ℕ, ◌-◌, ◌*◌, ◌/◌, ◌%◌, ◌≤◌, ◌<◌}
use native.Mathlib.Omega.{arith}
use lib.ListN.{get_or, length, replicate}
use borrow.Rule.Slice.PartMut.{put_mid}
use Rattle.std.specs.List.{between}
use Rattle.std.proofs.lemmas.List.{places}
use Rattle.bits.specs.Bits.{Word, digit}
use Rattle.bits.proofs.Orders.{le-or-lt}
use Rattle.bits.proofs.Octets.{zeros_at, digit_zero}
use Rattle.vectors.specs.Vectors.{wbit, up_to, joined}
use Rattle.vectors.proofs.Cells.{joined_below}
use Rattle.vectors.proofs.Filling.{word_past}
use Rattle.vectors.proofs.Spans.{up_to_below, up_to_above}

-- The words before word k have the first n bits of y, and zeros are written into all others.
pub cleared_behind : (ws zs : List ℕ) (k n : ℕ) (y : Word) → wbit ws ≡ joined (64 * k) (up_to n y) y → n ≤ 64 * k → k ≤ length ws
    → zs ≡ replicate (length (between k (length ws) ws)) 0 → wbit (put_mid k (length ws - k) ws zs) ≡ up_to n y
unfolding wbit
cleared_behind ws zs k n y e hn hk ez = fun_ext (λ i. ⊎_elim (behind i) (before i) (le-or-lt (64 * k) i))
  where
    kept : (i : ℕ) → i < k → get_or (put_mid k (length ws - k) ws zs) i 0 ≡ get_or ws i 0
    kept i l = grind (arith, places)

    gone : (i : ℕ) → k ≤ i → get_or (put_mid k (length ws - k) ws zs) i 0 ≡ 0
    gone i l = rw ez (grind (arith, places, zeros_at))

    before : (i : ℕ) → i < 64 * k → wbit (put_mid k (length ws - k) ws zs) i ≡ up_to n y i
    before i h =
        ap (λ (v : ℕ). digit 64 v (i % 64)) (kept (i / 64) (omega arith)) ∙ ap (λ (x : Word). x i) e
        ∙ joined_below (64 * k) i (up_to n y) y h

    behind : (i : ℕ) → 64 * k ≤ i → wbit (put_mid k (length ws - k) ws zs) i ≡ up_to n y i
    behind i h =
        ap (λ (v : ℕ). digit 64 v (i % 64)) (gone (i / 64) (omega arith)) ∙ digit_zero 64 (i % 64)
        ∙ sym (up_to_above n i y (omega arith))

-- No word reaches as far as bit n.
pub cleared_none : (ws : List ℕ) (n : ℕ) → 64 * length ws ≤ n → wbit ws ≡ up_to n (wbit ws)
cleared_none ws n h = fun_ext (λ i. ⊎_elim
    (λ (l : n ≤ i). word_past ws i (omega arith) ∙ sym (up_to_above n i (wbit ws) l))
    (λ (l : i < n). sym (up_to_below n i (wbit ws) l))
    (le-or-lt n i))
