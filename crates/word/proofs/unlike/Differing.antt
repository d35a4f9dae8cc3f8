-- Bits in which two words differ, counted 64 at a time.
use mathlib.Core.Path.{◌≡◌, sym, ap, ap₂, ◌∙◌}
use Prim.Native.Nat.{ℕ, ◌+◌, ◌*◌, ◌^◌, ◌≤◌, ◌<◌}
use native.Mathlib.Omega.{arith}
use lib.Bits.{bit_xor}
use lib.Count.{ones}
use lib.Dec.{ltb}
use Rattle.bits.specs.Bits.{Word, digit, count, ◌⊕◌}
use Rattle.bits.proofs.Sums.{and-⊕, ⊕-self}
use Rattle.bits.proofs.Counting.{count_none, count_same, count_add}
use Rattle.vectors.specs.Vectors.{Holds, up_to, from}
use Rattle.vectors.proofs.Counts.{ones_count, count_up_to}
use Rattle.vectors.proofs.Places.{digit_xor}

pub apart_count : (v w : ℕ) → bit_xor v w < 2 ^ 64 → ones (bit_xor v w) ≡ count 64 (λ i. digit 64 v i ⊕ digit 64 w i)
apart_count v w h = ones_count 64 (bit_xor v w) h ∙ count_same 64 (digit 64 (bit_xor v w)) (λ i. digit 64 v i ⊕ digit 64 w i)
    (λ i l. digit_xor 64 v w i)

-- equal words differ in no bit
pub apart_none : (v w : ℕ) → v ≡ w → 0 ≡ count 64 (λ i. digit 64 v i ⊕ digit 64 w i)
apart_none v w e = sym (count_none 64 (λ i. digit 64 v i ⊕ digit 64 w i) (λ i l. ap (λ z. digit 64 v i ⊕ digit 64 z i) (sym e)
    ∙ ⊕-self (digit 64 v i)))

-- 64 bits more
pub apart_more : (x y : Word) (j v w r : ℕ) → Holds v (from (64 * j) x) → Holds w (from (64 * j) y)
    → r ≡ count 64 (λ i. digit 64 v i ⊕ digit 64 w i)
    → count (64 * (j + 1)) (λ i. x i ⊕ y i) ≡ count (64 * j) (λ i. x i ⊕ y i) + r
apart_more x y j v w r hv hw e =
    let s : 64 * (j + 1) ≡ 64 * j + 64 = omega arith in
    ap (λ (n : ℕ). count n (λ i. x i ⊕ y i)) s
    ∙ count_add (64 * j) 64 (λ i. x i ⊕ y i)
    ∙ ap (λ (n : ℕ). count (64 * j) (λ i. x i ⊕ y i) + n)
    (sym (e ∙ count_same 64 (λ i. digit 64 v i ⊕ digit 64 w i) (λ i. x (64 * j + i) ⊕ y (64 * j + i))
    (λ i l. ap₂ (λ a b. a ⊕ b) (hv i l) (hw i l))))

-- t bits more
pub apart_rest : (x y : Word) (k t : ℕ) → t ≤ 64 → (v w r : ℕ) → Holds v (up_to t (from (64 * k) x)) → Holds w (up_to t (from (64 * k) y))
    → r ≡ count 64 (λ i. digit 64 v i ⊕ digit 64 w i) → count (64 * k + t) (λ i. x i ⊕ y i) ≡ count (64 * k) (λ i. x i ⊕ y i) + r
apart_rest x y k t h v w r hv hw e =
    count_add (64 * k) t (λ i. x i ⊕ y i)
    ∙ ap (λ (n : ℕ). count (64 * k) (λ i. x i ⊕ y i) + n)
    (sym (e
    ∙ count_same 64 (λ i. digit 64 v i ⊕ digit 64 w i) (up_to t (λ i. x (64 * k + i) ⊕ y (64 * k + i)))
    (λ i l. ap₂ (λ a b. a ⊕ b) (hv i l) (hw i l) ∙ sym (and-⊕ (ltb i t) (x (64 * k + i)) (y (64 * k + i))))
    ∙ count_up_to t 64 (λ i. x (64 * k + i) ⊕ y (64 * k + i)) h))

-- eight octets begin where 64 bits do
pub from_more : (x : Word) (j v : ℕ) → Holds v (from (8 * (8 * j)) x) → Holds v (from (64 * j) x)
from_more x j v h i l =
    let e : 8 * (8 * j) + i ≡ 64 * j + i = omega arith in
    h i l ∙ ap x e

pub place : (u j i : ℕ) → u + 64 * j + i ≡ u + (64 * j + i)
place u j i = omega arith
