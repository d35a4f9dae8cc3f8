-- Ones modulo 2, of numbers and of the words of a vector. Assumes nothing.
use mathlib.Core.Path.{◌≡◌, refl, sym, ap, ◌∙◌, fun_ext}
use mathlib.Core.Bool.{Bool, true, false, not, ◌&&◌}
use mathlib.Core.List.{List}
use Prim.Native.Nat.{ℕ, zero, suc, ◌+◌, ◌*◌, ◌%◌, ◌^◌, ◌≤◌, ◌<◌}
use native.Mathlib.Nat.{mul_comm, lt_of_le_of_lt}
use native.Mathlib.Numerals.{add-one}
use native.Mathlib.Omega.{arith}
use lib.Bits.{bit_xor, bit_and, and_le_l}
use lib.Count.{ones}
use lib.Dec.{eqb}
use lib.ListN.{get_or, length}
use Rattle.bits.specs.Bits.{Word, digit, tally, number, ◌⊕◌, sum, count}
use Rattle.bits.proofs.Sums.{sum_linear, sum_same, sum_none}
use Rattle.rules.proofs.Blocks.{sum_blocks}
use Rattle.vectors.specs.Vectors.{wbit, up_to}
use Rattle.bits.proofs.Octets.{digit_zero}
use Rattle.vectors.proofs.Places.{digit_xor, digit_and}
use Rattle.vectors.proofs.Filling.{word_holds}
use Rattle.bits.proofs.Octets.{digit_number}
use Rattle.vectors.proofs.Counts.{count_up_to, ones_count}

-- ---- counts

odd_more : (n : ℕ) (a b : Bool) → n % 2 ≡ tally a → (n + tally b) % 2 ≡ tally (a ⊕ b)
odd_more n true true e = omega arith
odd_more n true false e = omega arith
odd_more n false true e = omega arith
odd_more n false false e = omega arith

pub count_odd : (n : ℕ) (x : Word) → count n x % 2 ≡ tally (sum n x)
unfolding count sum
count_odd zero x = refl
count_odd (suc n) x = odd_more (count n x) (sum n x) (x n) (count_odd n x)

pub ones_odd : (w v : ℕ) → v < 2 ^ w → ones v % 2 ≡ tally (sum w (digit w v))
ones_odd w v h = ap (λ n. n % 2) (ones_count w v h) ∙ count_odd w (digit w v)

-- zeros behind the first m bits
pub odd_up_to : (m n : ℕ) (x : Word) → m ≤ n → tally (sum n (up_to m x)) ≡ tally (sum m x)
odd_up_to m n x h = sym (count_odd n (up_to m x)) ∙ ap (λ k. k % 2) (count_up_to m n x h) ∙ count_odd m x

-- ---- the words of a vector, added up

abbrev pub odd_word : List ℕ → ℕ → Bool
odd_word ws k = sum 64 (digit 64 (get_or ws k 0))

pub fold_start : (ws : List ℕ) → sum 64 (digit 64 0) ≡ sum 0 (odd_word ws)
unfolding sum
fold_start ws = sum_none 64 (digit 64 0) (λ i l. digit_zero 64 i)

pub fold_more : (ws : List ℕ) (v k : ℕ) → sum 64 (digit 64 v) ≡ sum k (odd_word ws)
    → sum 64 (digit 64 (bit_xor v (get_or ws k 0))) ≡ sum (k + 1) (odd_word ws)
unfolding sum
fold_more ws v k e =
    ap (sum 64) (fun_ext (λ i. digit_xor 64 v (get_or ws k 0) i))
    ∙ (sum_linear 64).plus (digit 64 v) (digit 64 (get_or ws k 0))
    ∙ ap (λ z. z ⊕ odd_word ws k) e
    ∙ ap (λ n. sum n (odd_word ws)) (sym (add-one k))

pub fold_all : (ws : List ℕ) (n : ℕ) → sum n (odd_word ws) ≡ sum (n * 64) (wbit ws)
fold_all ws n =
    ap (sum n) (fun_ext (λ k.
    sum_same 64 (digit 64 (get_or ws k 0)) (λ i. wbit ws (k * 64 + i)) (λ i l. word_holds ws k i l
    ∙ ap (λ z. wbit ws (z + i)) (mul_comm 64 k))))
    ∙ sym (sum_blocks n 64 (wbit ws))

-- the sum of m bits that were cut out
pub cut_odd : (ws : List ℕ) (m : ℕ) (x : Word) → wbit ws ≡ up_to m x → m ≤ length ws * 64
    → tally (sum (length ws * 64) (wbit ws)) ≡ tally (sum m x)
cut_odd ws m x e h = ap (λ z. tally (sum (length ws * 64) z)) e ∙ odd_up_to m (length ws * 64) x h

-- ---- a number made bit by bit, and the bits that it shares with another

pub number_start : (x : Word) → 0 ≡ number 0 x
unfolding number
number_start x = refl

pub number_more : (n v : ℕ) (x : Word) → v ≡ number n x → 2 * v + tally (x n) ≡ number (n + 1) x
unfolding number
number_more n v x e = ap (λ z. 2 * z + tally (x n)) e ∙ ap (λ z. number z x) (sym (add-one n))

pub shared_odd : (w u v r : ℕ) (x : Word) → v ≡ number w x → u < 2 ^ w
    → ((k : ℕ) → bit_and u v < 2 ^ k → r ≡ tally (sum k (digit k (bit_and u v))))
    → r ≡ tally (sum w (λ i. digit w u i && x i))
shared_odd w u v r x e h odd =
    odd w (lt_of_le_of_lt (and_le_l u v) h)
    ∙ ap tally (sum_same w (digit w (bit_and u v)) (λ i. digit w u i && x i) (λ i l.
    digit_and w u v i ∙ ap (λ z. digit w u i && z) (ap (λ z. digit w z i) e ∙ digit_number w x i l)))

pub neither : (a b : Bool) → eqb (tally a + tally b) 0 ≡ (not b && (not a && true))
neither true true = refl
neither true false = refl
neither false true = refl
neither false false = refl
