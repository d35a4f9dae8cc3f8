-- The words of a vector, and the loops that fill them one after the other. Assumes nothing.
use mathlib.Core.Path.{◌≡◌, refl, sym, ap, ◌∙◌, fun_ext}
use mathlib.Core.Bool.{false}
use mathlib.Core.List.{List}
use Prim.Native.Nat.{ℕ, suc, ◌+◌, ◌-◌, ◌*◌, ◌/◌, ◌%◌, ◌≤◌, ◌<◌}
use native.Mathlib.Omega.{arith}
use lib.Dec.{lit<}
use lib.ListN.{get_or, length, set, replicate, length-set}
use Rattle.bits.specs.Bits.{Word, digit}
use Rattle.vectors.specs.Vectors.{wbit, Holds, from, joined}
use Rattle.bits.proofs.Octets.{zeros_at, digit_zero}
use Rattle.vectors.proofs.Places.{place}
use Rattle.vectors.proofs.Cells.{cell_at, cell_past, unread, stored, joined_start, joined_end}

pub word_at : (ws : List ℕ) (n q i : ℕ) → i < 64 → n ≡ 64 * q + i → wbit ws n ≡ digit 64 (get_or ws q 0) i
unfolding wbit
word_at ws n q i hi e = ap (wbit ws) e ∙ cell_at 64 (lit< tt) ws q i hi

pub word_place : (ws : List ℕ) (n : ℕ) → place (get_or ws (n / 64) 0) (63 - n % 64) ≡ wbit ws n
unfolding wbit
word_place ws n =
    let e : 63 - n % 64 ≡ 64 - suc (n % 64) = omega arith in
    ap (place (get_or ws (n / 64) 0)) e

pub word_holds : (ws : List ℕ) (q : ℕ) → Holds (get_or ws q 0) (from (64 * q) (wbit ws))
word_holds ws q i hi = sym (word_at ws (64 * q + i) q i hi refl)

pub word_past : (ws : List ℕ) (n : ℕ) → 64 * length ws ≤ n → wbit ws n ≡ false
unfolding wbit
word_past ws n h = cell_past 64 (lit< tt) ws n h

pub word_unread : (ws : List ℕ) (k : ℕ) (x y : Word) → wbit ws ≡ joined (64 * k) x y → Holds (get_or ws k 0) (from (64 * k) y)
unfolding wbit
word_unread ws k x y e = unread 64 (lit< tt) ws k x y e

pub word_stored : (ws : List ℕ) (k : ℕ) (x y : Word) → wbit ws ≡ joined (64 * k) x y → (v : ℕ) → k < length ws → Holds v (from (64 * k) x)
    → wbit (set ws k v) ≡ joined (64 * (k + 1)) x y
unfolding wbit
word_stored ws k x y e v hk hv = stored 64 (lit< tt) ws k x y e v hk hv

pub zero_words : (k : ℕ) → wbit (replicate k 0) ≡ (λ n. false)
unfolding wbit
zero_words k = fun_ext (λ n. ap (λ (v : ℕ). digit 64 v (n % 64)) (zeros_at k (n / 64)) ∙ digit_zero 64 (n % 64))

-- The words before word k have the bits of x, and the others are as they were.
pub record Filled (ws₀ : List ℕ) (x : Word) (ws : List ℕ) (k : ℕ) : Type 0 where
  pub long : length ws ≡ length ws₀
  pub bits : wbit ws ≡ joined (64 * k) x (wbit ws₀)

pub filled_start : (ws₀ : List ℕ) (x : Word) → Filled ws₀ x ws₀ 0
filled_start ws₀ x = record { long = refl; bits = joined_start 0 x (wbit ws₀) (λ n h. absurd (omega arith)) }

pub filled_from : (ws₀ : List ℕ) (x : Word) (k : ℕ) → ((n : ℕ) → n < 64 * k → wbit ws₀ n ≡ x n) → Filled ws₀ x ws₀ k
filled_from ws₀ x k e = record { long = refl; bits = joined_start (64 * k) x (wbit ws₀) e }

module _ (ws₀ : List ℕ) (x : Word) (ws : List ℕ) (k : ℕ) (f : Filled ws₀ x ws k) where
  pub filled_next : Holds (get_or ws k 0) (from (64 * k) (wbit ws₀))
  filled_next = word_unread ws k x (wbit ws₀) f.bits

  pub filled_more : (v : ℕ) → k < length ws → Holds v (from (64 * k) x) → Filled ws₀ x (set ws k v) (k + 1)
  filled_more v hk hv = record { long = length-set ws k v ∙ f.long; bits = word_stored ws k x (wbit ws₀) f.bits v hk hv }

  pub filled_to : ((n : ℕ) → 64 * k ≤ n → wbit ws₀ n ≡ x n) → wbit ws ≡ x
  filled_to e = f.bits ∙ joined_end (64 * k) x (wbit ws₀) e

  pub filled_all : length ws ≤ k → ((n : ℕ) → 64 * length ws₀ ≤ n → x n ≡ false) → wbit ws ≡ x
  filled_all hk none = filled_to (λ n h. word_past ws₀ n (past n h) ∙ sym (none n (past n h)))
    where
      past : (n : ℕ) → 64 * k ≤ n → 64 * length ws₀ ≤ n
      past n h = omega (arith, f.long)
