-- Counts of the bits that are set. Assumes nothing.
use mathlib.Core.Path.{◌≡◌, refl, sym, ap, ap₂, ◌∙◌}
use mathlib.Core.Bool.{Bool, true, false, not, ◌||◌, true≢false}
use mathlib.Core.Logic.{⊎_elim}
use mathlib.Core.List.{List}
use Prim.Native.Nat.{ℕ, zero, suc, ◌+◌, ◌-◌, ◌*◌, ◌/◌, ◌^◌, ◌≤◌, ◌<◌}
use native.Mathlib.Nat.{pow-suc, add-zero, pos_of_ne-zero}
use native.Mathlib.Omega.{arith}
use lib.Arith.{lt-one}
use lib.Bits.{bit_or, or_lt}
use lib.Count.{ones, ones_step}
use lib.Dec.{eqb, ltb, lit<}
use lib.ListN.{get_or}
use borrow.Author.Tests.{lt-ltb, le-ltb, eq-eqb, ne_eqb}
use Rattle.bits.specs.Bits.{Word, digit, count}
use Rattle.bits.proofs.Counting.{count-start, count_same, count_add, none_counted, count_none}
use Rattle.vectors.specs.Vectors.{wbit, up_to, from}
use Rattle.bits.proofs.Orders.{eq_or_not}
use Rattle.bits.proofs.Octets.{digit_half, digit_zero}
use Rattle.vectors.proofs.Places.{digit_odd, digit_or, same_digits}
use Rattle.vectors.proofs.Filling.{word_holds}
use Rattle.vectors.proofs.Spans.{up_to_below, up_to_above}

-- Zeros behind the first m bits count nothing.
pub count_up_to : (m n : ℕ) (x : Word) → m ≤ n → count n (up_to m x) ≡ count m x
count_up_to m n x h =
    let e : n ≡ m + (n - m) = omega arith in
    ap (λ (k : ℕ). count k (up_to m x)) e
    ∙ count_add m (n - m) (up_to m x)
    ∙ ap₂ ◌+◌ (count_same m (up_to m x) x (λ i l. up_to_below m i x l))
    (count_none (n - m) (from m (up_to m x)) (λ i l. up_to_above m (m + i) x (omega arith)))
    ∙ add-zero (count m x)

-- The ones of a number are counted by its digits.
pub ones_count : (w v : ℕ) → v < 2 ^ w → ones v ≡ count w (digit w v)
unfolding ones count
ones_count zero v h = ap ones (lt-one h)
ones_count (suc w) v h =
    let halves =
    ones_count w (v / 2) (omega (arith, pow-suc 2 w))
    ∙ count_same w (digit w (v / 2)) (digit (suc w) v) (λ i l. sym (digit_half w v i l)) in
    omega (arith, ones_step v, digit_odd w v)

-- one word more
pub count_word : (ws : List ℕ) (k : ℕ) → get_or ws k 0 < 2 ^ 64
    → count (64 * (k + 1)) (wbit ws) ≡ count (64 * k) (wbit ws) + ones (get_or ws k 0)
count_word ws k h =
    let e : 64 * (k + 1) ≡ 64 * k + 64 = omega arith in
    let v = get_or ws k 0 in
    ap (λ (n : ℕ). count n (wbit ws)) e
    ∙ count_add (64 * k) 64 (wbit ws)
    ∙ ap (λ (n : ℕ). count (64 * k) (wbit ws) + n)
    (sym (ones_count 64 v h ∙ count_same 64 (digit 64 v) (from (64 * k) (wbit ws)) (word_holds ws k)))

-- ---- whether any is set

no_ones : (v : ℕ) → v < 2 ^ 64 → ones v ≡ 0 → v ≡ 0
no_ones v h e =
    same_digits 64 v 0 h (lit< tt) (λ i hi. none_counted 64 (digit 64 v) (sym (ones_count 64 v h) ∙ e) i hi ∙ sym (digit_zero 64 i))

neither : (p q : Bool) → (p || q) ≡ false → (p ≡ false) × (q ≡ false)
neither true q e = absurd (true≢false e)
neither false q e = (refl, e)

pub or-zero : (u v : ℕ) → u < 2 ^ 64 → v < 2 ^ 64 → bit_or u v ≡ 0 → (u ≡ 0) × (v ≡ 0)
or-zero u v hu hv e = (
  same_digits 64 u 0 hu (lit< tt) (λ i hi. (none i).0 ∙ sym (digit_zero 64 i)),
  same_digits 64 v 0 hv (lit< tt) (λ i hi. (none i).1 ∙ sym (digit_zero 64 i)),
)
  where
    none : (i : ℕ) → (digit 64 u i ≡ false) × (digit 64 v i ≡ false)
    none i = neither (digit 64 u i) (digit 64 v i) (sym (digit_or 64 u v i) ∙ ap (λ (n : ℕ). digit 64 n i) e ∙ digit_zero 64 i)

-- v is 0 just if the first k words are.
pub record Seen (ws : List ℕ) (v k : ℕ) : Type 0 where
  pub small : v < 2 ^ 64
  pub none : v ≡ 0 → count (64 * k) (wbit ws) ≡ 0
  pub zero : count (64 * k) (wbit ws) ≡ 0 → v ≡ 0

pub seen_none : (ws : List ℕ) → Seen ws 0 0
seen_none ws = record { small = lit< tt; none = λ e. sym (count-start (wbit ws)); zero = λ e. refl }

pub seen_more : (ws : List ℕ) (v k : ℕ) → get_or ws k 0 < 2 ^ 64 → Seen ws v k → Seen ws (bit_or v (get_or ws k 0)) (k + 1)
unfolding ones
seen_more ws v k hw s = record {
  small = or_lt 64 v w hv hw;
  none = λ e. count_word ws k hw ∙ ap₂ ◌+◌ (s.none (or-zero v w hv hw e).0) (ap ones (or-zero v w hv hw e).1);
  zero = λ e. ap₂ bit_or (s.zero (omega (arith, count_word ws k hw))) (no_ones w hw (omega (arith, count_word ws k hw)));
}
  where
    w : ℕ
    w = get_or ws k 0

    hv : v < 2 ^ 64
    hv = s.small

pub seen_all : (ws : List ℕ) (v k : ℕ) → Seen ws v k → not (eqb v 0) ≡ ltb 0 (count (64 * k) (wbit ws))
seen_all ws v k s =
    ⊎_elim
    (λ (e : v ≡ 0). ap not (eq-eqb v 0 e) ∙ sym (le-ltb 0 n (omega (arith, s.none e))))
    (λ (d : v ≡ 0 → ⊥). ap not (ne_eqb v 0 d) ∙ sym (lt-ltb 0 n (pos_of_ne-zero (λ e. d (s.zero e)))))
    (eq_or_not v 0)
  where
    n : ℕ
    n = count (64 * k) (wbit ws)
