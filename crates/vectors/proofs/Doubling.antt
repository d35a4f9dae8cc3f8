-- The words of a vector doubled, one after the other. Assumes nothing.
use mathlib.Core.Path.{◌≡◌, refl, sym, ap, ◌∙◌, fun_ext}
use mathlib.Core.Logic.{⊎_elim}
use mathlib.Core.List.{List, [], ◌∷◌}
use Prim.Native.Nat.{ℕ, ◌+◌, ◌-◌, ◌*◌, ◌/◌, ◌%◌, ◌^◌, ◌≤◌, ◌<◌}
use native.Mathlib.Decide.{ℕ_discrete}
use native.Mathlib.Omega.{arith}
use lib.Bits.{bit_or}
use lib.Pow.{shr-shr}
use lib.ListN.{get_or, length, set, length-set}
use lib.Seq.{get_or-set_same, get_or-set_other}
use Rattle.bits.specs.Bits.{Word, digit}
use Rattle.bits.proofs.Orders.{le-or-lt}
use Rattle.bits.proofs.Octets.{digit_zero}
use Rattle.vectors.specs.Vectors.{wbit, Holds, up_to, from, twice, Doubled}
use Rattle.vectors.proofs.Cells.{joined_above}
use Rattle.vectors.proofs.Filling.{word_at, word_holds, word_past}
use Rattle.vectors.proofs.Spans.{up_to_below, up_to_above, neighbours, twice_before, twice_at, twice_past}

-- A pass of the loop: word k, and the word n places behind it.
module _ (v d : List ℕ) (n t k a u : ℕ) (was : Doubled v n t k d) (inside : k + 1 < n) (room : n + k < length d) where
  pub doubled_more : a ≡ get_or v k 0 → Holds u (from (64 * k + t) (wbit v)) → Doubled v n t (k + 1) (set (set d k a) (n + k) u)
  doubled_more ea hu j h = go (ℕ_discrete j k)
    where
      front : (j : ℕ) → j < n → get_or (set (set d k a) (n + k) u) j 0 ≡ get_or (set d k a) j 0
      front j l = get_or-set_other (set d k a) (n + k) j u 0 (λ q. omega arith)

      go : Dec (j ≡ k) → (get_or (set (set d k a) (n + k) u) j 0 ≡ get_or v j 0)
          × Holds (get_or (set (set d k a) (n + k) u) (n + j) 0) (from (64 * j + t) (wbit v))
      go (yes e) = (
        front j (omega arith) ∙ ap (λ q. get_or (set d k a) q 0) e ∙ get_or-set_same d k a 0 (omega arith) ∙ ea
            ∙ ap (λ q. get_or v q 0) (sym e),
        λ i hi.
            ap (λ q. digit 64 (get_or (set (set d k a) (n + k) u) (n + q) 0) i) e
            ∙ ap (λ w. digit 64 w i) (get_or-set_same (set d k a) (n + k) u 0 (omega (arith, length-set d k a)))
            ∙ hu i hi
            ∙ ap (λ q. wbit v (64 * q + t + i)) (sym e),
      )
      go (no o) =
          let w = was j (omega (arith, o)) in (
            front j (omega arith) ∙ get_or-set_other d k j a 0 o ∙ w.0,
            λ i hi.
                ap (λ w. digit 64 w i) (get_or-set_other (set d k a) (n + k) (n + j) u 0 (λ q. o (omega arith))
                ∙ get_or-set_other d k (n + j) a 0 (λ q. omega arith))
                ∙ w.1 i hi,
          )

-- Two neighbours of v hold the bits from bit t of the first on.
pub across : (v : List ℕ) (k t a b u : ℕ) → t < 64 → a ≡ get_or v k 0 → b ≡ get_or v (k + 1) 0 → Holds u (from t (wbit (a ∷ b ∷ [])))
    → Holds u (from (64 * k + t) (wbit v))
across v k t a b u ht ea eb hu i hi =
    hu i hi ∙ ap (λ y. wbit (y ∷ b ∷ []) (t + i)) ea ∙ ap (λ z. wbit (get_or v k 0 ∷ z ∷ []) (t + i)) eb ∙ neighbours v k t i ht hi

-- The first k words have the bits of x.
abbrev pub Right : List ℕ → Word → ℕ → Type 0
Right ws x k = (j : ℕ) → j < k → Holds (get_or ws j 0) (from (64 * j) x)

right_bits : (ws : List ℕ) (x : Word) (k : ℕ) → Right ws x k → (n : ℕ) → n < 64 * k → wbit ws n ≡ x n
right_bits ws x k right n h =
    let i = n % 64 in
    let e : n ≡ 64 * (n / 64) + i = omega arith in
    word_at ws n (n / 64) i (omega arith) e ∙ right (n / 64) (omega arith) i (omega arith) ∙ ap x (sym e)

-- The words of d, of which the last in front and the last of all are stored after the loop.
module _ (v d : List ℕ) (m n t : ℕ) (short : wbit v ≡ up_to m (wbit v)) (some : 1 ≤ n) (ht : t < 64) (e : m + t ≡ 64 * n)
    (all : Doubled v n t (n - 1) d) where
  abbrev x : Word
  x = twice m (wbit v)

  -- the word at which the bits begin again
  abbrev p : ℕ
  p = bit_or (get_or v (n - 1) 0) (get_or v 0 0 / 2 / 2 ^ (63 - t))

  abbrev at : List ℕ
  at = set d (n - 1) p

  long : length at ≡ length d
  long = length-set d (n - 1) p

  behind : (k j : ℕ) → k ≡ n + j → Holds (get_or d k 0) (from (64 * j + t) (wbit v)) → Holds (get_or d k 0) (from (64 * k) x)
  behind k j l hu i hi =
      let same : 64 * j + t + i ≡ 64 * k + i - m = omega arith in
      hu i hi ∙ ap (wbit v) same ∙ sym (joined_above m (64 * k + i) (wbit v) (λ i. wbit v (i - m)) (omega arith))

  right_at : get_or v 0 0 < 2 ^ 64 → n ≤ length d → Right at x (2 * n - 1)
  right_at hb room k h = go (ℕ_discrete k (n - 1))
    where
      whole : 1 + (63 - t) ≡ 64 - t
      whole = omega arith

      shifted : get_or v 0 0 / 2 / 2 ^ (63 - t) ≡ get_or v 0 0 / 2 ^ (64 - t)
      shifted = shr-shr (get_or v 0 0) 1 (63 - t) ∙ ap (λ s. get_or v 0 0 / 2 ^ s) whole

      go : Dec (k ≡ n - 1) → Holds (get_or at k 0) (from (64 * k) x)
      go (yes q) i hi =
          ap (λ j. digit 64 (get_or at j 0) i) q
          ∙ ap (λ w. digit 64 w i) (get_or-set_same d (n - 1) p 0 (omega arith) ∙ ap (bit_or (get_or v (n - 1) 0)) shifted)
          ∙ twice_at v m (n - 1) short (get_or v (n - 1) 0) (get_or v 0 0) (64 - t) refl refl hb (omega arith) (omega arith) i hi
          ∙ ap (λ j. x (64 * j + i)) (sym q)
      go (no o) i hi =
          ap (λ w. digit 64 w i) (get_or-set_other d (n - 1) k p 0 o)
          ∙ ⊎_elim
          (λ (l : n ≤ k).
          let j = k - n in
          let s : k ≡ n + j = omega arith in
          behind k j s (λ i hi. ap (λ q. digit 64 (get_or d q 0) i) s ∙ (all j (omega arith)).1 i hi) i hi)
          (λ (l : k < n).
          let before : k < n - 1 = omega (arith, o) in
          twice_before v m k short (get_or d k 0) (all k before).0 (omega arith) i hi)
          (le-or-lt n k)

  -- the last word
  right_end : (u : ℕ) → get_or v 0 0 < 2 ^ 64 → 2 * n - 1 < length at → Holds u (from t (wbit (get_or v (n - 1) 0 ∷ 0 ∷ [])))
      → Right (set at (2 * n - 1) u) x (2 * n)
  right_end u hb room hu k h = go (ℕ_discrete k (2 * n - 1))
    where
      last : List ℕ
      last = get_or v (n - 1) 0 ∷ 0 ∷ []

      end : (i : ℕ) → i < 64 → wbit last (t + i) ≡ x (64 * (2 * n - 1) + i)
      end i hi = ⊎_elim
          (λ (l : 64 ≤ t + i).
          word_at last (t + i) 1 (t + i - 64) (omega arith) (omega arith) ∙ digit_zero 64 (t + i - 64)
          ∙ sym (twice_past v m 0 short (64 * (2 * n - 1) + i) (omega arith)))
          (λ (l : t + i < 64).
          let same : 64 * (n - 1) + (t + i) ≡ 64 * (2 * n - 1) + i - m = omega arith in
          word_at last (t + i) 0 (t + i) l (omega arith) ∙ word_holds v (n - 1) (t + i) l ∙ ap (wbit v) same
          ∙ sym (joined_above m (64 * (2 * n - 1) + i) (wbit v) (λ i. wbit v (i - m)) (omega arith)))
          (le-or-lt 64 (t + i))

      go : Dec (k ≡ 2 * n - 1) → Holds (get_or (set at (2 * n - 1) u) k 0) (from (64 * k) x)
      go (yes q) i hi =
          ap (λ j. digit 64 (get_or (set at (2 * n - 1) u) j 0) i) q
          ∙ ap (λ w. digit 64 w i) (get_or-set_same at (2 * n - 1) u 0 (omega arith))
          ∙ hu i hi ∙ end i hi
          ∙ ap (λ j. x (64 * j + i)) (sym q)
      go (no o) i hi = ap (λ w. digit 64 w i) (get_or-set_other at (2 * n - 1) k u 0 o)
          ∙ right_at hb (omega (arith, long)) k (omega (arith, o)) i hi

  -- all bits, where d has no word for the last ones
  pub at_stored : get_or v 0 0 < 2 ^ 64 → n ≤ length d → length at ≤ 2 * n - 1 → 2 * m ≤ 64 * length d → wbit at ≡ x
  at_stored hb room l fits =
      fun_ext
      (λ i.
      ⊎_elim
      (λ (h : 64 * length d ≤ i). word_past at i (omega (arith, long)) ∙ sym (twice_past v m 0 short i (omega arith)))
      (λ (h : i < 64 * length d). right_bits at x (2 * n - 1) (right_at hb room) i (omega (arith, long)))
      (le-or-lt (64 * length d) i))

  -- and where it has one, and what is behind it is cleared
  pub end_stored : (u : ℕ) → get_or v 0 0 < 2 ^ 64 → 2 * n - 1 < length at → Holds u (from t (wbit (get_or v (n - 1) 0 ∷ 0 ∷ [])))
      → up_to (128 * n) (wbit (set at (2 * n - 1) u)) ≡ x
  end_stored u hb room hu =
      let ws = set at (2 * n - 1) u in
      fun_ext
      (λ i.
      ⊎_elim
      (λ (h : 128 * n ≤ i). up_to_above (128 * n) i (wbit ws) h ∙ sym (twice_past v m 0 short i (omega arith)))
      (λ (h : i < 128 * n). up_to_below (128 * n) i (wbit ws) h ∙ right_bits ws x (2 * n) (right_end u hb room hu) i (omega arith))
      (le-or-lt (128 * n) i))
