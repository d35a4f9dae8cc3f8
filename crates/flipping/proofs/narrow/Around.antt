-- Words that hold a row over and over, and the same turned. Assumes nothing.
use mathlib.Core.Path.{◌≡◌, refl, sym, ap, ap₂, ◌∙◌, subst}
use mathlib.Core.Bool.{false, ◌||◌}
use mathlib.Core.Logic.{⊎_elim}
use mathlib.Core.List.{[], ◌∷◌}
use Prim.Native.Nat.{ℕ, zero, suc, ◌+◌, ◌-◌, ◌*◌, ◌/◌, ◌%◌, ◌^◌, ◌≤◌, ◌<◌}
use native.Mathlib.Nat.{mod-lt, mod-eq_of_lt, mod-add-mod, add-mod-mod, add-mod_left, add-mul-mod_self_right, div-add-mod', zero-mul}
use native.Mathlib.Nat.{suc-mul, zero-add}
use native.Mathlib.Nat.{mod-mod_of_dvd, dvd_of_mod-eq-zero}
use native.Mathlib.Omega.{arith}
use lib.Bits.{bit_or}
use lib.Dec.{eqb}
use lib.ListN.{get_or}
use Rattle.bits.specs.Bits.{Word, digit}
use Rattle.bits.proofs.Orders.{le-or-lt}
use Rattle.bits.proofs.Sums.{eqb_iff}
use Rattle.rules.proofs.Blocks.{at_shift}
use Rattle.vectors.specs.Vectors.{wbit, Holds, up_to, from}
use Rattle.vectors.proofs.Places.{place, place_down, place_above, digit_or, or-none}
use Rattle.vectors.proofs.Spans.{up_to_below, up_to_above}
use Rattle.flipping.specs.narrow.Weighing.{around}

-- ---- a row is repeated by shifts

-- The digits of a number that was moved to the right.
down_before : (v n i : ℕ) → v < 2 ^ 64 → i < n → i < 64 → digit 64 (v / 2 ^ n) i ≡ false
down_before v n i small l h = place_down v n (64 - suc i) ∙ place_above v 64 (n + (64 - suc i)) small (omega arith)

down_behind : (v n i : ℕ) → n ≤ i → i < 64 → digit 64 (v / 2 ^ n) i ≡ digit 64 v (i - n)
down_behind v n i l h =
    let e : n + (64 - suc i) ≡ 64 - suc (i - n) = omega arith in
    place_down v n (64 - suc i) ∙ ap (place v) e

pub once : (v m : ℕ) (f : Word) → Holds v (up_to m f) → Holds v (up_to m (around m f))
once v m f is i hi =
    is i hi
    ∙ ⊎_elim
    (λ (l : m ≤ i). up_to_above m i f l ∙ sym (up_to_above m i (around m f) l))
    (λ (l : i < m). up_to_below m i f l ∙ ap f (sym (mod-eq_of_lt l)) ∙ sym (up_to_below m i (around m f) l))
    (le-or-lt m i)

module _ (m : ℕ) (f : Word) (v n : ℕ) (small : v < 2 ^ 64) (whole : n % m ≡ 0) (was : Holds v (up_to n (around m f))) where
  abbrev g : Word
  g = around m f

  pub twice_as_many : Holds (bit_or v (v / 2 ^ n)) (up_to (n * 2) g)
  twice_as_many i hi = digit_or 64 v (v / 2 ^ n) i ∙ ⊎_elim behind before (le-or-lt n i)
    where
      before : i < n → (digit 64 v i || digit 64 (v / 2 ^ n) i) ≡ up_to (n * 2) g i
      before l =
          ap (λ t. digit 64 v i || t) (down_before v n i small l hi)
          ∙ or-none (digit 64 v i) ∙ was i hi ∙ up_to_below n i g l ∙ sym (up_to_below (n * 2) i g (omega arith))

      same : n ≤ i → (i - n) % m ≡ i % m
      same l =
          let e : n + (i - n) ≡ i = omega arith in
          ap (λ z. z % m) (sym (zero-add (i - n))) ∙ ap (λ z. (z + (i - n)) % m) (sym whole) ∙ mod-add-mod n m (i - n) ∙ ap (λ z. z % m) e

      behind : n ≤ i → (digit 64 v i || digit 64 (v / 2 ^ n) i) ≡ up_to (n * 2) g i
      behind l =
          ap₂ (λ s t. s || t) (was i hi ∙ up_to_above n i g l) (down_behind v n i l hi ∙ was (i - n) (omega arith))
          ∙ ⊎_elim
          (λ (far : n ≤ i - n). up_to_above n (i - n) g far ∙ sym (up_to_above (n * 2) i g (omega arith)))
          (λ (near : i - n < n). up_to_below n (i - n) g near ∙ ap f (same l) ∙ sym (up_to_below (n * 2) i g (omega arith)))
          (le-or-lt n (i - n))

pub whole_twice : (n m : ℕ) → n % m ≡ 0 → n * 2 % m ≡ 0
whole_twice n m e =
    let d : n * 2 ≡ n + n = omega arith in
    ap (λ z. z % m) d ∙ sym (mod-add-mod n m n) ∙ ap (λ z. (z + n) % m) e ∙ ap (λ z. z % m) (zero-add n) ∙ e

-- ---- a word twice over is read from any of its bits on

both_same : (v n : ℕ) → n < 128 → wbit (v ∷ v ∷ []) n ≡ digit 64 v (n % 64)
unfolding wbit
both_same v n l = go (n / 64) (omega arith)
  where
    go : (q : ℕ) → q < 2 → digit 64 (get_or (v ∷ v ∷ []) q 0) (n % 64) ≡ digit 64 v (n % 64)
    go zero h = refl
    go (suc zero) h = refl
    go (suc (suc q)) h = absurd (omega arith)

module _ (m : ℕ) (some : 1 ≤ m) (even : 64 % m ≡ 0) where
  by_row : (n : ℕ) → n % 64 % m ≡ n % m
  by_row n = mod-mod_of_dvd m n (dvd_of_mod-eq-zero m even)

  whole : 64 / m * m ≡ 64
  whole = omega (arith, div-add-mod' 64 m, even)

  -- What a turned word has at bit i, by how far it is turned.
  turned_at : (v r t i : ℕ) (f : Word) → i < 64 → Holds v (around m f) → Holds r (from (t % 64) (wbit (v ∷ v ∷ [])))
      → digit 64 r i ≡ f ((t + i) % m)
  turned_at v r t i f hi is turned =
      turned i hi
      ∙ both_same v (t % 64 + i) (omega arith)
      ∙ is ((t % 64 + i) % 64) (mod-lt (t % 64 + i) (omega arith))
      ∙ ap f (by_row (t % 64 + i) ∙ sym (mod-add-mod (t % 64) m i) ∙ ap (λ z. (z + i) % m) (by_row t) ∙ mod-add-mod t m i)

  -- 64 is a row and whole rows.
  off : (a b : ℕ) → b ≡ a + (64 - m) → b % m ≡ a % m
  off a b e = go (64 / m) whole
    where
      go : (q : ℕ) → q * m ≡ 64 → b % m ≡ a % m
      go zero p = absurd (omega (arith, zero-mul m))
      go (suc q) p =
          let s : b ≡ a + q * m = omega (arith, suc-mul q m) in
          ap (λ z. z % m) s ∙ add-mul-mod_self_right a q m

  pub turned_back : (v r s : ℕ) (f : Word) → s < m → m ≤ 64 → Holds v (around m f)
      → Holds r (from ((64 - s) % 64) (wbit (v ∷ v ∷ []))) → Holds r (λ k. f ((k + (m - s)) % m))
  turned_back v r s f l fits is turned k hk =
      turned_at v r (64 - s) k f hk is turned ∙ ap f (off (k + (m - s)) (64 - s + k) (omega arith))

  -- Which bit is the first of a row, after a turn.
  module _ (s k i : ℕ) (hs : s < m) (hk : k < m) (fits : m ≤ 64) where
    abbrev z : ℕ
    z = (i % m + s) % m

    near : z < m
    near = mod-lt (i % m + s) some

    meets : eqb 0 ((m - k + z) % m) ≡ eqb z k
    meets = ⊎_elim up down (le-or-lt k z)
      where
        up : k ≤ z → eqb 0 ((m - k + z) % m) ≡ eqb z k
        up l =
            let u : m - k + z ≡ m + (z - k) = omega (arith, near) in
            let w : (m - k + z) % m ≡ z - k = ap (λ q. q % m) u ∙ add-mod_left m (z - k) ∙ mod-eq_of_lt (omega (arith, near)) in
            eqb_iff 0 ((m - k + z) % m) z k (λ p. omega (arith, w)) (λ p. omega (arith, w))

        down : z < k → eqb 0 ((m - k + z) % m) ≡ eqb z k
        down l =
            let w : (m - k + z) % m ≡ m - k + z = mod-eq_of_lt (omega arith) in
            eqb_iff 0 ((m - k + z) % m) z k (λ p. omega (arith, w)) (λ p. omega (arith, w))

    shifted : eqb z k ≡ eqb (i % m) ((k + (m - s)) % m)
    shifted =
        let p : suc (m - 1) ≡ m = omega arith in
        subst (λ M. s < M → k < M → i % m < M → eqb ((i % m + s) % M) k ≡ eqb (i % m) ((k + (M - s)) % M)) p
        (λ a b c. at_shift (m - 1) k s (i % m) b a c) hs hk (mod-lt i some)

    pub turned_one : eqb 0 ((64 + s - k + i) % m) ≡ eqb (i % m) ((k + (m - s)) % m)
    turned_one =
        let inner : (m - k + z) % m ≡ (64 + s - k + i) % m =
        add-mod-mod (m - k) (i % m + s) m
        ∙ ap (λ q. q % m) (omega arith)
        ∙ add-mod-mod (m - k + s) i m
        ∙ sym (off (m - k + s + i) (64 + s - k + i) (omega arith)) in
        ap (eqb 0) (sym inner) ∙ meets ∙ shifted

  pub turned_first : (v r s k : ℕ) → s < m → k < m → m ≤ 64 → Holds v (around m (eqb 0))
      → Holds r (from ((64 + s - k) % 64) (wbit (v ∷ v ∷ []))) → Holds r (λ i. eqb (i % m) ((k + (m - s)) % m))
  turned_first v r s k hs hk fits is turned i hi = turned_at v r (64 + s - k) i (eqb 0) hi is turned ∙ turned_one s k i hs hk fits
