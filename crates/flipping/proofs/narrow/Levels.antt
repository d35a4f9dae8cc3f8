-- Weights: check after check, and the greatest score that they show. Assumes nothing.
use mathlib.Core.Path.{◌≡◌, refl, sym, ap, ap₂, ◌∙◌}
use mathlib.Core.Bool.{Bool, true, false, ◌&&◌, ◌||◌}
use mathlib.Core.List.{List, [], ◌∷◌}
use Prim.Native.Nat.{ℕ, suc, ◌+◌, ◌*◌, ◌≤◌, ◌<◌, zero-le}
use native.Mathlib.Nat.{lt_of_not-le}
use native.Mathlib.Decide.{dec_le}
use native.Mathlib.Omega.{arith}
use borrow.Author.Tests.{le-leb, lt-leb, leb-false, eq-eqb, ne_eqb}
use lib.Bits.{bit_and, bit_or}
use lib.Dec.{eqb, leb, ltb}
use lib.ListN.{get_or, length}
use Rattle.bits.specs.Bits.{Word, digit, tally, when◌then◌else◌, count_of, over, ◌⊕◌}
use Rattle.bits.proofs.Counting.{tally_le}
use Rattle.bits.proofs.Octets.{digit_zero}
use Rattle.vectors.specs.Vectors.{Holds}
use Rattle.vectors.proofs.Places.{digit_or, digit_and}
use Rattle.layout.specs.Lent.{kept, entries}
use Rattle.flipping.proofs.bounds.Weights.{leb_iff, and-true}
use Rattle.flipping.specs.declared.narrow.Weights.{Weights}
use Rattle.flipping.specs.narrow.Weighing.{lightly, Weighs, Peaked}

-- ---- one check more

level_more : (met n H : ℕ) (b : Bool) → ((leb n (H + suc met) && b) || leb n (H + met)) ≡ leb (n + 1) (H + tally b + suc met)
level_more met n H true = go (dec_le n (H + met)) (dec_le n (H + suc met))
  where
    go : Dec (n ≤ H + met) → Dec (n ≤ H + suc met)
        → ((leb n (H + suc met) && true) || leb n (H + met)) ≡ leb (n + 1) (H + 1 + suc met)
    go (yes l) q = ap₂ (λ s t. (s && true) || t) (le-leb n (H + suc met) (omega arith)) (le-leb n (H + met) l)
        ∙ sym (le-leb (n + 1) (H + 1 + suc met) (omega arith))
    go (no u) (yes l) = ap₂ (λ s t. (s && true) || t) (le-leb n (H + suc met) l) (lt-leb n (H + met) (lt_of_not-le u))
        ∙ sym (le-leb (n + 1) (H + 1 + suc met) (omega arith))
    go (no u) (no w) =
        let l = lt_of_not-le w in
        ap₂ (λ s t. (s && true) || t) (lt-leb n (H + suc met) l) (lt-leb n (H + met) (lt_of_not-le u))
        ∙ sym (lt-leb (n + 1) (H + 1 + suc met) (omega arith))
level_more met n H false = go (leb n (H + suc met))
    ∙ leb_iff n (H + met) (n + 1) (H + 0 + suc met) (λ l. omega arith) (λ l. omega arith)
  where
    go : (t : Bool) → ((t && false) || leb n (H + met)) ≡ leb n (H + met)
    go true = refl
    go false = refl

none_more : (n H : ℕ) (b : Bool) → H ≤ n → (leb n (H + 0) && b) ≡ leb (n + 1) (H + tally b + 0)
none_more n H true h = and-true (leb n (H + 0)) ∙ leb_iff n (H + 0) (n + 1) (H + 1 + 0) (λ l. omega arith) (λ l. omega arith)
none_more n H false h = go (leb n (H + 0))
  where
    go : (t : Bool) → (t && false) ≡ leb (n + 1) (H + 0 + 0)
    go true = sym (lt-leb (n + 1) (H + 0 + 0) (omega arith))
    go false = sym (lt-leb (n + 1) (H + 0 + 0) (omega arith))

module _ (counts f : Word) (hits : ℕ → ℕ) (n k : ℕ) where
  counted : (met : ℕ) (c : Bool) → (((c && leb n (hits k + suc met)) && f k) || (c && leb n (hits k + met)))
      ≡ (c && leb (n + 1) (hits k + tally (f k) + suc met))
  counted met true = level_more met n (hits k) (f k)
  counted met false = refl

  counted_none : (c : Bool) → hits k ≤ n → ((c && leb n (hits k + 0)) && f k) ≡ (c && leb (n + 1) (hits k + tally (f k) + 0))
  counted_none true h = none_more n (hits k) (f k) h
  counted_none false h = refl

  next_level : (v u x met : ℕ) → digit 64 v k ≡ lightly counts hits n (suc met) k → digit 64 u k ≡ lightly counts hits n met k
      → digit 64 x k ≡ f k → digit 64 (bit_or (bit_and v x) u) k ≡ lightly counts (λ i. hits i + tally (f i)) (n + 1) (suc met) k
  next_level v u x met a b q =
      digit_or 64 (bit_and v x) u k
      ∙ ap₂ ◌||◌ (digit_and 64 v x k ∙ ap₂ ◌&&◌ a q) b
      ∙ counted met (counts k)

  next-none : (v x : ℕ) → hits k ≤ n → digit 64 v k ≡ lightly counts hits n 0 k → digit 64 x k ≡ f k
      → digit 64 (bit_and v x) k ≡ lightly counts (λ i. hits i + tally (f i)) (n + 1) 0 k
  next-none v x h a q = digit_and 64 v x k ∙ ap₂ ◌&&◌ a q ∙ counted_none (counts k) h

pub weighs_more : (counts f : Word) (hits : ℕ → ℕ) (w : Weights) (x : ℕ) → Weighs counts hits w → Holds x f
    → Weighs counts (λ k. hits k + tally (f k)) (record {
      none = bit_and w.none x;
      one = bit_or (bit_and w.one x) w.none;
      two = bit_or (bit_and w.two x) w.one;
      checks = w.checks + 1;
    })
weighs_more counts f hits w x was is = record {
  none = λ k hk. next-none counts f hits w.checks k w.none x (was.few k hk) (was.none k hk) (is k hk);
  one = λ k hk. next_level counts f hits w.checks k w.one w.none x 0 (was.one k hk) (was.none k hk) (is k hk);
  two = λ k hk. next_level counts f hits w.checks k w.two w.one x 1 (was.two k hk) (was.one k hk) (is k hk);
  few = λ k hk. omega (arith, was.few k hk, tally_le (f k));
}

-- The same weights by hits that are as many.
pub weighs_as : {counts : Word} {hits hits' : ℕ → ℕ} {w : Weights} → ((k : ℕ) → k < 64 → hits k ≡ hits' k) → Weighs counts hits w
    → Weighs counts hits' w
weighs_as {counts} {hits} {hits'} {w} e was = record {
  none = λ k hk. was.none k hk ∙ ap (λ H. counts k && leb w.checks (H + 0)) (e k hk);
  one = λ k hk. was.one k hk ∙ ap (λ H. counts k && leb w.checks (H + 1)) (e k hk);
  two = λ k hk. was.two k hk ∙ ap (λ H. counts k && leb w.checks (H + 2)) (e k hk);
  few = λ k hk. omega (arith, e k hk, was.few k hk);
}

-- Before any check.
pub weighs_none : (counts : Word) (hits : ℕ → ℕ) (mask : ℕ) → ((k : ℕ) → hits k ≡ 0) → Holds mask counts
    → Weighs counts hits (record { none = mask; one = mask; two = mask; checks = 0 })
weighs_none counts hits mask zero is = record {
  none = at 0;
  one = at 1;
  two = at 2;
  few = λ k hk. omega (arith, zero k);
}
  where
    at : (met : ℕ) → Holds mask (lightly counts hits 0 met)
    at met k hk = is k hk ∙ sym (and-true (counts k)) ∙ ap (λ t. counts k && t) (sym (le-leb 0 (hits k + met) zero-le))

-- ---- two places

pub place_count : (m s : ℕ) (rest : List ℕ) (f : Word) → count_of (kept m s rest) f ≡ tally (ltb s m && f s) + count_of rest f
place_count m s rest f = go (ltb s m)
  where
    go : (t : Bool) → count_of (when t then s ∷ rest else rest) f ≡ tally (t && f s) + count_of rest f
    go true = refl
    go false = omega arith

place_length : (m s : ℕ) (rest : List ℕ) → length (kept m s rest) ≡ tally (ltb s m) + length rest
place_length m s rest = go (ltb s m)
  where
    go : (t : Bool) → length (when t then s ∷ rest else rest) ≡ tally t + length rest
    go true = omega arith
    go false = omega arith

place_over : (m s : ℕ) (rest : List ℕ) (f : Word) → over (kept m s rest) f ≡ (ltb s m && f s) ⊕ over rest f
place_over m s rest f = go (ltb s m)
  where
    go : (t : Bool) → over (when t then s ∷ rest else rest) f ≡ (t && f s) ⊕ over rest f
    go true = refl
    go false = refl

module _ (m : ℕ) (h : List ℕ) (at : ℕ) where
  abbrev s : ℕ
  s = get_or h at m

  abbrev s' : ℕ
  s' = get_or h (at + 1) m

  pub entries_count : (f : Word) → count_of (entries m h at) f ≡ tally (ltb s m && f s) + tally (ltb s' m && f s')
  entries_count f = omega (arith, place_count m s (kept m s' []) f, place_count m s' [] f)

  pub entries_length : length (entries m h at) ≡ tally (ltb s m) + tally (ltb s' m)
  entries_length = omega (arith, place_length m s (kept m s' []), place_length m s' [])

  pub entries_over : (f : Word) (b : Bool) → b ⊕ over (entries m h at) f ≡ (b ⊕ (ltb s m && f s)) ⊕ (ltb s' m && f s')
  entries_over f b =
      ap (λ t. b ⊕ t) (place_over m s (kept m s' []) f ∙ ap (λ t. (ltb s m && f s) ⊕ t) (place_over m s' [] f))
      ∙ regroup b (ltb s m && f s) (ltb s' m && f s')
    where
      regroup : (a b c : Bool) → a ⊕ (b ⊕ (c ⊕ false)) ≡ (a ⊕ b) ⊕ c
      regroup true true true = refl
      regroup true true false = refl
      regroup true false true = refl
      regroup true false false = refl
      regroup false true true = refl
      regroup false true false = refl
      regroup false false true = refl
      regroup false false false = refl

-- ---- the greatest score

module _ (counts : Word) (hits g : ℕ → ℕ) (n : ℕ) (is : (k : ℕ) → k < 64 → counts k ≡ true → g k + n ≡ 2 * hits k + 8) where
  -- No bit that counts has so few met checks.
  pub none_so : (met : ℕ) → Holds 0 (lightly counts hits n met) → (k : ℕ) → k < 64 → counts k ≡ true → hits k + met < n
  none_so met none k hk c =
      leb-false n (hits k + met)
      (sym (ap (λ t. t && leb n (hits k + met)) c) ∙ sym (none k hk) ∙ digit_zero 64 k)

  pub peaked_at : (met mask score : ℕ) → 0 < mask → score + 2 * met ≡ 8 + n
      → ((k : ℕ) → k < 64 → counts k ≡ true → hits k + met ≤ n) → Holds mask (lightly counts hits n met) → Peaked counts g score mask
  peaked_at met mask score some e low those = record {
    most = λ k hk c a. omega (arith, is k hk c, low k hk c);
    some = λ a. some;
    those = λ a k hk. those k hk ∙ same k hk (counts k) refl;
  }
    where
      scored : (k : ℕ) → k < 64 → counts k ≡ true → leb n (hits k + met) ≡ eqb (g k) score
      scored k hk c = go (dec_le n (hits k + met))
        where
          go : Dec (n ≤ hits k + met) → leb n (hits k + met) ≡ eqb (g k) score
          go (yes l) = le-leb n (hits k + met) l ∙ sym (eq-eqb (g k) score (omega (arith, is k hk c, low k hk c)))
          go (no u) =
              let l = lt_of_not-le u in
              lt-leb n (hits k + met) l ∙ sym (ne_eqb (g k) score (λ q. omega (arith, is k hk c)))

      same : (k : ℕ) → k < 64 → (t : Bool) → counts k ≡ t → (t && leb n (hits k + met)) ≡ (t && eqb (g k) score)
      same k hk true c = scored k hk c
      same k hk false c = refl

  pub peaked_none : n ≤ 6 → ((k : ℕ) → k < 64 → counts k ≡ true → hits k + 2 < n) → Peaked counts g 0 0
  peaked_none few low = record {
    most = λ k hk c a. absurd (omega (arith, is k hk c, low k hk c));
    some = λ a. absurd (omega arith);
    those = λ a. absurd (omega arith);
  }
