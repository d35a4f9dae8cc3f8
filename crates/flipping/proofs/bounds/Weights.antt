-- The bits of a word of a block, weighed: how many of their checks are broken, start after start.
-- Assumes nothing.
use mathlib.Core.Path.{◌≡◌, refl, sym, ap, ap₂, ◌∙◌}
use mathlib.Core.Bool.{Bool, true, false, not, ◌&&◌, ◌||◌}
use mathlib.Core.List.{List}
use Prim.Native.Nat.{ℕ, zero, suc, ◌+◌, ◌-◌, ◌*◌, ◌%◌, ◌≤◌, ◌<◌}
use native.Mathlib.Nat.{lt_of_not-le}
use native.Mathlib.Decide.{dec_le, dec_lt, ℕ_discrete}
use native.Mathlib.Omega.{arith}
use borrow.Author.Tests.{le-leb, lt-leb, leb-false, lt-ltb, le-ltb}
use lib.Bits.{bit_and, bit_or}
use lib.Dec.{eqb, leb, ltb}
use lib.ListN.{get_or, length, set}
use lib.Seq.{get_or-set_same, get_or-set_other}
use Rattle.bits.specs.Bits.{Word, ◌⊕◌, digit, count, tally}
use Rattle.bits.proofs.Counting.{count-le, count_add, count_next}
use Rattle.vectors.proofs.Places.{digit_or, digit_and}
use Rattle.flipping.specs.bounds.Reading.{hits}

pub leb_iff : (a b c d : ℕ) → (a ≤ b → c ≤ d) → (b < a → d < c) → leb a b ≡ leb c d
leb_iff a b c d f g = go (dec_le a b)
  where
    go : Dec (a ≤ b) → leb a b ≡ leb c d
    go (yes h) = le-leb a b h ∙ sym (le-leb c d (f h))
    go (no u) = lt-leb a b (lt_of_not-le u) ∙ sym (lt-leb c d (g (lt_of_not-le u)))

-- ---- none met, or at most one: H of e checks are broken, and one more check is looked at

none_more : (e H : ℕ) (x : Bool) → H ≤ e → ((leb e (H + 0) && x) || false) ≡ leb (e + 1) (H + tally x + 0)
none_more e H true h = go (dec_le e H)
  where
    go : Dec (e ≤ H) → ((leb e (H + 0) && true) || false) ≡ leb (e + 1) (H + 1 + 0)
    go (yes l) = ap (λ t. (t && true) || false) (le-leb e (H + 0) (omega arith)) ∙ sym (le-leb (e + 1) (H + 1 + 0) (omega arith))
    go (no u) =
        let l = lt_of_not-le u in
        ap (λ t. (t && true) || false) (lt-leb e (H + 0) (omega arith)) ∙ sym (lt-leb (e + 1) (H + 1 + 0) (omega arith))
none_more e H false h = go (leb e (H + 0))
  where
    go : (t : Bool) → ((t && false) || false) ≡ leb (e + 1) (H + 0 + 0)
    go true = sym (lt-leb (e + 1) (H + 0 + 0) (omega arith))
    go false = sym (lt-leb (e + 1) (H + 0 + 0) (omega arith))

one_more : (e H : ℕ) (x : Bool) → H ≤ e → ((leb e (H + 1) && x) || leb e H) ≡ leb (e + 1) (H + tally x + 1)
one_more e H true h = go (dec_le e H) (dec_le e (H + 1))
  where
    go : Dec (e ≤ H) → Dec (e ≤ H + 1) → ((leb e (H + 1) && true) || leb e H) ≡ leb (e + 1) (H + 1 + 1)
    go (yes l) q = ap₂ (λ s t. (s && true) || t) (le-leb e (H + 1) (omega arith)) (le-leb e H l)
        ∙ sym (le-leb (e + 1) (H + 1 + 1) (omega arith))
    go (no u) (yes l) =
        ap₂ (λ s t. (s && true) || t) (le-leb e (H + 1) l) (lt-leb e H (lt_of_not-le u)) ∙ sym (le-leb (e + 1) (H + 1 + 1) (omega arith))
    go (no u) (no w) =
        let l = lt_of_not-le w in
        ap₂ (λ s t. (s && true) || t) (lt-leb e (H + 1) l) (lt-leb e H (lt_of_not-le u)) ∙ sym (lt-leb (e + 1) (H + 1 + 1) (omega arith))
one_more e H false h = go (leb e (H + 1)) ∙ leb_iff e H (e + 1) (H + 0 + 1) (λ l. omega arith) (λ l. omega arith)
  where
    go : (t : Bool) → ((t && false) || leb e H) ≡ leb e H
    go true = refl
    go false = refl

pub found_more : (met e H : ℕ) (x : Bool) → met ≤ 1 → H ≤ e
    → ((leb e (H + met) && x) || (eqb (met % 2) 1 && leb e H)) ≡ leb (e + 1) (H + tally x + met)
found_more zero e H x m h = none_more e H x h
found_more (suc zero) e H x m h = one_more e H x h
found_more (suc (suc n)) e H x m h = absurd (omega arith)

pub spare_more : (one : Bool) (e H : ℕ) (x : Bool) → H ≤ e → ((one && leb e H) && x) ≡ (one && leb (e + 1) (H + tally x))
spare_more false e H x h = refl
spare_more true e H true h = go (dec_le e H)
  where
    go : Dec (e ≤ H) → (leb e H && true) ≡ leb (e + 1) (H + 1)
    go (yes l) = ap (λ t. t && true) (le-leb e H l) ∙ sym (le-leb (e + 1) (H + 1) (omega arith))
    go (no u) =
        let l = lt_of_not-le u in
        ap (λ t. t && true) (lt-leb e H l) ∙ sym (lt-leb (e + 1) (H + 1) (omega arith))
spare_more true e H false h = go (leb e H)
  where
    go : (t : Bool) → (t && false) ≡ leb (e + 1) (H + 0)
    go true = sym (lt-leb (e + 1) (H + 0) (omega arith))
    go false = sym (lt-leb (e + 1) (H + 0) (omega arith))

pub and-true : (a : Bool) → (a && true) ≡ a
and-true true = refl
and-true false = refl

-- One start more: x has the bits at start e.
module _ (d : Word) (starts : List ℕ) (first e at i x : ℕ) (sees : digit 64 x i ≡ d (get_or starts (first + e) 0 + at + i)) where
  pub hit_next : hits d starts first (e + 1) (at + i) ≡ hits d starts first e (at + i) + tally (digit 64 x i)
  hit_next =
      let f : Word = λ j. d (get_or starts (first + j) 0 + (at + i)) in
      let same : get_or starts (first + e) 0 + at + i ≡ get_or starts (first + e) 0 + (at + i) = omega arith in
      count_next e f ∙ ap (λ b. count e f + tally b) (sym (sees ∙ ap d same))

  module _ (met found spare : ℕ) (low : met ≤ 1) (was : digit 64 found i ≡ leb e (hits d starts first e (at + i) + met))
      (none : digit 64 spare i ≡ (eqb (met % 2) 1 && leb e (hits d starts first e (at + i)))) where
    few : hits d starts first e (at + i) ≤ e
    few = count-le e (λ j. d (get_or starts (first + j) 0 + (at + i)))

    pub few_found : digit 64 (bit_or (bit_and found x) spare) i ≡ leb (e + 1) (hits d starts first (e + 1) (at + i) + met)
    few_found =
        digit_or 64 (bit_and found x) spare i
        ∙ ap₂ ◌||◌ (digit_and 64 found x i ∙ ap (λ t. t && digit 64 x i) was) none
        ∙ found_more met e (hits d starts first e (at + i)) (digit 64 x i) low few
        ∙ ap (λ n. leb (e + 1) (n + met)) (sym hit_next)

    pub few_spare : digit 64 (bit_and spare x) i ≡ (eqb (met % 2) 1 && leb (e + 1) (hits d starts first (e + 1) (at + i)))
    few_spare =
        digit_and 64 spare x i ∙ ap (λ t. t && digit 64 x i) none
        ∙ spare_more (eqb (met % 2) 1) e (hits d starts first e (at + i)) (digit 64 x i) few
        ∙ ap (λ n. eqb (met % 2) 1 && leb (e + 1) n) (sym hit_next)

-- The starts that are not looked at can't make up for what is missing.
pub hits_rest : (d : Word) (starts : List ℕ) (first e n k : ℕ) → e ≤ n → hits d starts first n k ≤ hits d starts first e k + (n - e)
hits_rest d starts first e n k h =
    let f : Word = λ j. d (get_or starts (first + j) 0 + k) in
    let u : n ≡ e + (n - e) = omega arith in
    omega (arith, ap (λ j. count j f) u, count_add e (n - e) f, count-le (n - e) (λ i. f (e + i)))

pub too_few : (d : Word) (starts : List ℕ) (first e n k met : ℕ) → e ≤ n → leb e (hits d starts first e k + met) ≡ false
    → false ≡ leb n (hits d starts first n k + met)
too_few d starts first e n k met h q =
    sym (lt-leb n (hits d starts first n k + met)
    (omega (arith, leb-false e (hits d starts first e k + met) q, hits_rest d starts first e n k h)))

-- ---- at least so many broken: a count that begins below 8 by so many has passed 7

pub over-is : (o : Bool) (v need H : ℕ) → need ≤ 8 → v ≤ 7 → v + 8 * tally o ≡ 8 - need + H → o ≡ leb need H
over-is true v need H a b e = sym (le-leb need H (omega arith))
over-is false v need H a b e = sym (lt-leb need H (omega arith))

-- It passes 7 but once.
pub once : (o p : Bool) (v total : ℕ) → total < 16 → v + 8 * tally p + 8 * tally o ≡ total → v + 8 * tally (o || p) ≡ total
once true true v total a e = absurd (omega arith)
once true false v total a e = omega arith
once false p v total a e = omega arith

-- One start more.
module _ (d : Word) (starts : List ℕ) (first e at i x : ℕ) (sees : digit 64 x i ≡ d (get_or starts (first + e) 0 + at + i)) where
  pub many_more : (need v v' over more : ℕ) → 1 ≤ need → need ≤ 8 → e < 8
      → v + 8 * tally (digit 64 over i) ≡ 8 - need + hits d starts first e (at + i)
      → v' + 8 * tally (digit 64 more i) ≡ v + tally (digit 64 x i)
      → v' + 8 * tally (digit 64 (bit_or over more) i) ≡ 8 - need + hits d starts first (e + 1) (at + i)
  many_more need v v' over more some most few was adds =
      ap (λ b. v' + 8 * tally b) (digit_or 64 over more i)
      ∙ once (digit 64 over i) (digit 64 more i) v' (8 - need + hits d starts first (e + 1) (at + i))
      (omega (arith, count-le (e + 1) (λ j. d (get_or starts (first + j) 0 + (at + i)))))
      (omega (arith, hit_next d starts first e at i x sees))

-- ---- what stands between two bits

pub cut : (v a b : Bool) → (a && v) ⊕ (b && (a && v)) ≡ ((not b && a) && v)
cut true true true = refl
cut true true false = refl
cut true false true = refl
cut true false false = refl
cut false true true = refl
cut false true false = refl
cut false false true = refl
cut false false false = refl

pub not-before : (k m : ℕ) → not (ltb k m) ≡ leb m k
not-before k m = go (dec_lt k m)
  where
    go : Dec (k < m) → not (ltb k m) ≡ leb m k
    go (yes l) = ap not (lt-ltb k m l) ∙ sym (lt-leb m k l)
    go (no u) =
        let l : m ≤ k = omega (arith, lt_of_not-le u) in
        ap not (le-ltb k m l) ∙ sym (le-leb m k l)

-- ---- a list that is written number by number

pub set_more : (l : List ℕ) (f : ℕ → ℕ) (b v : ℕ) → b < length l → v ≡ f b → ((i : ℕ) → i < b → get_or l i 0 ≡ f i) → (i : ℕ) → i < b + 1
    → get_or (set l b v) i 0 ≡ f i
set_more l f b v room e was i h = go (ℕ_discrete i b)
  where
    go : Dec (i ≡ b) → get_or (set l b v) i 0 ≡ f i
    go (yes q) = ap (λ k. get_or (set l b v) k 0) q ∙ get_or-set_same l b v 0 room ∙ e ∙ ap f (sym q)
    go (no d) = get_or-set_other l b i v 0 d ∙ was i (omega arith)

pub set_rest : (l l₀ : List ℕ) (b v : ℕ) → ((i : ℕ) → b ≤ i → get_or l i 0 ≡ get_or l₀ i 0) → (i : ℕ) → b + 1 ≤ i
    → get_or (set l b v) i 0 ≡ get_or l₀ i 0
set_rest l l₀ b v was i h = get_or-set_other l b i v 0 (λ q. omega arith) ∙ was i (omega arith)
