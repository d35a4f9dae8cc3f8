-- The doubled rows after a flip, and the bounds after it. For any code that is lent.
-- Assumes nothing.
use mathlib.Core.Path.{◌≡◌, refl, sym, ap, ap₂, ◌∙◌, subst}
use mathlib.Core.Bool.{Bool, true, false, ◌&&◌}
use mathlib.Core.List.{List, [], ◌∷◌}
use Prim.Native.Nat.{ℕ, zero, suc, ◌+◌, ◌-◌, ◌*◌, ◌/◌, ◌%◌, ◌≤◌, ◌<◌}
use native.Mathlib.Nat.{mod-lt, div-add-mod', div-lt_iff_lt-mul, lt_of_not-le, add-zero, zero-add, mod-eq_of_lt, add-mod_left}
use native.Mathlib.Numerals.{add-one}
use native.Mathlib.Decide.{dec_lt, ℕ_discrete}
use native.Mathlib.Omega.{arith}
use borrow.Author.Tests.{lt-ltb, le-ltb, ltb-false, lt-leb, leb-false, eq-eqb, ne_eqb}
use lib.Dec.{eqb, leb, ltb, lit<}
use lib.ListN.{get_or, length}
use Rattle.bits.specs.Bits.{Word, ◌⊕◌, sum, count, tally, flipped, when◌then◌else◌, over, count_of}
use Rattle.bits.proofs.Counting.{none_counted}
use Rattle.bits.proofs.Sums.{⊕-assoc, ⊕-false, ⊕-comm, sum_same, eqb_iff}
use Rattle.rules.specs.Codes.{Code, bits}
use Rattle.rules.specs.Checks.{met_of}
use Rattle.rules.proofs.Flips.{met_flip, broken_met}
use Rattle.layout.specs.declared.Shape.{Shape}
use Rattle.vectors.specs.Vectors.{wbit}
use Rattle.layout.specs.Lent.{Fit, total, shifts_of, Lent, laid, score}
use Rattle.layout.proofs.Lending.{total_same}
use Rattle.layout.proofs.Laying.{laid_at}
use Rattle.flipping.specs.bounds.Reading.{Twice, other, Starts, Gathered}
use Rattle.flipping.specs.bounds.Keeping.{Under, Ready, Kept}
use Rattle.flipping.proofs.bounds.Turned.{degree_is}

-- ---- the checks that are flipped, one start after the other

pub flipped_none : (b : Bool) (f : Word) → b ≡ b ⊕ sum 0 f
unfolding sum
flipped_none b f = sym (⊕-false b)

sum_more : (n : ℕ) (f : Word) → sum (n + 1) f ≡ sum n f ⊕ f n
unfolding sum
sum_more n f = ap (λ k. sum k f) (add-one n)

pub flipped_more : (f : Word) (e : ℕ) (a b x y : Bool) → f e ≡ x ⊕ y → a ≡ b ⊕ sum e f → a ⊕ x ⊕ y ≡ b ⊕ sum (e + 1) f
flipped_more f e a b x y here was =
    ⊕-assoc a x y ∙ ap (λ z. z ⊕ (x ⊕ y)) was ∙ ⊕-assoc b (sum e f) (x ⊕ y) ∙ ap (λ z. b ⊕ (sum e f ⊕ z)) (sym here)
    ∙ ap (λ z. b ⊕ z) (sym (sum_more e f))

-- ---- a sum modulo 2 is whether a count is odd

abbrev odd : ℕ → Bool
odd n = eqb (n % 2) 1

odd_more : (n : ℕ) (b : Bool) → odd (n + tally b) ≡ odd n ⊕ b
odd_more n true = go (ℕ_discrete (n % 2) 1)
  where
    go : Dec (n % 2 ≡ 1) → odd (n + 1) ≡ odd n ⊕ true
    go (yes e) = ne_eqb ((n + 1) % 2) 1 (λ q. omega arith) ∙ ap (λ t. t ⊕ true) (sym (eq-eqb (n % 2) 1 e))
    go (no u) =
        let l : n % 2 < 2 = mod-lt n (lit< tt) in
        let e : (n + 1) % 2 ≡ 1 = omega (arith, u) in
        eq-eqb ((n + 1) % 2) 1 e ∙ ap (λ t. t ⊕ true) (sym (ne_eqb (n % 2) 1 u))
odd_more n false = ap odd (add-zero n) ∙ sym (⊕-false (odd n))

sum_odd : (n : ℕ) (f : Word) → sum n f ≡ odd (count n f)
unfolding sum count
sum_odd zero f = refl
sum_odd (suc n) f = ap (λ t. t ⊕ f n) (sum_odd n f) ∙ sym (odd_more (count n f) (f n))

over_odd : (S : List ℕ) (f : Word) → over S f ≡ odd (count_of S f)
over_odd [] f = refl
over_odd (s ∷ S) f =
    let e : count_of S f + tally (f s) ≡ tally (f s) + count_of S f = omega arith in
    ap (λ t. f s ⊕ t) (over_odd S f) ∙ ⊕-comm (f s) (odd (count_of S f)) ∙ sym (odd_more (count_of S f) (f s)) ∙ ap odd e

-- ---- sums over rows

none_of : (S : List ℕ) (f : Word) → ((s : ℕ) → f s ≡ false) → count_of S f ≡ 0
none_of [] f h = refl
none_of (s ∷ S) f h = ap₂ (λ b n. tally b + n) (h s) (none_of S f h)

same_of : (S : List ℕ) (f g : Word) → ((s : ℕ) → f s ≡ g s) → count_of S f ≡ count_of S g
same_of [] f g h = refl
same_of (s ∷ S) f g h = ap₂ (λ b n. tally b + n) (h s) (same_of S f g h)

total_none : (n : ℕ) (f : ℕ → ℕ) → ((i : ℕ) → f i ≡ 0) → total n f ≡ 0
unfolding total
total_none zero f h = refl
total_none (suc n) f h = ap₂ ◌+◌ (total_none n f h) (h n)

total-one : (n : ℕ) (f : ℕ → ℕ) (r : ℕ) → r < n → ((i : ℕ) → (i ≡ r → ⊥) → f i ≡ 0) → total n f ≡ f r
unfolding total
total-one zero f r l h = absurd (omega arith)
total-one (suc n) f r l h = go (λ u. total-one n f r u h) (ℕ_discrete n r)
  where
    before : (k : ℕ) → k ≤ r → total k f ≡ 0
    before zero u = refl
    before (suc k) u = ap₂ ◌+◌ (before k (omega arith)) (h k (λ q. omega arith))

    go : (r < n → total n f ≡ f r) → Dec (n ≡ r) → total (suc n) f ≡ f r
    go ih (yes e) = ap₂ ◌+◌ (before n (omega arith)) (ap f e) ∙ zero-add (f r)
    go ih (no u) = ap₂ ◌+◌ (ih (omega arith)) (h n u) ∙ add-zero (f r)

-- ---- the two places of a check

-- Places i and q of a row of M bits that stands twice over have the same check where q is i or the other place of i.
module _ (M r i p : ℕ) (some : 1 ≤ M) (small : M ≤ 512) (hi : i < 2 * M) (hp : p % 1024 < 2 * M) where
  low : (n : ℕ) → n < M → n % M ≡ n
  low n h = mod-eq_of_lt h

  high : (n : ℕ) → M ≤ n → n < 2 * M → n % M ≡ n - M
  high n a b =
      let e : n ≡ M + (n - M) = omega arith in
      ap (λ k. k % M) e ∙ add-mod_left M (n - M) ∙ mod-eq_of_lt (omega arith)

  pub places : eqb (1024 * r + i) p ⊕ eqb (1024 * r + i) (other M p) ≡ (eqb (p / 1024) r && eqb (p % 1024 % M) (i % M))
  places = go (ℕ_discrete (p / 1024) r) (dec_lt (p % 1024) M) (dec_lt i M)
    where
      q : ℕ
      q = p % 1024

      is_low : q < M → other M p ≡ p + M
      is_low l = ap (λ t. when t then p + M else p - M) (lt-ltb q M l)

      is_high : M ≤ q → other M p ≡ p - M
      is_high l = ap (λ t. when t then p + M else p - M) (le-ltb q M l)

      both : (s t : Bool) → (eqb (1024 * r + i) p ≡ s) → (eqb (1024 * r + i) (other M p) ≡ t)
          → eqb (1024 * r + i) p ⊕ eqb (1024 * r + i) (other M p) ≡ s ⊕ t
      both s t a b = ap₂ ◌⊕◌ a b

      go : Dec (p / 1024 ≡ r) → Dec (q < M) → Dec (i < M)
          → eqb (1024 * r + i) p ⊕ eqb (1024 * r + i) (other M p) ≡ (eqb (p / 1024) r && eqb (q % M) (i % M))
      go (no u) (yes l) z =
          both false false (ne_eqb (1024 * r + i) p (λ e. u (omega arith)))
          (ap (eqb (1024 * r + i)) (is_low l) ∙ ne_eqb (1024 * r + i) (p + M) (λ e. u (omega arith)))
          ∙ ap (λ t. t && eqb (q % M) (i % M)) (sym (ne_eqb (p / 1024) r u))
      go (no u) (no w) z =
          let l : M ≤ q = omega (arith, lt_of_not-le w) in
          both false false (ne_eqb (1024 * r + i) p (λ e. u (omega arith)))
          (ap (eqb (1024 * r + i)) (is_high l) ∙ ne_eqb (1024 * r + i) (p - M) (λ e. u (omega arith)))
          ∙ ap (λ t. t && eqb (q % M) (i % M)) (sym (ne_eqb (p / 1024) r u))
      go (yes e) (yes l) (yes z) =
          ap₂ ◌⊕◌ (eqb_iff (1024 * r + i) p q i (λ y. omega arith) (λ y. omega arith))
          (ap (eqb (1024 * r + i)) (is_low l) ∙ ne_eqb (1024 * r + i) (p + M) (λ y. omega arith))
          ∙ ⊕-false (eqb q i) ∙ ap₂ ◌&&◌ (sym (eq-eqb (p / 1024) r e)) (ap₂ eqb (sym (low q l)) (sym (low i z)))
      go (yes e) (yes l) (no w) =
          let z : M ≤ i = omega (arith, lt_of_not-le w) in
          ap₂ ◌⊕◌ (ne_eqb (1024 * r + i) p (λ y. omega arith))
          (ap (eqb (1024 * r + i)) (is_low l) ∙ eqb_iff (1024 * r + i) (p + M) q (i - M) (λ y. omega arith) (λ y. omega arith))
          ∙ ap₂ ◌&&◌ (sym (eq-eqb (p / 1024) r e)) (ap₂ eqb (sym (low q l)) (sym (high i z hi)))
      go (yes e) (no w) (yes z) =
          let l : M ≤ q = omega (arith, lt_of_not-le w) in
          ap₂ ◌⊕◌ (ne_eqb (1024 * r + i) p (λ y. omega arith))
          (ap (eqb (1024 * r + i)) (is_high l) ∙ eqb_iff (1024 * r + i) (p - M) (q - M) i (λ y. omega arith) (λ y. omega arith))
          ∙ ap₂ ◌&&◌ (sym (eq-eqb (p / 1024) r e)) (ap₂ eqb (sym (high q l hp)) (sym (low i z)))
      go (yes e) (no w) (no v) =
          let l : M ≤ q = omega (arith, lt_of_not-le w) in
          let z : M ≤ i = omega (arith, lt_of_not-le v) in
          ap₂ ◌⊕◌ (eqb_iff (1024 * r + i) p (q - M) (i - M) (λ y. omega arith) (λ y. omega arith))
          (ap (eqb (1024 * r + i)) (is_high l) ∙ ne_eqb (1024 * r + i) (p - M) (λ y. omega arith))
          ∙ ⊕-false (eqb (q - M) (i - M)) ∙ ap₂ ◌&&◌ (sym (eq-eqb (p / 1024) r e)) (ap₂ eqb (sym (high q l hp)) (sym (high i z hi)))

-- ---- a flip

module _ (h : List ℕ) (sh : Shape) (b k : ℕ) (hk : k < sh.size) (small : sh.size ≤ 512) (starts : List ℕ) (n : ℕ)
    (are : Starts h sh b starts n) where
  abbrev M : ℕ
  M = sh.size

  -- An entry s of row r starts in row r, and k places on it is still there.
  in_row : (r s : ℕ) → (1024 * r + (M - s) + k) % 1024 ≡ k + (M - s)
  in_row r s = omega arith

  row_of : (r s : ℕ) → (1024 * r + (M - s) + k) / 1024 ≡ r
  row_of r s = omega arith

  abbrev far : Word
  far p = ltb (2 * M) (suc ((p + k) % 1024))

  none_far : count n (λ e. far (get_or starts (8 * b + e) 0)) ≡ 0
  unfolding total
  none_far =
      are.each far
      ∙ total_none sh.rows _ (λ r. none_of (shifts_of sh h r b) _
      (λ s. le-ltb (2 * M) (suc ((1024 * r + (M - s) + k) % 1024)) (omega (arith, in_row r s))))

  pub start_near : (e : ℕ) → e < n → (get_or starts (8 * b + e) 0 + k < 4096) × ((get_or starts (8 * b + e) 0 + k) % 1024 < 2 * M)
  start_near e he =
      let p = get_or starts (8 * b + e) 0 in (
        omega (arith, are.near e he),
        ltb-false (2 * M) (suc ((p + k) % 1024))
            (none_counted n (λ e. far (get_or starts (8 * b + e) 0)) none_far e he),
      )

  abbrev beyond : Word
  beyond p = leb sh.rows ((p + k) / 1024)

  none_beyond : count n (λ e. beyond (get_or starts (8 * b + e) 0)) ≡ 0
  none_beyond =
      are.each beyond
      ∙ total_same sh.rows _ (λ r. 0) (λ r hr. none_of (shifts_of sh h r b) _
      (λ s. lt-leb sh.rows ((1024 * r + (M - s) + k) / 1024) (omega (arith, row_of r s)))) ∙ total_none sh.rows (λ r. 0) (λ r. refl)

  pub start-row : (e : ℕ) → e < n → (get_or starts (8 * b + e) 0 + k) / 1024 < sh.rows
  start-row e he = leb-false sh.rows ((get_or starts (8 * b + e) 0 + k) / 1024)
      (none_counted n (λ e. beyond (get_or starts (8 * b + e) 0)) none_beyond e he)

  module _ (c : Code) (lent : Lent c h sh) (hb : b < sh.blocks) (fits : M ≤ 64 * sh.words) (x d d' : Word)
      (two : Twice sh sh.rows (laid c sh x) d)
      (changed : (p : ℕ) → d' p ≡ d p ⊕ sum n
      (λ e. eqb p (get_or starts (8 * b + e) 0 + k) ⊕ eqb p (other M (get_or starts (8 * b + e) 0 + k)))) where
    pub flipped_twice : Twice sh sh.rows (laid c sh (flipped x (b * M + k))) d'
    flipped_twice r i hr hi =
        changed (1024 * r + i)
        ∙ ap₂ ◌⊕◌ (two r i hr hi ∙ laid_at c sh x r (i % M) hr low fits)
        (sum_same n _ _ (λ e he. places M r i (get_or starts (8 * b + e) 0 + k) (omega arith) small hi (start_near e he).1)
        ∙ sum_odd n (λ e. there (get_or starts (8 * b + e) 0)) ∙ ap odd (are.each there ∙ total-one sh.rows _ r hr elsewhere
        ∙ same_of (shifts_of sh h r b) _ _ here)
        ∙ sym (over_odd (shifts_of sh h r b) (λ s. eqb (i % M) ((k + (M - s)) % M))))
        ∙ sym (lent.flip_by x b k r (i % M) hb hk hr low) ∙ sym (laid_at c sh (flipped x (b * M + k)) r (i % M) hr low fits)
      where
        low : i % M < M
        low = mod-lt i (omega arith)

        there : Word
        there p = eqb ((p + k) / 1024) r && eqb ((p + k) % 1024 % M) (i % M)

        here : (s : ℕ) → there (1024 * r + (M - s)) ≡ eqb (i % M) ((k + (M - s)) % M)
        here s =
            ap₂ ◌&&◌ (eq-eqb ((1024 * r + (M - s) + k) / 1024) r (row_of r s)) (ap (λ q. eqb (q % M) (i % M)) (in_row r s))
            ∙ eqb_iff ((k + (M - s)) % M) (i % M) (i % M) ((k + (M - s)) % M) sym sym

        elsewhere : (q : ℕ) → (q ≡ r → ⊥) → count_of (shifts_of sh h q b) (λ s. there (1024 * q + (M - s))) ≡ 0
        elsewhere q u = none_of (shifts_of sh h q b) _ (λ s. ap (λ t. t && eqb ((1024 * q + (M - s) + k) % 1024 % M) (i % M))
            (ne_eqb ((1024 * q + (M - s) + k) / 1024) r (λ e. u (sym (row_of q s) ∙ e))))

-- ---- the bounds

module _ (c : Code) (h : List ℕ) (sh : Shape) (lent : Lent c h sh) (from : ℕ) (starts counts : List ℕ)
    (g : Gathered h sh starts counts sh.blocks) where
  -- No bit has a greater score than one of its block's degree with no met check.
  score_le : (x : Word) (b k : ℕ) → b < sh.blocks → k < sh.size → score c x (b * sh.size + k) ≤ 8 + get_or counts b 0
  unfolding score
  score_le x b k hb hk =
      let n = b * sh.size + k in
      omega (arith, broken_met c x n, degree_is h sh c lent b hb starts (get_or counts b 0) (g b hb).1 k hk)

  pub begun_under : (x : Word) (met : List ℕ) → ((b : ℕ) → get_or met b 0 ≡ 0) → Under (score c x) sh from counts met
  begun_under x met none b k hb hk u = omega (arith, none b, score_le x b k hb hk)

  -- A flip of a bit that has so many met checks raises the bounds by so many.
  pub raised_under : (x : Word) (n : ℕ) (met met' : List ℕ) → n < bits c → sh.blocks ≤ 16
      → ((b : ℕ) → b < sh.blocks → get_or met b 0 ≤ get_or counts b 0)
      → ((b : ℕ) → b < 16 → get_or met' b 0 ≡ get_or met b 0 - met_of c x n)
      → Under (score c x) sh from counts met → Under (score c (flipped x n)) sh from counts met'
  unfolding score
  raised_under x n met met' hn blocks few raised was b k hb hk u =
      let i = b * sh.size + k in
      omega (
        arith,
        raised b (omega arith),
        few b hb,
        (g b hb).0,
        was b k hb hk u,
        met_flip c x i n hn,
        broken_met c x i,
        broken_met c (flipped x n) i,
        degree_is h sh c lent b hb starts (get_or counts b 0) (g b hb).1 k hk,
      )

-- ---- the state

-- What is gathered is ready, with met checks that are few.
pub ready : {h : List ℕ} {sh : Shape} {starts counts met : List ℕ} → Fit h sh → Gathered h sh starts counts sh.blocks
    → length starts ≡ 128 → length counts ≡ 16 → length met ≡ 16
    → ((b : ℕ) → b < sh.blocks → get_or met b 0 ≤ get_or counts b 0) → Ready sh starts counts met
ready {h} {sh} {starts} {counts} fit g a b c few = record {
  some = fit.some;
  held = fit.held;
  close = fit.close;
  words = fit.words;
  blocks = fit.blocks;
  starts_long = a;
  counts_long = b;
  met_long = c;
  low = λ i hi. (g i hi).0;
  near = λ i e hi he. (g i hi).1.near e he;
  inside = λ i e k hi he hk. (start_near h sh i k hk (omega (arith, fit.held, fit.words)) starts (get_or counts i 0) (g i hi).1 e he).1;
  few = few;
}

-- Met checks that have become fewer are still few.
pub ready_fewer : {sh : Shape} {starts counts met met' : List ℕ} (by : ℕ) → Ready sh starts counts met → length met' ≡ 16
    → ((b : ℕ) → b < 16 → get_or met' b 0 ≡ get_or met b 0 - by) → Ready sh starts counts met'
ready_fewer by r long fewer = record {
  some = r.some;
  held = r.held;
  close = r.close;
  words = r.words;
  blocks = r.blocks;
  starts_long = r.starts_long;
  counts_long = r.counts_long;
  met_long = long;
  low = r.low;
  near = r.near;
  inside = r.inside;
  few = λ b hb. omega (arith, r.few b hb, fewer b (omega (arith, r.blocks)));
}

-- A flip keeps the state.
pub kept_flip : (sh : Shape) (starts counts met met' : List ℕ) (d d' : List ℕ) (bit : ℕ) → Ready sh starts counts met
    → bit < sh.blocks * sh.size
    → ((b : ℕ) → b < 16 → get_or met' b 0 ≡ get_or met b 0 - get_or met (bit / sh.size) 0)
    → ((p : ℕ) → wbit d' p ≡ wbit d p ⊕ sum (get_or counts (bit / sh.size) 0)
    (λ e. eqb p (get_or starts (8 * (bit / sh.size) + e) 0 + bit % sh.size) ⊕ eqb p
    (other sh.size (get_or starts (8 * (bit / sh.size) + e) 0 + bit % sh.size))))
    → (c : Code) (h : List ℕ) (from : ℕ) (x : Word) → Lent c h sh → Gathered h sh starts counts sh.blocks → Kept c sh from x d counts met
    → met_of c x bit ≡ get_or met (bit / sh.size) 0 → Kept c sh from (flipped x bit) d' counts met'
kept_flip sh starts counts met met' d d' bit r hbit raised changed c h from x lent g was is =
    let M = sh.size in
    let b = bit / M in
    let k = bit % M in
    let some : 0 < M = r.some in
    let hb : b < sh.blocks = (div-lt_iff_lt-mul some).1 hbit in
    let hk : k < M = mod-lt bit some in
    let e : b * M + k ≡ bit = div-add-mod' bit M in
    record {
      twice = subst (λ n. Twice sh sh.rows (laid c sh (flipped x n)) (wbit d')) e
          (flipped_twice h sh b k hk (omega (arith, r.held, r.words)) starts (get_or counts b 0) (g b hb).1 c lent hb r.held x (wbit d)
          (wbit d') was.twice changed);
      under = raised_under c h sh lent from starts counts g x bit met met' (subst (λ n. bit < n) (sym lent.bits_are) hbit) r.blocks
          r.few
          (λ j hj. raised j hj ∙ ap (λ n. get_or met j 0 - n) (sym is)) was.under;
    }
