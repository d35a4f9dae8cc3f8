-- Rows as they are begun and flipped; a block's scores; and the best of all blocks. Assumes nothing.
use mathlib.Core.Path.{◌≡◌, refl, sym, ap, ap₂, ◌∙◌, subst}
use mathlib.Core.Bool.{Bool, true, false, ◌&&◌, and-false, true≢false}
use mathlib.Core.Logic.{⊎_elim}
use mathlib.Core.List.{List}
use Prim.Native.Nat.{ℕ, zero, suc, ◌+◌, ◌-◌, ◌*◌, ◌/◌, ◌%◌, ◌^◌, ◌≤◌, ◌<◌, zero-le}
use native.Mathlib.Nat.{mod-lt, div-add-mod', div-lt_iff_lt-mul, mul-le-mul_right, lt_of_not-le}
use native.Mathlib.Decide.{ℕ_discrete, dec_le}
use native.Mathlib.Omega.{arith}
use borrow.Author.Tests.{le-ltb, lt-ltb, ltb-true, le-leb, leb-true, eq-eqb, ne_eqb, eqb-true}
use lib.Arith.{digits_lt}
use lib.Count.{count_leading_zeros}
use lib.Dec.{eqb, leb, ltb, lit<}
use lib.ListN.{get_or, get_or-map, length, set}
use Rattle.std.proofs.lemmas.List.{length-map, map-set}
use lib.Seq.{get_or-set_same, get_or-set_other}
use Rattle.bits.specs.Bits.{Word, flipped, over, when◌then◌else◌, ◌⊕◌}
use Rattle.bits.proofs.Orders.{le-or-lt}
use Rattle.rules.specs.Codes.{Code}
use Rattle.rules.specs.Checks.{check}
use Rattle.planes.specs.Ranges.{Top}
use Rattle.vectors.specs.Vectors.{wbit, Holds, up_to}
use Rattle.vectors.proofs.Filling.{word_holds}
use Rattle.vectors.proofs.Firsts.{First, first_digit}
use Rattle.vectors.proofs.Places.{digit_power}
use Rattle.vectors.proofs.Spans.{up_to_below, up_to_above}
use Rattle.layout.specs.declared.Shape.{Shape}
use Rattle.layout.specs.Lent.{Fit, Lent, laid, score, total, shifts_of, place_of}
use Rattle.layout.proofs.Laying.{laid_at}
use Rattle.flipping.proofs.bounds.Entries.{place_in}
use Rattle.magnitudes.specs.Patterns.{smaller}
use Rattle.magnitudes.specs.Sizes.{smallest}
use Rattle.flipping.specs.narrow.Weighing.{around, broke, sent, Peaked, Weighed, Greatest, Chosen, scores_of, masks_of}
use Rattle.flipping.specs.declared.narrow.Level.{Level}

-- ---- rows

module _ (c : Code) (sh : Shape) (x : Word) (words : sh.words ≡ 1) (fits : sh.size ≤ 64) where
  laid_past : (r i : ℕ) → i < 64 → sh.size ≤ i → laid c sh x (64 * r + i) ≡ false
  unfolding laid
  laid_past r i hi l =
      let n = 64 * r + i in
      let wide : 64 * sh.words ≡ 64 = ap (λ w. 64 * w) words in
      let e : n % (64 * sh.words) ≡ i = ap (λ w. n % w) wide ∙ omega arith in
      ap (λ t. ltb (n / (64 * sh.words)) sh.rows && (t && check c x (n / (64 * sh.words) * sh.size + n % (64 * sh.words))))
      (le-ltb (n % (64 * sh.words)) sh.size (omega arith))
      ∙ and-false (ltb (n / (64 * sh.words)) sh.rows)

  pub laid_row : (z : List ℕ) → wbit z ≡ laid c sh x → (r : ℕ) → r < sh.rows
      → Holds (get_or z r 0) (up_to sh.size (λ i. check c x (r * sh.size + i)))
  laid_row z e r hr i hi =
      let f : Word = λ j. check c x (r * sh.size + j) in
      let at : 64 * r + i ≡ 64 * (r * sh.words) + i = ap (λ w. 64 * w + i) (omega (arith, ap (λ w. r * w) words)) in
      word_holds z r i hi
      ∙ ap (λ w. w (64 * r + i)) e
      ∙ ⊎_elim
      (λ (l : sh.size ≤ i). laid_past r i hi l ∙ sym (up_to_above sh.size i f l))
      (λ (l : i < sh.size).
      ap (laid c sh x) at ∙ laid_at c sh x r i hr l (omega (arith, ap (λ w. 64 * w) words)) ∙ sym (up_to_below sh.size i f l))
      (le-or-lt sh.size i)

-- A list that is written word by word.
pub set_rows : (l : List ℕ) (p : ℕ → ℕ → Type 0) (r v : ℕ) → r < length l → p r v → ((q : ℕ) → q < r → p q (get_or l q 0))
    → (q : ℕ) → q < r + 1 → p q (get_or (set l r v) q 0)
set_rows l p r v room here was q hq = go (ℕ_discrete q r)
  where
    go : Dec (q ≡ r) → p q (get_or (set l r v) q 0)
    go (yes e) =
        subst (λ z. p z (get_or (set l r v) z 0)) (sym e) (subst (p r) (sym (get_or-set_same l r v 0 room)) here)
    go (no d) = subst (p q) (sym (get_or-set_other l r q v 0 d)) (was q (omega arith))

-- The first bit alone.
pub first_of_row : (m : ℕ) → 1 ≤ m → Holds (2 ^ 63) (up_to m (eqb 0))
first_of_row m some zero hi = digit_power 64 0 0 (lit< tt) hi ∙ sym (up_to_below m 0 (eqb 0) some)
first_of_row m some (suc i) hi =
    digit_power 64 0 (suc i) (lit< tt) hi
    ∙ ne_eqb (suc i) 0 (λ e. omega arith)
    ∙ sym (ap (λ t. ltb (suc i) m && t) (ne_eqb 0 (suc i) (λ e. omega arith)) ∙ and-false (ltb (suc i) m))

-- What a flip leaves of a row.
module _ (c : Code) (h : List ℕ) (sh : Shape) (lent : Lent c h sh) (fit : Fit h sh) (x : Word) where
  pub row_flipped : (b k r v v' : ℕ) → b < sh.blocks → k < sh.size → r < sh.rows
      → Holds v (around sh.size (λ i. check c x (r * sh.size + i)))
      → ((f : Word) → Holds v f → Holds v' (λ i. f i ⊕ over (shifts_of sh h r b) (λ s. eqb (i % sh.size) ((k + (sh.size - s)) % sh.size))))
      → Holds v' (around sh.size (λ i. check c (flipped x (b * sh.size + k)) (r * sh.size + i)))
  row_flipped b k r v v' hb hk hr is changed i hi =
      changed (around sh.size (λ j. check c x (r * sh.size + j))) is i hi
      ∙ sym (lent.flip_by x b k r (i % sh.size) hb hk hr (mod-lt i fit.some))

  -- ---- a block's scores

  pub score_is : (b k : ℕ) → b < sh.blocks → k < sh.size
      → score c x (b * sh.size + k) + total sh.rows (λ r. length (shifts_of sh h r b)) ≡ 2 * broke c h sh b x sh.rows k + 8
  unfolding score
  score_is b k hb hk = omega (arith, lent.broken_by x b k hb hk, lent.degree_by b k hb hk, lent.few b hb)

pub sent_lt : (m from b k : ℕ) → sent m from b k ≡ true → k < m
sent_lt m from b k e = go (leb (when eqb b 0 then from else 0) k) (ltb k m) refl e
  where
    go : (s t : Bool) → ltb k m ≡ t → (s && t) ≡ true → k < m
    go true true q u = ltb-true k m q
    go true false q u = absurd (true≢false (sym u))
    go false t q u = absurd (true≢false (sym u))

pub sent_is : (m from b k : ℕ) → from < m → k < m → from ≤ b * m + k → sent m from b k ≡ true
sent_is m from zero k l hk a = ap₂ (λ s t. s && t) (le-leb from k (omega (arith, a))) (lt-ltb k m hk)
sent_is m from (suc b) k l hk a =
    ap (λ t. leb (when t then from else 0) k && ltb k m) (ne_eqb (suc b) 0 (λ e. omega arith))
    ∙ ap₂ (λ s t. s && t) (le-leb 0 k zero-le) (lt-ltb k m hk)

pub sent_from : (m from b k : ℕ) → from < m → sent m from b k ≡ true → from ≤ b * m + k
sent_from m from zero k l e = go (leb from k) refl e
  where
    go : (s : Bool) → leb from k ≡ s → (s && ltb k m) ≡ true → from ≤ 0 * m + k
    go true q u = omega (arith, leb-true from k q)
    go false q u = absurd (true≢false (sym u))
sent_from m from (suc b) k l e = omega (arith, mul-le-mul_right {m = 1} {n = suc b} m (omega arith))

pub total_none : (f : ℕ → ℕ) → total 0 f ≡ 0
unfolding total
total_none f = refl

-- A place of the table is within it.
pub place_room : (h : List ℕ) (sh : Shape) → Fit h sh → sh.rows ≡ 4 → (r b : ℕ) → r < 4 → b < sh.blocks
    → (place_of sh r b + 1 < length h) × (length h ≤ 128)
place_room h sh fit four r b hr hb = place_in h sh fit r b (omega arith) hb

-- A block more is weighed.
weighed_lists : (c : Code) (sh : Shape) (from : ℕ) (x : Word) (scores masks : List ℕ) (b score' mask : ℕ) → b < length scores
    → b < length masks → Weighed c sh from x scores masks b
    → Peaked (sent sh.size from b) (λ k. score c x (b * sh.size + k)) score' mask
    → Weighed c sh from x (set scores b score') (set masks b mask) (b + 1)
weighed_lists c sh from x scores masks b score' mask r m was here = record { each = λ q hq. go q hq (ℕ_discrete q b) }
  where
    g : ℕ → ℕ → ℕ
    g n k = score c x (n * sh.size + k)

    go : (q : ℕ) → q < b + 1 → Dec (q ≡ b)
        → Peaked (sent sh.size from q) (g q) (get_or (set scores b score') q 0) (get_or (set masks b mask) q 0)
    go q hq (yes e) =
        subst (λ n. Peaked (sent sh.size from n) (g n) (get_or (set scores b score') n 0) (get_or (set masks b mask) n 0)) (sym e)
        (subst (λ v. Peaked (sent sh.size from b) (g b) v (get_or (set masks b mask) b 0)) (sym (get_or-set_same scores b score' 0 r))
        (subst (λ v. Peaked (sent sh.size from b) (g b) score' v) (sym (get_or-set_same masks b mask 0 m)) here))
    go q hq (no d) =
        subst (λ v. Peaked (sent sh.size from q) (g q) v (get_or (set masks b mask) q 0)) (sym (get_or-set_other scores b q score' 0 d))
        (subst (λ v. Peaked (sent sh.size from q) (g q) (get_or scores q 0) v) (sym (get_or-set_other masks b q mask 0 d))
        (was.each q (omega arith)))

pub weighed_more : (c : Code) (sh : Shape) (from : ℕ) (x : Word) (levels : List Level) (b : ℕ) (l : Level) → b < length levels
    → Weighed c sh from x (scores_of levels) (masks_of levels) b
    → Peaked (sent sh.size from b) (λ k. score c x (b * sh.size + k)) l.score l.mask
    → Weighed c sh from x (scores_of (set levels b l)) (masks_of (set levels b l)) (b + 1)
weighed_more c sh from x levels b l r was here =
    subst (λ v. Weighed c sh from x v (masks_of (set levels b l)) (b + 1)) (sym (map-set (λ l. l.score) levels b l))
    (subst (λ v. Weighed c sh from x (set (scores_of levels) b l.score) v (b + 1)) (sym (map-set (λ l. l.mask) levels b l))
    (weighed_lists c sh from x (scores_of levels) (masks_of levels) b l.score l.mask (omega (arith, r, length-map levels (λ l. l.score)))
    (omega (arith, r, length-map levels (λ l. l.mask))) was here))

-- What stands at a place of the lists.
pub score_at : (levels : List Level) (b : ℕ) → get_or (scores_of levels) b 0 ≡ (get_or levels b (record { score = 0; mask = 0 })).score
score_at levels b = get_or-map (λ l. l.score) levels b (record { score = 0; mask = 0 })

pub mask_at : (levels : List Level) (b : ℕ) → get_or (masks_of levels) b 0 ≡ (get_or levels b (record { score = 0; mask = 0 })).mask
mask_at levels b = get_or-map (λ l. l.mask) levels b (record { score = 0; mask = 0 })

-- ---- the greatest of the scores

pub greatest_none : (scores : List ℕ) → Greatest scores 0 8 0
greatest_none scores = record {
  some = omega arith;
  most = λ b l. absurd (omega arith);
  inside = λ a. absurd (omega arith);
  here = λ a. absurd (omega arith);
  first = λ a. absurd (omega arith);
  low = omega arith;
}

-- One score more: that of a block which has more, or which has not.
module _ (scores : List ℕ) (b top block top' block' : ℕ) (was : Greatest scores b top block) where
  pub greatest_more : b < 16 → top < get_or scores b 0 → top' ≡ get_or scores b 0 → block' ≡ b → Greatest scores (b + 1) top' block'
  greatest_more small more e at = record {
    some = omega (arith, was.some);
    most = λ q l. go q l (ℕ_discrete q b);
    inside = λ a. omega arith;
    here = λ a. ap (λ z. get_or scores z 0) at ∙ sym e;
    first = λ a q l. omega (arith, was.most q (omega arith));
    low = omega arith;
  }
    where
      go : (q : ℕ) → q < b + 1 → Dec (q ≡ b) → get_or scores q 0 ≤ top'
      go q l (yes p) = omega (arith, ap (λ z. get_or scores z 0) p)
      go q l (no d) = omega (arith, was.most q (omega arith))

  pub greatest_kept : get_or scores b 0 ≤ top → top' ≡ top → block' ≡ block → Greatest scores (b + 1) top' block'
  greatest_kept less e at = record {
    some = omega (arith, was.some);
    most = λ q l. go q l (ℕ_discrete q b);
    inside = λ a. omega (arith, was.inside (omega arith));
    here = λ a. ap (λ z. get_or scores z 0) at ∙ was.here (omega arith) ∙ sym e;
    first = λ a q l. omega (arith, was.first (omega arith) q (omega arith));
    low = omega (arith, was.low);
  }
    where
      go : (q : ℕ) → q < b + 1 → Dec (q ≡ b) → get_or scores q 0 ≤ top'
      go q l (yes p) = omega (arith, ap (λ z. get_or scores z 0) p)
      go q l (no d) = omega (arith, was.most q (omega arith))

-- ---- the best of all blocks

module _ (c : Code) (h : List ℕ) (sh : Shape) (fit : Fit h sh) (narrow : sh.size ≤ 64) (x : Word) (from : ℕ) (inside : from < sh.size)
    (scores masks : List ℕ) (top block : ℕ) (small : get_or masks block 0 < 2 ^ 64)
    (weighed : Weighed c sh from x scores masks sh.blocks) (best : Greatest scores sh.blocks top block) where
  split : (n : ℕ) → score c x n ≡ score c x (n / sh.size * sh.size + n % sh.size)
  split n = ap (score c x) (sym (div-add-mod' n sh.size))

  in_block : (n : ℕ) → n < sh.blocks * sh.size → n / sh.size < sh.blocks
  in_block n l = (div-lt_iff_lt-mul fit.some).1 l

  is_sent : (n : ℕ) → from ≤ n → sent sh.size from (n / sh.size) (n % sh.size) ≡ true
  is_sent n a = sent_is sh.size from (n / sh.size) (n % sh.size) inside (mod-lt n fit.some)
      (omega (arith, div-add-mod' n sh.size))

  -- A score is at most 8, or at most that of its block.
  under : (n : ℕ) → from ≤ n → n < sh.blocks * sh.size → 8 < score c x n → score c x n ≤ get_or scores (n / sh.size) 0
  under n a l high =
      omega (
        arith,
        split n,
        (weighed.each (n / sh.size) (in_block n l)).most (n % sh.size) (omega (arith, mod-lt n fit.some)) (is_sent n a)
            (omega (arith, split n)),
      )

  pub most_in : (n : ℕ) → from ≤ n → n < sh.blocks * sh.size → score c x n ≤ top
  most_in n a l = go (dec_le (score c x n) 8)
    where
      go : Dec (score c x n ≤ 8) → score c x n ≤ top
      go (yes q) = omega (arith, best.some)
      go (no u) = omega (arith, under n a l (lt_of_not-le u), best.most (n / sh.size) (in_block n l))

  module _ (high : 8 < top) where
    abbrev mask : ℕ
    mask = get_or masks block 0

    abbrev k : ℕ
    k = count_leading_zeros 64 (get_or masks block 0)

    above : 8 < get_or scores block 0
    above = omega (arith, best.here high)

    first_one : First 64 (get_or masks block 0) (count_leading_zeros 64 (get_or masks block 0))
    first_one = first_digit 64 (get_or masks block 0) ((weighed.each block (best.inside high)).some above) small

    both : (sent sh.size from block k ≡ true) × (eqb (score c x (block * sh.size + k)) (get_or scores block 0) ≡ true)
    both = and_both _ _ (sym ((weighed.each block (best.inside high)).those above k first_one.inside) ∙ first_one.here)
      where
        and_both : (a b : Bool) → (a && b) ≡ true → (a ≡ true) × (b ≡ true)
        and_both true true e = (refl, refl)
        and_both true false e = absurd (true≢false (sym e))
        and_both false b e = absurd (true≢false (sym e))

    near : k < sh.size
    near = sent_lt sh.size from block k both.0

    -- A bit of the same block before this one has another score.
    other : (j : ℕ) → j < k → sent sh.size from block j ≡ true → score c x (block * sh.size + j) ≡ top → ⊥
    other j l s e =
        true≢false
        (sym (ap₂ (λ p q. p && q) s (eq-eqb (score c x (block * sh.size + j)) (get_or scores block 0) (omega (arith, best.here high))))
        ∙ sym ((weighed.each block (best.inside high)).those above j (omega (arith, first_one.inside)))
        ∙ first_one.clear j l)

    before : (n : ℕ) → from ≤ n → n < block * sh.size + k → score c x n < top
    before n a l = ⊎_elim same lower (le-or-lt block (n / sh.size))
      where
        all : n < sh.blocks * sh.size
        all = omega (arith, digits_lt (best.inside high) near)

        lower : n / sh.size < block → score c x n < top
        lower q = go (dec_le (score c x n) 8)
          where
            go : Dec (score c x n ≤ 8) → score c x n < top
            go (yes w) = omega arith
            go (no u) = omega (arith, under n a all (lt_of_not-le u), best.first high (n / sh.size) q)

        same : block ≤ n / sh.size → score c x n < top
        same q =
            let e : n / sh.size ≡ block = ⊎_elim
            (λ (w : block + 1 ≤ n / sh.size).
            absurd (omega (arith, near, div-add-mod' n sh.size, mul-le-mul_right {m = block + 1} {n = n / sh.size} sh.size w)))
            (λ (w : n / sh.size < block + 1). omega arith)
            (le-or-lt (block + 1) (n / sh.size)) in
            let at : n / sh.size * sh.size ≡ block * sh.size = ap (λ b. b * sh.size) e in
            let is : score c x n ≡ score c x (block * sh.size + n % sh.size) = split n ∙ ap (λ z. score c x (z + n % sh.size)) at in
            let d = other (n % sh.size) (omega (arith, div-add-mod' n sh.size))
            (subst (λ b. sent sh.size from b (n % sh.size) ≡ true) e (is_sent n a)) in
            ⊎_elim
            (λ (w : top ≤ score c x n). absurd (d (omega (arith, most_in n a all))))
            (λ (w : score c x n < top). w)
            (le-or-lt top (score c x n))

    pub top_in : Top (score c x) from (sh.blocks * sh.size) (block * sh.size + k) top
    top_in = record {
      above = sent_from sh.size from block k inside both.0;
      under = digits_lt (best.inside high) near;
      is = eqb-true (score c x (block * sh.size + k)) (get_or scores block 0) both.1 ∙ best.here high;
      most = most_in;
      first = before;
    }

  -- A bit is chosen that is the smallest of those that have this score.
  pub chosen : (samples : List ℕ) (bit : ℕ)
      → (8 < top
      → bit ≡ smallest (smaller samples) (λ n. leb top (score c x n)) (block * sh.size + count_leading_zeros 64 (get_or masks block 0))
      from (sh.blocks * sh.size - from))
      → Chosen c sh from x samples (record { score = top; bit = bit })
  chosen samples bit e = record { most = most_in; low = _; top = top_in; bit = e }
