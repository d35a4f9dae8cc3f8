-- The blocks of a search: what is found in one, and what is known where nothing is.
-- Assumes nothing.
use mathlib.Core.Path.{◌≡◌, refl, sym, ap, ap₂, ◌∙◌, subst}
use mathlib.Core.Bool.{Bool, true, false, ◌&&◌, true≢false, and-eq-true_iff}
use mathlib.Core.List.{List}
use Prim.Native.Nat.{ℕ, zero, suc, max, ◌+◌, ◌-◌, ◌*◌, ◌/◌, ◌%◌, ◌≤◌, ◌<◌, zero-le}
use native.Mathlib.Nat.{mod-lt, div-add-mod', div-lt_iff_lt-mul, lt_of_not-le, le_refl, lt-suc_self, le_step, suc-mul, mul-le-mul_right}
use native.Mathlib.Numerals.{add-one}
use native.Mathlib.Decide.{dec_lt, ℕ_discrete}
use native.Mathlib.Omega.{arith}
use borrow.Author.Tests.{ne_eqb, lt-ltb, le-ltb, ltb-true, le-leb, leb-true, leb-false}
use lib.Dec.{leb, ltb}
use lib.ListN.{get_or, set, length-set}
use lib.Seq.{get_or-set_same, get_or-set_other}
use lib.Arith.{digits_div, digits_lt}
use Rattle.bits.specs.Bits.{Word, digit, least, when◌then◌else◌}
use Rattle.bits.proofs.Leasts.{least_found, least_below, least_holds}
use Rattle.vectors.specs.Vectors.{Holds, from as bits_from}
use Rattle.vectors.proofs.Firsts.{First}
use Rattle.layout.specs.declared.Shape.{Shape}
use Rattle.flipping.specs.bounds.Reading.{hits, light}
use Rattle.flipping.specs.bounds.Keeping.{bound, Ready, Scored, Under}
use Rattle.flipping.specs.choice.Searching.{highest, begin_in_of, Lowered, Looked, Found}

-- ---- the first bit of a block, word after word

pub clear_word : (f : Word) (v k : ℕ) → Holds v (bits_from (64 * k) f) → ((i : ℕ) → digit 64 v i ≡ false)
    → ((i : ℕ) → i < 64 * k → f i ≡ false) → (i : ℕ) → i < 64 * (k + 1) → f i ≡ false
clear_word f v k holds none was i h = go (dec_lt i (64 * k))
  where
    go : Dec (i < 64 * k) → f i ≡ false
    go (yes l) = was i l
    go (no u) =
        let j = i - 64 * k in
        let e : 64 * k + j ≡ i = omega (arith, lt_of_not-le u) in
        ap f (sym e) ∙ sym (holds j (omega (arith, lt_of_not-le u))) ∙ none j

pub first_bit : (f : Word) (v k m at : ℕ) → Holds v (bits_from (64 * k) f) → First 64 v at → 64 * k + at < m
    → ((i : ℕ) → i < 64 * k → f i ≡ false) → 64 * k + at ≡ least m f
first_bit f v k m at holds first under was =
    sym (least_found m f (64 * k + at) under (sym (holds at first.inside) ∙ first.here) (λ i h. go i h (dec_lt i (64 * k))))
  where
    go : (i : ℕ) → i < 64 * k + at → Dec (i < 64 * k) → f i ≡ false
    go i h (yes l) = was i l
    go i h (no u) =
        let j = i - 64 * k in
        let e : 64 * k + j ≡ i = omega (arith, lt_of_not-le u) in
        let l : j < at = omega (arith, lt_of_not-le u) in
        ap f (sym e) ∙ sym (holds j (omega (arith, first.inside))) ∙ first.clear j l

-- A bit that is light is before the end of its block.
pub light_under : (d : Word) (starts : List ℕ) (first n met begin m k : ℕ) → light d starts first n met begin m k ≡ true → k < m
light_under d starts first n met begin m k e = go (ltb k m) refl
  where
    go : (t : Bool) → ltb k m ≡ t → k < m
    go true q = ltb-true k m q
    go false q = absurd_false (leb begin k) (leb n (hits d starts first n k + met))
        (ap (λ t. (leb begin k && t) && leb n (hits d starts first n k + met)) (sym q) ∙ e)
      where
        absurd_false : (a b : Bool) → ((a && false) && b) ≡ true → k < m
        absurd_false true b p = absurd (true≢false (sym p))
        absurd_false false b p = absurd (true≢false (sym p))

-- ---- a block that is looked at

begin_later : (b from : ℕ) → 1 ≤ b → begin_in_of b from ≡ 0
begin_later b from h = ap (λ t. when t then from else 0) (ne_eqb b 0 (λ e. omega arith))

begin_leb : (b from m k : ℕ) → from < m → leb (begin_in_of b from) k ≡ leb from (b * m + k)
begin_leb zero from m k l =
    let e : k ≡ 0 * m + k = omega arith in
    ap (leb from) e
begin_leb (suc b) from m k l =
    ap (λ n. leb n k) (begin_later (suc b) from (omega arith)) ∙ le-leb 0 k zero-le
    ∙ sym (le-leb from (suc b * m + k) (omega (arith, suc-mul b m)))

begin_under : (b from m : ℕ) → from < m → begin_in_of b from < m
begin_under zero from m l = l
begin_under (suc b) from m l = omega (arith, begin_later (suc b) from (omega arith))

module _ (sh : Shape) (from : ℕ) (d : Word) (starts counts met : List ℕ) (b top : ℕ) (r : Ready sh starts counts met)
    (hf : from < sh.size) (hb : b < sh.blocks)
    (le : bound counts met b ≤ top) where
  abbrev N : ℕ
  N = get_or counts b 0

  abbrev m : ℕ
  m = get_or met b 0

  abbrev L : Word
  L = light d starts (8 * b) N m (begin_in_of b from) sh.size

  abbrev H : ℕ → ℕ
  H k = hits d starts (8 * b) N k

  counts_as : (k : ℕ) → k < sh.size → from ≤ b * sh.size + k → L k ≡ leb N (H k + m)
  counts_as k hk l =
      ap₂ (λ s t. (s && t) && leb N (H k + m)) (begin_leb b from sh.size k hf ∙ le-leb from (b * sh.size + k) l)
      (lt-ltb k sh.size hk)

  too_heavy : (k : ℕ) → k < sh.size → from ≤ b * sh.size + k → L k ≡ false → H k + m < N
  too_heavy k hk l e = leb-false N (H k + m) (sym (counts_as k hk l) ∙ e)

  light_sent : (k : ℕ) → L k ≡ true → from ≤ b * sh.size + k
  light_sent k e =
      leb-true from (b * sh.size + k)
      (sym (begin_leb b from sh.size k hf)
      ∙ ((and-eq-true_iff (leb (begin_in_of b from) k) (ltb k sh.size)).0
      ((and-eq-true_iff (leb (begin_in_of b from) k && ltb k sh.size) (leb N (H k + m))).0 e).0).0)

  light_few : (k : ℕ) → L k ≡ true → N ≤ H k + m
  light_few k e = leb-true N (H k + m) ((and-eq-true_iff (leb (begin_in_of b from) k && ltb k sh.size) (leb N (H k + m))).0 e).1

  same : Lowered sh from d starts counts met met
  same = record { ready = r; under = λ g s u. u }

  -- Its bound is less.
  pub looked_past : (bound counts met b ≡ top → ⊥) → Looked sh from d starts counts b top sh.size met met
  looked_past u = record {
    lowered = same;
    others = λ j q. refl;
    most = le;
    missed = λ l. omega (arith, u);
    here = λ l. absurd (omega arith);
    sent = λ l. absurd (omega arith);
    score = λ l. absurd (omega arith);
    first = λ l. absurd (omega arith);
  }

  module _ (k : ℕ) (is : bound counts met b ≡ top) (e : k ≡ least sh.size L) where
    -- A bit was found.
    pub looked_found : k < sh.size → Looked sh from d starts counts b top k met met
    looked_found hk = record {
      lowered = same;
      others = λ j q. refl;
      most = le;
      missed = λ l. absurd (omega arith);
      here = λ l. is;
      sent = λ l. light_sent k lit;
      score = λ l g s u. omega (arith, s b k hb hk, u b k hb hk (light_sent k lit), light_few k lit, r.low b hb, r.few b hb);
      first = λ l g s j hj sent.
          omega (
            arith,
            s b j hb (omega arith),
            r.low b hb,
            r.few b hb,
            too_heavy j (omega arith) sent
                (least_below sh.size L j (omega arith)),
          );
    }
      where
        lit : L k ≡ true
        lit = ap L e ∙ least_holds sh.size L (omega arith)

    -- There is none: its bound goes down.
    pub looked_missed : sh.size ≤ k → Looked sh from d starts counts b top sh.size met (set met b (m + 1))
    looked_missed l = record {
      lowered = record {
        ready = record {
          some = r.some;
          held = r.held;
          close = r.close;
          words = r.words;
          blocks = r.blocks;
          starts_long = r.starts_long;
          counts_long = r.counts_long;
          met_long = length-set met b (m + 1) ∙ r.met_long;
          low = r.low;
          near = r.near;
          inside = r.inside;
          few = λ j hj. few j hj (ℕ_discrete j b);
        };
        under = λ g s u j k hj hk sent. under g s u j k hj hk sent (ℕ_discrete j b);
      };
      others = λ j q. get_or-set_other met b j (m + 1) 0 q;
      most = omega (arith, less);
      missed = λ l. less;
      here = λ l. absurd (omega arith);
      sent = λ l. absurd (omega arith);
      score = λ l. absurd (omega arith);
      first = λ l. absurd (omega arith);
    }
      where
        heavy : (i : ℕ) → i < sh.size → from ≤ b * sh.size + i → H i + m < N
        heavy i hi sent = too_heavy i hi sent (least_below sh.size L i (omega arith))

        below : m < N
        below =
            let i = begin_in_of b from in
            omega (
              arith,
              heavy i (begin_under b from sh.size hf)
                  (leb-true from (b * sh.size + i) (sym (begin_leb b from sh.size i hf) ∙ le-leb i i (le_refl i))),
            )

        now_is : get_or (set met b (m + 1)) b 0 ≡ m + 1
        now_is = get_or-set_same met b (m + 1) 0 (omega (arith, r.met_long, r.blocks))

        less : bound counts (set met b (m + 1)) b < top
        less = omega (arith, now_is, below, r.low b hb)

        few : (j : ℕ) → j < sh.blocks → Dec (j ≡ b) → get_or (set met b (m + 1)) j 0 ≤ get_or counts j 0
        few j hj (yes q) = subst (λ i. get_or (set met b (m + 1)) i 0 ≤ get_or counts i 0) (sym q) (omega (arith, now_is, below))
        few j hj (no q) = omega (arith, get_or-set_other met b j (m + 1) 0 q, r.few j hj)

        under : (g : ℕ → ℕ) → Scored g sh d starts counts → Under g sh from counts met → (j i : ℕ) → j < sh.blocks → i < sh.size
            → from ≤ j * sh.size + i → Dec (j ≡ b)
            → g (j * sh.size + i) ≤ bound counts (set met b (m + 1)) j
        under g s u j i hj hi sent (yes q) =
            subst (λ n. from ≤ n * sh.size + i → g (n * sh.size + i) ≤ bound counts (set met b (m + 1)) n) (sym q)
            (λ t. omega (arith, s b i hb hi, now_is, heavy i hi t, r.low b hb)) sent
        under g s u j i hj hi sent (no q) = omega (arith, u j i hj hi sent, get_or-set_other met b j (m + 1) 0 q)

-- ---- the greatest bound

pub highest_more : (counts met : List ℕ) (b v : ℕ)
    → v ≡ max (highest counts met b) (bound counts met b)
    → v ≡ highest counts met (b + 1)
unfolding highest
highest_more counts met b v e =
    e ∙ greater (highest counts met b) (bound counts met b) (dec_lt _ _) ∙ ap (highest counts met) (sym (add-one b))
  where
    greater : (x y : ℕ) → Dec (x < y) → max x y ≡ (when ltb x y then y else x)
    greater x y (yes l) = omega arith ∙ ap (λ t. when t then y else x) (sym (lt-ltb x y l))
    greater x y (no u) =
        let e : max x y ≡ x = omega (arith, lt_of_not-le u) in
        e ∙ ap (λ t. when t then y else x) (sym (le-ltb x y (omega (arith, lt_of_not-le u))))

pub highest_none : (counts met : List ℕ) → 0 ≡ highest counts met 0
unfolding highest
highest_none counts met = refl

pub highest_above : (counts met : List ℕ) (blocks b : ℕ) → b < blocks → bound counts met b ≤ highest counts met blocks
unfolding highest
highest_above counts met zero b h = absurd (omega arith)
highest_above counts met (suc n) b h = go (λ l. highest_above counts met n b l) (ℕ_discrete b n)
    (dec_lt (highest counts met n) (bound counts met n))
  where
    go : (b < n → bound counts met b ≤ highest counts met n) → Dec (b ≡ n) → Dec (highest counts met n < bound counts met n)
        → bound counts met b ≤ (when ltb (highest counts met n) (bound counts met n) then bound counts met n else highest counts met n)
    go ih q (yes l) =
        subst (λ s. bound counts met b ≤ (when s then bound counts met n else highest counts met n))
        (sym (lt-ltb (highest counts met n) (bound counts met n) l)) (of q)
      where
        of : Dec (b ≡ n) → bound counts met b ≤ bound counts met n
        of (yes e) = omega (arith, ap (bound counts met) e)
        of (no u) = omega (arith, ih (omega arith))
    go ih q (no w) =
        let l : bound counts met n ≤ highest counts met n = omega (arith, lt_of_not-le w) in
        subst (λ s. bound counts met b ≤ (when s then bound counts met n else highest counts met n))
        (sym (le-ltb (highest counts met n) (bound counts met n) l)) (of q)
      where
        of : Dec (b ≡ n) → bound counts met b ≤ highest counts met n
        of (yes e) = omega (arith, ap (bound counts met) e, lt_of_not-le w)
        of (no u) = ih (omega arith)

-- Where every bound is less than a number, so is the greatest.
highest_under : (counts met : List ℕ) (blocks top : ℕ) → 1 ≤ top → ((b : ℕ) → b < blocks → bound counts met b < top)
    → highest counts met blocks < top
unfolding highest
highest_under counts met zero top s h = s
highest_under counts met (suc n) top s h = go (ltb (highest counts met n) (bound counts met n))
    (highest_under counts met n top s (λ b l. h b (le_step l)))
  where
    go : (t : Bool) → highest counts met n < top → (when t then bound counts met n else highest counts met n) < top
    go true ih = h n (lt-suc_self n)
    go false ih = ih

-- A search that finds nothing leaves less.
pub highest_less : (counts met met' : List ℕ) (blocks top : ℕ) → 1 ≤ blocks → top ≡ highest counts met blocks
    → ((b : ℕ) → b < blocks → bound counts met' b < top)
    → highest counts met' blocks < highest counts met blocks
highest_less counts met met' blocks top some e less =
    subst (λ t. highest counts met' blocks < t) e (highest_under counts met' blocks top (omega (arith, less 0 some)) less)

-- ---- block after block

module _ (sh : Shape) (from : ℕ) (d : Word) (starts counts met₀ met met' : List ℕ) (b top k : ℕ)
    (was : Lowered sh from d starts counts met₀ met)
    (le : (j : ℕ) → j < sh.blocks → bound counts met j ≤ top) (lt : (j : ℕ) → j < b → bound counts met j < top) (hb : b < sh.blocks)
    (l : Looked sh from d starts counts b top k met met') where
  pub lowered_more : Lowered sh from d starts counts met₀ met'
  lowered_more = record { ready = l.lowered.ready; under = λ g s u. l.lowered.under g s (was.under g s u) }

  pub still_le : (j : ℕ) → j < sh.blocks → bound counts met' j ≤ top
  still_le j hj = go (ℕ_discrete j b)
    where
      go : Dec (j ≡ b) → bound counts met' j ≤ top
      go (yes q) = subst (λ i. bound counts met' i ≤ top) (sym q) l.most
      go (no u) = omega (arith, l.others j u, le j hj)

  still_lt : (j : ℕ) → j < b → bound counts met' j < top
  still_lt j hj = omega (arith, l.others j (λ q. omega arith), lt j hj)

  pub lt_more : sh.size ≤ k → (j : ℕ) → j < b + 1 → bound counts met' j < top
  lt_more h j hj = go (ℕ_discrete j b)
    where
      go : Dec (j ≡ b) → bound counts met' j < top
      go (yes q) = subst (λ i. bound counts met' i < top) (sym q) (l.missed h)
      go (no u) = still_lt j (omega arith)

  pub found_here : k < sh.size → Found sh from d starts counts met₀ top (b * sh.size + k) met'
  found_here hk = record {
    inside = digits_lt hb hk;
    here = ap (bound counts met') (digits_div b hk) ∙ l.here hk;
    first = λ g s u. record {
      above = l.sent hk;
      under = digits_lt hb hk;
      is = l.score hk g s (was.under g s u);
      most = λ i a z. most g s u i a z;
      first = λ i a z. first g s u i a z;
    };
  }
    where
      split : (i : ℕ) → i / sh.size * sh.size + i % sh.size ≡ i
      split i = div-add-mod' i sh.size

      low : (i : ℕ) → i % sh.size < sh.size
      low i = mod-lt i (omega arith)

      most : (g : ℕ → ℕ) → Scored g sh d starts counts → Under g sh from counts met₀ → (i : ℕ) → from ≤ i → i < sh.blocks * sh.size
          → g i ≤ top
      most g s u i a z =
          let j = i / sh.size in
          let hj : j < sh.blocks = (div-lt_iff_lt-mul {k = sh.size} (omega arith)).1 z in
          omega (
            arith,
            ap g (split i),
            lowered_more.under g s u j (i % sh.size) hj (low i) (subst (λ n. from ≤ n) (sym (split i)) a),
            still_le j hj,
          )

      first : (g : ℕ → ℕ) → Scored g sh d starts counts → Under g sh from counts met₀ → (i : ℕ) → from ≤ i → i < b * sh.size + k
          → g i < top
      first g s u i a z = go (dec_lt (i / sh.size) b)
        where
          go : Dec (i / sh.size < b) → g i < top
          go (yes h) =
              let j = i / sh.size in
              omega (
                arith,
                ap g (split i),
                lowered_more.under g s u j (i % sh.size) (omega arith) (low i)
                    (subst (λ n. from ≤ n) (sym (split i)) a),
                still_lt j h,
              )
          go (no v) =
              let i' = i - b * sh.size in
              let h : b * sh.size ≤ i = omega (
                arith,
                split i,
                mul-le-mul_right {m = b} {n = i / sh.size} sh.size
                    (omega (arith, lt_of_not-le v)),
              ) in
              let e : b * sh.size + i' ≡ i = omega arith in
              subst (λ n. g n < top) e (l.first hk g s i' (omega arith) (omega arith))

-- ---- one search after the other

module _ {sh : Shape} {from : ℕ} {d : Word} {starts counts met₀ met met' : List ℕ} (was : Lowered sh from d starts counts met₀ met) where
  pub lowered_twice : Lowered sh from d starts counts met met' → Lowered sh from d starts counts met₀ met'
  lowered_twice l = record { ready = l.ready; under = λ g s u. l.under g s (was.under g s u) }

  pub found_later : {top r : ℕ} → Found sh from d starts counts met top r met' → Found sh from d starts counts met₀ top r met'
  found_later f = record { inside = f.inside; here = f.here; first = λ g s u. f.first g s (was.under g s u) }
