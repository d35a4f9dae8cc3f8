-- A search for the smallest bit, word after word and block after block.
use mathlib.Core.Path.{◌≡◌, refl, sym, ap, ap₂, ◌∙◌, subst}
use mathlib.Core.Bool.{true, false, ◌&&◌, and-eq-true_iff}
use mathlib.Core.List.{List}
use mathlib.Core.Logic.{◌⊎◌, inl, inr}
use Prim.Native.Nat.{ℕ, ◌+◌, ◌-◌, ◌*◌, ◌/◌, ◌%◌, ◌≤◌, ◌<◌, zero-le}
use native.Mathlib.Nat.{lt_of_not-le, mod-lt, div-add-mod', div-lt_iff_lt-mul, zero-mul}
use native.Mathlib.Decide.{dec_lt, ℕ_discrete}
use native.Mathlib.Omega.{arith}
use borrow.Author.Tests.{lt-ltb, ltb-true, le-leb, leb-true, leb-false}
use lib.Arith.{digits_mod}
use lib.Dec.{leb, ltb}
use lib.ListN.{length, get_or, set}
use lib.Seq.{get_or-set_same, get_or-set_other}
use Rattle.bits.specs.Bits.{Word, digit}
use Rattle.vectors.specs.Vectors.{Holds, from as bits_from}
use Rattle.layout.specs.declared.Shape.{Shape}
use Rattle.flipping.specs.bounds.Reading.{hits, light}
use Rattle.flipping.specs.bounds.Keeping.{bound, Ready, Scored}
use Rattle.magnitudes.specs.Patterns.{smaller}
use Rattle.magnitudes.proofs.Patterns.{ordered}
use Rattle.samples.specs.raising.Knowing.{Ahead, Known, Knows, whole}
use Rattle.samples.specs.smallest.Settling.{Leads, Lightest, Settled}
use Rattle.samples.proofs.raising.Orders.{ahead_self, ahead_onward}
use Rattle.samples.proofs.raising.Seeing.{block_room, ready_set}

-- ---- a block, 64 bits after 64 bits

module _ (samples : List ℕ) (d : Word) (starts : List ℕ) (from n met m first : ℕ) where
  abbrev H : ℕ → ℕ
  H k = hits d starts from n k

  abbrev L : Word
  L = light d starts from n met 0 m

  light_is : (k : ℕ) → L k ≡ true → (k < m) × (n ≤ H k + met)
  light_is k e =
      let p = (and-eq-true_iff (leb 0 k && ltb k m) (leb n (H k + met))).0 e in
      (ltb-true k m ((and-eq-true_iff (leb 0 k) (ltb k m)).0 p.0).1, leb-true n (H k + met) p.1)

  as_light : (k : ℕ) → k < m → L k ≡ leb n (H k + met)
  as_light k l = ap₂ (λ a b. (a && b) && leb n (H k + met)) (le-leb 0 k zero-le) (lt-ltb k m l)

  pub none_light : (r : ℕ) → length samples ≤ r → Lightest samples d starts from n met m first 0 r
  none_light r h = record {
    inside = λ u. absurd (omega arith);
    light = λ u. absurd (omega arith);
    ahead = λ u k l v. absurd (omega arith);
    none = λ u k l v. absurd (omega arith);
  }

  module _ (at mask : ℕ) (holds : Holds mask (bits_from at L)) where
    pub mask_light : (i : ℕ) → i < 64 → digit 64 mask i ≡ true → (at + i < m) × (n ≤ H (at + i) + met)
    mask_light i l e = light_is (at + i) (sym (holds i l) ∙ e)

    module _ (room : first + m ≤ length samples) (best r : ℕ)
        (was : Lightest samples d starts from n met m first at best)
        (none : length samples ≤ r → (length samples ≤ best) × ((i : ℕ) → i < 64 → digit 64 mask i ≡ false))
        (some : r < length samples
        → ((r ≡ best) ⊎ ((first + at ≤ r) × (r < first + at + 64) × (digit 64 mask (r - (first + at)) ≡ true)))
        × (best < length samples → Ahead (smaller samples) r best)
        × ((i : ℕ) → i < 64 → digit 64 mask i ≡ true → Ahead (smaller samples) r (first + at + i))) where
      inside_of : r < length samples
          → (r ≡ best) ⊎ ((first + at ≤ r) × (r < first + at + 64) × (digit 64 mask (r - (first + at)) ≡ true))
          → ((first ≤ r) × (r < first + m) × (r < first + (at + 64))) × (n ≤ H (r - first) + met)
      inside_of u (inl e) =
          let v : best < length samples = omega (arith, e) in
          let i = was.inside v in (
            (omega (arith, e, i.0), omega (arith, e, i.1), omega (arith, e, i.2)),
            subst (λ z. n ≤ H (z - first) + met) (sym e) (was.light v),
          )
      inside_of u (inr p) =
          let j = r - (first + at) in
          let q = mask_light j (omega (arith, p.0, p.1)) p.2 in
          let e : at + j ≡ r - first = omega (arith, p.0) in
          ((omega (arith, p.0), omega (arith, q.0, p.0), omega (arith, p.1)), subst (λ z. n ≤ H z + met) e q.1)

      pub lightest_more : Lightest samples d starts from n met m first (at + 64) r
      lightest_more = record {
        inside = λ u. (inside_of u (some u).0).0;
        light = λ u. (inside_of u (some u).0).1;
        ahead = λ u k l v t. over u k l v t (dec_lt k at) (dec_lt best (length samples));
        none = λ u k l v. heavy u k l v (dec_lt k at);
      }
        where
          set_in : (k : ℕ) → k < m → at ≤ k → k < at + 64 → digit 64 mask (k - at) ≡ leb n (H k + met)
          set_in k l f v =
              let e : at + (k - at) ≡ k = omega arith in
              holds (k - at) (omega arith) ∙ ap L e ∙ as_light k l

          over : r < length samples → (k : ℕ) → k < m → k < at + 64 → n ≤ H k + met → Dec (k < at) → Dec (best < length samples)
              → Ahead (smaller samples) r (first + k)
          over u k l v t (yes f) (yes b) = ahead_onward (smaller samples) (length samples) (ordered samples (length samples)) r best
              (first + k) u b (omega arith) ((some u).1 b) (was.ahead b k l f t)
          over u k l v t (yes f) (no b) = absurd (omega (arith, was.none (omega (arith, lt_of_not-le b)) k l f))
          over u k l v t (no f) b =
              let w : at ≤ k = omega (arith, lt_of_not-le f) in
              let e : first + at + (k - at) ≡ first + k = omega arith in
              subst (Ahead (smaller samples) r) e
              ((some u).2 (k - at) (omega arith) (set_in k l w v ∙ le-leb n (H k + met) t))

          heavy : length samples ≤ r → (k : ℕ) → k < m → k < at + 64 → Dec (k < at) → H k + met < n
          heavy u k l v (yes f) = was.none (none u).0 k l f
          heavy u k l v (no f) =
              let w : at ≤ k = omega (arith, lt_of_not-le f) in
              leb-false n (H k + met) (sym (set_in k l w v) ∙ (none u).1 (k - at) (omega arith))

  pub lightest_all : (at r : ℕ) → m ≤ at → Lightest samples d starts from n met m first at r
      → Lightest samples d starts from n met m first m r
  lightest_all at r h was = record {
    inside = λ u. let i = was.inside u in (i.0, i.1, i.1);
    light = was.light;
    ahead = λ u k l v. was.ahead u k l (omega arith);
    none = λ u k l v. was.none u k l (omega arith);
  }

-- ---- block after block

module _ (samples : List ℕ) (sh : Shape) (d : Word) (starts counts : List ℕ) (met kept : List ℕ) (r : Ready sh starts counts met)
    (long : length samples ≡ sh.blocks * sh.size) (b : ℕ) (hb : b < sh.blocks) where
  abbrev M : ℕ
  M = sh.size

  abbrev N : ℕ
  N = get_or counts b 0

  abbrev m : ℕ
  m = get_or met b 0

  abbrev HB : ℕ → ℕ
  HB k = hits d starts (8 * b) N k

  abbrev Here : List ℕ → List ℕ → Type 0
  Here met kept = Known samples d starts (8 * b) N M (b * M) (whole b) (get_or met b 0) (get_or kept b 0)

  room : b * M + M ≤ length samples
  room = omega (arith, long, block_room b sh.blocks M hb)

  -- what is known of one block changes
  pub knows_one : (met' kept' : List ℕ) → ((j : ℕ) → (j ≡ b → ⊥) → get_or met' j 0 ≡ get_or met j 0)
      → ((j : ℕ) → (j ≡ b → ⊥) → get_or kept' j 0 ≡ get_or kept j 0) → Here met' kept' → Knows samples sh d starts counts whole met kept
      → Knows samples sh d starts counts whole met' kept'
  knows_one met' kept' em ek new was = record { block = λ j hj. go j hj (ℕ_discrete j b) }
    where
      Of : ℕ → ℕ → ℕ → Type 0
      Of i x y = Known samples d starts (8 * i) (get_or counts i 0) M (i * M) (whole i) x y

      go : (j : ℕ) → j < sh.blocks → Dec (j ≡ b) → Of j (get_or met' j 0) (get_or kept' j 0)
      go j hj (yes e) = subst (λ i. Of i (get_or met' i 0) (get_or kept' i 0)) (sym e) new
      go j hj (no u) = subst (λ z. Of j z (get_or kept' j 0)) (sym (em j u)) (subst (Of j (get_or met j 0)) (sym (ek j u)) (was.block j hj))

  module _ (g : ℕ → ℕ) (scored : Scored g sh d starts counts) (known : Here met kept) (best : ℕ) where
    abbrev pub top : ℕ
    top = bound counts met b

    -- bit k of the block has the score of its bound where it has no more checks met
    at_top : (k : ℕ) → k < M → N ≤ HB k + m → g (b * M + k) ≡ top
    at_top k l t = omega (arith, scored b k hb l, known.under k l refl, t, r.low b hb, r.few b hb)

    has_top : (k : ℕ) → k < M → top ≤ g (b * M + k) → N ≤ HB k + m
    has_top k l t = omega (arith, scored b k hb l, t, r.low b hb, r.few b hb)

    split : (i : ℕ) → i < b * M + M → (i < b * M) ⊎ ((b * M ≤ i) × (i - b * M < M) × (b * M + (i - b * M) ≡ i))
    split i l = go (dec_lt i (b * M))
      where
        go : Dec (i < b * M) → (i < b * M) ⊎ ((b * M ≤ i) × (i - b * M < M) × (b * M + (i - b * M) ≡ i))
        go (yes u) = inl u
        go (no u) = let f : b * M ≤ i = omega (arith, lt_of_not-le u) in inr (f, omega arith, omega arith)

    module _ (z : ℕ) (was : Leads samples g top (b * M) best)
        (is : z < length samples → (z ≡ best) ⊎ ((b * M ≤ z) × (z < b * M + M) × (N ≤ HB (z - b * M) + m)))
        (lead : z < length samples → best < length samples → Ahead (smaller samples) z best)
        (over : z < length samples → (k : ℕ) → k < M → N ≤ HB k + m → Ahead (smaller samples) z (b * M + k))
        (none : length samples ≤ z → (length samples ≤ best) × ((k : ℕ) → k < M → HB k + m < N)) where
      pub leads_more : Leads samples g top (b * M + M) z
      leads_more = record {
        is = λ u. by u (is u);
        ahead = λ u i l t. onto u i t (split i l) (dec_lt best (length samples));
        none = λ u i l. under u i (split i l);
      }
        where
          by : z < length samples → (z ≡ best) ⊎ ((b * M ≤ z) × (z < b * M + M) × (N ≤ HB (z - b * M) + m)) → g z ≡ top
          by u (inl e) = ap g e ∙ was.is (omega (arith, e))
          by u (inr p) =
              let e : b * M + (z - b * M) ≡ z = omega (arith, p.0) in
              ap g (sym e) ∙ at_top (z - b * M) (omega (arith, p.0, p.1)) p.2

          onto : z < length samples → (i : ℕ) → top ≤ g i
              → (i < b * M) ⊎ ((b * M ≤ i) × (i - b * M < M) × (b * M + (i - b * M) ≡ i)) → Dec (best < length samples)
              → Ahead (smaller samples) z i
          onto u i t (inl l) (yes v) = ahead_onward (smaller samples) (length samples) (ordered samples (length samples)) z best i u v
              (omega (arith, room)) (lead u v) (was.ahead v i l t)
          onto u i t (inl l) (no v) = absurd (omega (arith, was.none (omega (arith, lt_of_not-le v)) i l))
          onto u i t (inr p) v = subst (Ahead (smaller samples) z) p.2
              (over u (i - b * M) p.1 (has_top (i - b * M) p.1 (subst (λ j. top ≤ g j) (sym p.2) t)))

          under : length samples ≤ z → (i : ℕ) → (i < b * M) ⊎ ((b * M ≤ i) × (i - b * M < M) × (b * M + (i - b * M) ≡ i)) → g i < top
          under u i (inl l) = was.none (none u).0 i l
          under u i (inr p) = subst (λ j. g j < top) p.2
              (omega (arith, scored b (i - b * M) hb p.1, (none u).1 (i - b * M) p.1, r.low b hb, r.few b hb))

  -- the block was weighed, and a bit found
  module _ (bit : ℕ) (found : Lightest samples d starts (8 * b) N m M (b * M) M bit) (lk : b < length kept) where
    kept_here : get_or (set kept b bit) b 0 ≡ bit
    kept_here = get_or-set_same kept b bit 0 lk

    pub weighed_some : (best z : ℕ) → bit < length samples → (z ≡ best) ⊎ (z ≡ bit) → z < length samples → Ahead (smaller samples) z bit
        → (best < length samples → Ahead (smaller samples) z best)
        → Settled samples sh d starts counts b (bound counts met b) best z met met kept (set kept b bit)
    weighed_some best z hbit one hz over lead = record {
      ready = r;
      others = λ j u. refl;
      lower = omega arith;
      none = λ u. absurd (omega arith);
      knows = λ was. knows_one met (set kept b bit) (λ j u. refl) (λ j u. get_or-set_other kept b j bit 0 u) (here (was.block b hb)) was;
      leads = λ was g scored lead_was. leads_more g scored (was.block b hb) best z lead_was (λ u. by one) (λ u v. lead v)
          (λ u k l t. ahead_onward (smaller samples) (length samples) (ordered samples (length samples)) z bit (b * M + k) u hbit
          (omega (arith, room)) over (found.ahead hbit k l l t)) (λ u. absurd (omega arith));
    }
      where
        here : Here met kept → Here met (set kept b bit)
        here was = subst (λ y. Known samples d starts (8 * b) N M (b * M) (whole b) m y) (sym kept_here)
            (record {
              under = was.under;
              inside = λ u. let i = found.inside u in (i.0, i.1);
              ahead = λ u k l e t. found.ahead u k l l t;
            })

        by : (z ≡ best) ⊎ (z ≡ bit) → (z ≡ best) ⊎ ((b * M ≤ z) × (z < b * M + M) × (N ≤ HB (z - b * M) + m))
        by (inl e) = inl e
        by (inr e) =
            let i = found.inside hbit in
            inr (omega (arith, e, i.0), omega (arith, e, i.1), subst (λ y. N ≤ HB (y - b * M) + m) (sym e) (found.light hbit))

    -- or none
    pub heavier : length samples ≤ bit → m + 1 ≤ N
    heavier hbit = omega (arith, found.none hbit 0 r.some r.some)

    pub weighed_none : (best : ℕ) → length samples ≤ bit
        → Settled samples sh d starts counts b (bound counts met b) best best met (set met b (m + 1)) kept (set kept b bit)
    weighed_none best hbit = record {
      ready = ready_set sh starts counts met r b hb (m + 1) (heavier hbit);
      others = λ j u. get_or-set_other met b j (m + 1) 0 u;
      lower = omega (arith, met_here);
      none = λ u. (u, omega (arith, met_here, heavier hbit, r.low b hb));
      knows = λ was. knows_one (set met b (m + 1)) (set kept b bit) (λ j u. get_or-set_other met b j (m + 1) 0 u)
          (λ j u. get_or-set_other kept b j bit 0 u) here was;
      leads = λ was g scored lead_was. leads_more g scored (was.block b hb) best best lead_was (λ u. inl refl)
          (λ u v. ahead_best u) (λ u k l t. absurd (omega (arith, found.none hbit k l l))) (λ u. (u, λ k l. found.none hbit k l l));
    }
      where
        met_here : get_or (set met b (m + 1)) b 0 ≡ m + 1
        met_here = get_or-set_same met b (m + 1) 0 (omega (arith, r.met_long, r.blocks))

        here : Here (set met b (m + 1)) (set kept b bit)
        here = subst (λ x. Known samples d starts (8 * b) N M (b * M) (whole b) x (get_or (set kept b bit) b 0)) (sym met_here)
            (subst (λ y. Known samples d starts (8 * b) N M (b * M) (whole b) (m + 1) y) (sym kept_here)
            (record {
              under = λ k l e. omega (arith, found.none hbit k l l);
              inside = λ u. absurd (omega arith);
              ahead = λ u. absurd (omega arith);
            }))

        ahead_best : best < length samples → Ahead (smaller samples) best best
        ahead_best u = ahead_self (smaller samples) (length samples) (ordered samples (length samples)) best u

  -- the block is passed over, since its bound is less
  pub passed : (top best : ℕ) → bound counts met b ≤ top → (bound counts met b ≡ top → ⊥)
      → Settled samples sh d starts counts b top best best met met kept kept
  passed top best le ne = record {
    ready = r;
    others = λ j u. refl;
    lower = le;
    none = λ u. (u, omega (arith, ne));
    knows = λ was. was;
    leads = λ was g scored lead_was. record {
      is = lead_was.is;
      ahead = λ u i l t. go was g scored lead_was u i l t (dec_lt i (b * M));
      none = λ u i l. by was g scored lead_was u i l (dec_lt i (b * M));
    };
  }
    where
      less : Knows samples sh d starts counts whole met kept → (g : ℕ → ℕ) → Scored g sh d starts counts → (i : ℕ) → b * M ≤ i
          → i < b * M + M → g i < top
      less was g scored i f l =
          let k = i - b * M in
          let hk : k < M = omega arith in
          let e : b * M + k ≡ i = omega arith in
          subst (λ j. g j < top) e (omega (arith, scored b k hb hk, (was.block b hb).under k hk refl, r.low b hb, r.few b hb, ne))

      go : Knows samples sh d starts counts whole met kept → (g : ℕ → ℕ) → Scored g sh d starts counts → Leads samples g top (b * M) best
          → best < length samples → (i : ℕ) → i < b * M + M → top ≤ g i → Dec (i < b * M) → Ahead (smaller samples) best i
      go was g scored lead_was u i l t (yes v) = lead_was.ahead u i v t
      go was g scored lead_was u i l t (no v) = absurd (omega (arith, less was g scored i (omega (arith, lt_of_not-le v)) l))

      by : Knows samples sh d starts counts whole met kept → (g : ℕ → ℕ) → Scored g sh d starts counts → Leads samples g top (b * M) best
          → length samples ≤ best → (i : ℕ) → i < b * M + M → Dec (i < b * M) → g i < top
      by was g scored lead_was u i l (yes v) = lead_was.none u i v
      by was g scored lead_was u i l (no v) = less was g scored i (omega (arith, lt_of_not-le v)) l

  -- its known bit tells
  pub stayed : (best z : ℕ) → z < length samples → get_or kept b 0 < length samples → Ahead (smaller samples) z (get_or kept b 0)
      → (best < length samples → Ahead (smaller samples) z best)
      → (z ≡ best) ⊎ ((z ≡ get_or kept b 0) × (N ≤ HB (get_or kept b 0 % M) + m))
      → Settled samples sh d starts counts b (bound counts met b) best z met met kept kept
  stayed best z hz hbit over lead one = record {
    ready = r;
    others = λ j u. refl;
    lower = omega arith;
    none = λ u. absurd (omega arith);
    knows = λ was. was;
    leads = λ was g scored lead_was. leads_more g scored (was.block b hb) best z lead_was (λ u. by (was.block b hb) one) (λ u v. lead v)
        (λ u k l t. ahead_onward (smaller samples) (length samples) (ordered samples (length samples)) z (get_or kept b 0)
        (b * M + k) u hbit
        (omega (arith, room)) over ((was.block b hb).ahead hbit k l refl t)) (λ u. absurd (omega arith));
  }
    where
      by : Here met kept → (z ≡ best) ⊎ ((z ≡ get_or kept b 0) × (N ≤ HB (get_or kept b 0 % M) + m))
          → (z ≡ best) ⊎ ((b * M ≤ z) × (z < b * M + M) × (N ≤ HB (z - b * M) + m))
      by was (inl e) = inl e
      by was (inr p) =
          let y = get_or kept b 0 in
          let i = was.inside hbit in
          let place : y % M ≡ y - b * M = in_block (y - b * M) (omega (arith, i.0, i.1)) (omega (arith, i.0)) in
          inr (
            omega (arith, p.0, i.0),
            omega (arith, p.0, i.1),
            subst (λ q. N ≤ HB (q - b * M) + m) (sym p.0)
                (subst (λ q. N ≤ HB q + m) place p.1),
          )
        where
          in_block : (k : ℕ) → k < M → get_or kept b 0 ≡ b * M + k → get_or kept b 0 % M ≡ k
          in_block k l e = ap (λ q. q % M) e ∙ digits_mod b l

-- ---- all blocks

module _ (samples : List ℕ) (sh : Shape) (d : Word) (starts counts met kept : List ℕ) (r : Ready sh starts counts met) where
  -- no bit has a greater score than any bound
  pub all_under : (top : ℕ) → ((b : ℕ) → b < sh.blocks → bound counts met b ≤ top) → Knows samples sh d starts counts whole met kept
      → (g : ℕ → ℕ) → Scored g sh d starts counts → (i : ℕ) → i < sh.blocks * sh.size → g i ≤ top
  all_under top le was g scored i l =
      let b = i / sh.size in
      let k = i % sh.size in
      let hb : b < sh.blocks = (div-lt_iff_lt-mul r.some).1 l in
      let hk : k < sh.size = mod-lt i r.some in
      subst (λ j. g j ≤ top) (div-add-mod' i sh.size)
      (omega (arith, scored b k hb hk, (was.block b hb).under k hk refl, le b hb, r.low b hb, r.few b hb))

pub leads_none : (samples : List ℕ) (g : ℕ → ℕ) (top M r : ℕ) → length samples ≤ r → Leads samples g top (0 * M) r
leads_none samples g top M r h = record {
  is = λ u. absurd (omega arith);
  ahead = λ u. absurd (omega arith);
  none = λ u i l. absurd (omega (arith, zero-mul M));
}

-- the bound of one block changes
module _ {samples : List ℕ} {sh : Shape} {d : Word} {starts counts : List ℕ} {b top best r : ℕ} {met met' kept kept' : List ℕ}
    (f : Settled samples sh d starts counts b top best r met met' kept kept') where
  pub settled_as : {top' : ℕ} → top ≡ top' → Settled samples sh d starts counts b top' best r met met' kept kept'
  settled_as e = subst (λ t. Settled samples sh d starts counts b t best r met met' kept kept') e f

  pub settled_lower : ((j : ℕ) → j < sh.blocks → bound counts met j ≤ top) → (j : ℕ) → j < sh.blocks → bound counts met' j ≤ top
  settled_lower was j hj = go (ℕ_discrete j b)
    where
      go : Dec (j ≡ b) → bound counts met' j ≤ top
      go (yes e) = subst (λ i. bound counts met' i ≤ top) (sym e) f.lower
      go (no u) = subst (λ z. 8 + get_or counts j 0 - 2 * z ≤ top) (sym (f.others j u)) (was j hj)

  pub settled_none : length samples ≤ r → (length samples ≤ best → (j : ℕ) → j < b → bound counts met j < top) → (j : ℕ) → j < b + 1
      → bound counts met' j < top
  settled_none h was j hj = go (ℕ_discrete j b)
    where
      go : Dec (j ≡ b) → bound counts met' j < top
      go (yes e) = subst (λ i. bound counts met' i < top) (sym e) (f.none h).1
      go (no u) = subst (λ z. 8 + get_or counts j 0 - 2 * z < top) (sym (f.others j u)) (was (f.none h).0 j (omega arith))
