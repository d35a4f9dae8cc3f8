-- What is known of a block when one more bit is seen, or all that a check covers.
use mathlib.Core.Path.{◌≡◌, refl, sym, ap, ◌∙◌, subst}
use mathlib.Core.Bool.{Bool, true, false, true≢false, ◌&&◌, ◌||◌}
use mathlib.Core.List.{List}
use mathlib.Core.Logic.{◌⊎◌, inl, inr}
use Prim.Native.Nat.{ℕ, ◌+◌, ◌-◌, ◌*◌, ◌≤◌, ◌<◌}
use native.Mathlib.Numerals.{add-one}
use native.Mathlib.Nat.{mul-le-mul_right}
use native.Mathlib.Decide.{ℕ_discrete}
use native.Mathlib.Omega.{arith}
use borrow.Author.Tests.{eqb-true, eq-eqb, lt-ltb, le-ltb, ltb-true}
use lib.Dec.{eqb, ltb}
use lib.ListN.{length, get_or, set, length-set}
use lib.Seq.{get_or-set_same, get_or-set_other}
use Rattle.bits.specs.Bits.{Word}
use Rattle.bits.proofs.Counting.{count-le}
use Rattle.layout.specs.declared.Shape.{Shape}
use Rattle.flipping.specs.bounds.Reading.{hits}
use Rattle.flipping.specs.bounds.Keeping.{Ready}
use Rattle.magnitudes.specs.Patterns.{smaller}
use Rattle.magnitudes.proofs.Patterns.{ordered}
use Rattle.samples.specs.raising.Knowing.{Within, Ahead, Known, Knows, covered, nearer, raised}
use Rattle.samples.proofs.raising.Orders.{ahead_self, ahead_onward}

-- ---- one of two

pub one_of : (a b : Bool) → (a || b) ≡ true → (a ≡ true) ⊎ (b ≡ true)
one_of true b e = inl refl
one_of false b e = inr e

pub or_left : (a b : Bool) → a ≡ true → (a || b) ≡ true
or_left true b e = refl
or_left false b e = absurd (true≢false (sym e))

pub or_right : (a b : Bool) → b ≡ true → (a || b) ≡ true
or_right true b e = refl
or_right false b e = e

-- ---- a bit more

module _ (samples : List ℕ) (d : Word) (starts : List ℕ) (from n m first : ℕ) where
  abbrev H : ℕ → ℕ
  H k = hits d starts from n k

  -- of fewer bits too
  pub known_fewer : (seen seen' : ℕ → Bool) (met bit : ℕ) → ((k : ℕ) → k < m → seen' k ≡ true → seen k ≡ true)
      → Known samples d starts from n m first seen met bit → Known samples d starts from n m first seen' met bit
  known_fewer seen seen' met bit h was = record {
    under = λ k l e. was.under k l (h k l e);
    inside = was.inside;
    ahead = λ u k l e. was.ahead u k l (h k l e);
  }

  module _ (seen : ℕ → Bool) (met bit : ℕ) (was : Known samples d starts from n m first seen met bit) (k : ℕ) where
    abbrev more : ℕ → Bool
    more j = seen j || eqb j k

    split : (j : ℕ) → more j ≡ true → (seen j ≡ true) ⊎ (j ≡ k)
    split j e = go (one_of (seen j) (eqb j k) e)
      where
        go : (seen j ≡ true) ⊎ (eqb j k ≡ true) → (seen j ≡ true) ⊎ (j ≡ k)
        go (inl p) = inl p
        go (inr p) = inr (eqb-true j k p)

    -- it is none of the block's
    pub look_past : m ≤ k → Known samples d starts from n m first more met bit
    look_past u = known_fewer seen more met bit (λ j l e. go j l (split j e)) was
      where
        go : (j : ℕ) → j < m → (seen j ≡ true) ⊎ (j ≡ k) → seen j ≡ true
        go j l (inl p) = p
        go j l (inr p) = absurd (omega arith)

    -- it has fewer checks met than any before
    pub look_lower : k < m → first + m ≤ length samples → n < H k + met
        → Known samples d starts from n m first more (n - H k) (first + k)
    look_lower l room h = record {
      under = λ j lj e. low j lj (split j e);
      inside = λ u. (omega arith, omega arith);
      ahead = λ u j lj e t. over j lj t (split j e);
    }
      where
        few : H k ≤ n
        few = count-le n (λ e. d (get_or starts (from + e) 0 + k))

        low : (j : ℕ) → j < m → (seen j ≡ true) ⊎ (j ≡ k) → H j + (n - H k) ≤ n
        low j lj (inl p) = omega (arith, was.under j lj p, few)
        low j lj (inr p) = subst (λ i. H i + (n - H k) ≤ n) (sym p) (omega (arith, few))

        over : (j : ℕ) → j < m → n ≤ H j + (n - H k) → (seen j ≡ true) ⊎ (j ≡ k) → Ahead (smaller samples) (first + k) (first + j)
        over j lj t (inl p) = absurd (omega (arith, was.under j lj p, few))
        over j lj t (inr p) = subst (λ i. Ahead (smaller samples) (first + k) (first + i)) (sym p)
            (ahead_self (smaller samples) (length samples) (ordered samples (length samples)) (first + k) (omega arith))

    -- it has more
    pub look_higher : H k + met < n → Known samples d starts from n m first more met bit
    look_higher h = record {
      under = λ j lj e. low j lj (split j e);
      inside = was.inside;
      ahead = λ u j lj e t. over u j lj t (split j e);
    }
      where
        low : (j : ℕ) → j < m → (seen j ≡ true) ⊎ (j ≡ k) → H j + met ≤ n
        low j lj (inl p) = was.under j lj p
        low j lj (inr p) = subst (λ i. H i + met ≤ n) (sym p) (omega arith)

        over : bit < length samples → (j : ℕ) → j < m → n ≤ H j + met → (seen j ≡ true) ⊎ (j ≡ k)
            → Ahead (smaller samples) bit (first + j)
        over u j lj t (inl p) = was.ahead u j lj p t
        over u j lj t (inr p) = absurd (omega (arith, ap H p))

    -- it has as many
    pub look_equal : (r : ℕ) → H k + met ≡ n → (r < length samples → (bit < length samples) × ((first ≤ r) × (r < first + m))
        × Ahead (smaller samples) r bit × Ahead (smaller samples) r (first + k))
        → first + m ≤ length samples → Known samples d starts from n m first more met r
    look_equal r h is room = record {
      under = λ j lj e. low j lj (split j e);
      inside = λ u. (is u).1;
      ahead = λ u j lj e t. over u j lj t (split j e);
    }
      where
        low : (j : ℕ) → j < m → (seen j ≡ true) ⊎ (j ≡ k) → H j + met ≤ n
        low j lj (inl p) = was.under j lj p
        low j lj (inr p) = subst (λ i. H i + met ≤ n) (sym p) (omega arith)

        over : r < length samples → (j : ℕ) → j < m → n ≤ H j + met → (seen j ≡ true) ⊎ (j ≡ k)
            → Ahead (smaller samples) r (first + j)
        over u j lj t (inl p) = ahead_onward (smaller samples) (length samples) (ordered samples (length samples)) r bit (first + j) u (is u
            ).0
            (omega arith) (is u).2 (was.ahead (is u).0 j lj p t)
        over u j lj t (inr p) = subst (λ i. Ahead (smaller samples) r (first + i)) (sym p) (is u).3

-- ---- the bits that a check covers

module _ (starts : List ℕ) (from M p : ℕ) where
  pub covered_none : (k : ℕ) → covered starts from M p 0 k ≡ false
  unfolding covered
  covered_none k = refl

  covered_next : (e k : ℕ) → covered starts from M p (e + 1) k
      ≡ (covered starts from M p e k || (eqb (get_or starts (from + e) 0 + k) p || eqb (get_or starts (from + e) 0 + k) (p + M)))
  unfolding covered
  covered_next e k = ap (λ n. covered starts from M p n k) (add-one e)

  -- one start more covers one bit more
  pub covered_more : (seen : ℕ → Bool) (e k : ℕ)
      → ((j : ℕ) → j < M → get_or starts (from + e) 0 + j ≡ p → k ≡ j) → ((j : ℕ) → j < M → get_or starts (from + e) 0 + j ≡ p + M → k ≡ j)
      → (j : ℕ) → j < M → (seen j || covered starts from M p (e + 1) j) ≡ true
      → ((seen j || covered starts from M p e j) || eqb j k) ≡ true
  covered_more seen e k here there j l t = go (one_of (seen j) _ t)
    where
      s : ℕ
      s = get_or starts (from + e) 0

      old : Bool
      old = covered starts from M p e j

      last : (eqb (s + j) p ≡ true) ⊎ (eqb (s + j) (p + M) ≡ true) → j ≡ k
      last (inl q) = sym (here j l (eqb-true (s + j) p q))
      last (inr q) = sym (there j l (eqb-true (s + j) (p + M) q))

      by : (old ≡ true) ⊎ ((eqb (s + j) p || eqb (s + j) (p + M)) ≡ true) → ((seen j || old) || eqb j k) ≡ true
      by (inl q) = or_left (seen j || old) (eqb j k) (or_right (seen j) old q)
      by (inr q) = or_right (seen j || old) (eqb j k) (eq-eqb j k (last (one_of (eqb (s + j) p) (eqb (s + j) (p + M)) q)))

      go : (seen j ≡ true) ⊎ (covered starts from M p (e + 1) j ≡ true) → ((seen j || old) || eqb j k) ≡ true
      go (inl q) = or_left (seen j || old) (eqb j k) (or_left (seen j) old q)
      go (inr q) = by (one_of old _ (sym (covered_next e j) ∙ q))

-- none so far
pub seen_only : (a b : Bool) → b ≡ false → (a || b) ≡ true → a ≡ true
seen_only true b e t = refl
seen_only false b e t = absurd (true≢false (sym t ∙ e))

-- ---- block after block

pub block_room : (b blocks m : ℕ) → b < blocks → b * m + m ≤ blocks * m
block_room b blocks m h = omega (arith, mul-le-mul_right m h)

-- one number changed
module _ (xs : List ℕ) (b v : ℕ) (here : b < length xs) where
  pub changed : (P : ℕ → ℕ → Type 0) → P b v → ((i : ℕ) → (i ≡ b → ⊥) → P i (get_or xs i 0)) → (i : ℕ) → P i (get_or (set xs b v) i 0)
  changed P new old i = go (ℕ_discrete i b)
    where
      go : Dec (i ≡ b) → P i (get_or (set xs b v) i 0)
      go (yes e) = subst (λ j. P j (get_or (set xs b v) j 0)) (sym e) (subst (P b) (sym (get_or-set_same xs b v 0 here)) new)
      go (no d) = subst (P i) (sym (get_or-set_other xs b i v 0 d)) (old i d)

module _ (sh : Shape) (starts counts met : List ℕ) (r : Ready sh starts counts met) (b : ℕ) (hb : b < sh.blocks) where
  pub block_within : (d : List ℕ) → length d ≡ 65 → Within starts d (8 * b) (get_or counts b 0) sh.size
  block_within d e = record {
    few = r.low b hb;
    room = omega (arith, r.low b hb, r.starts_long, r.blocks);
    starts_long = omega (arith, r.starts_long);
    d_long = omega arith;
    size = omega (arith, r.held, r.words);
    near = λ i l. omega (arith, r.near b i hb l, r.held, r.words);
  }

  pub ready_set : (v : ℕ) → v ≤ get_or counts b 0 → Ready sh starts counts (set met b v)
  ready_set v h = record {
    some = r.some;
    held = r.held;
    close = r.close;
    words = r.words;
    blocks = r.blocks;
    starts_long = r.starts_long;
    counts_long = r.counts_long;
    met_long = length-set met b v ∙ r.met_long;
    low = r.low;
    near = r.near;
    inside = r.inside;
    few = changed met b v (omega (arith, r.met_long, r.blocks)) (λ i z. i < sh.blocks → z ≤ get_or counts i 0) (λ l. h)
        (λ i d l. r.few i l);
  }

-- what is known of one block changed
module _ (samples : List ℕ) (sh : Shape) (d : Word) (starts counts met kept : List ℕ) (b v w : ℕ) (lm : b < length met)
    (lk : b < length kept) (seen seen' : ℕ → ℕ → Bool) where
  abbrev Of : (ℕ → ℕ → Bool) → ℕ → ℕ → ℕ → Type 0
  Of see j x y = Known samples d starts (8 * j) (get_or counts j 0) sh.size (j * sh.size) (see j) x y

  pub knows_set : Of seen' b v w → ((j : ℕ) → j < sh.blocks → (j ≡ b → ⊥) → Of seen' j (get_or met j 0) (get_or kept j 0))
      → Knows samples sh d starts counts seen' (set met b v) (set kept b w)
  knows_set new old = record { block = λ j hj. go j hj (ℕ_discrete j b) }
    where
      go : (j : ℕ) → j < sh.blocks → Dec (j ≡ b) → Of seen' j (get_or (set met b v) j 0) (get_or (set kept b w) j 0)
      go j hj (yes e) = subst (λ i. Of seen' i (get_or (set met b v) i 0) (get_or (set kept b w) i 0)) (sym e)
          (subst (λ z. Of seen' b z (get_or (set kept b w) b 0)) (sym (get_or-set_same met b v 0 lm))
          (subst (Of seen' b v) (sym (get_or-set_same kept b w 0 lk)) new))
      go j hj (no u) = subst (λ z. Of seen' j z (get_or (set kept b w) j 0)) (sym (get_or-set_other met b j v 0 u))
          (subst (Of seen' j (get_or met j 0)) (sym (get_or-set_other kept b j w 0 u)) (old j hj u))

-- ---- ranges

pub within_less : (starts d : List ℕ) (from n m k : ℕ) → Within starts d from n m → k ≤ m → Within starts d from n k
within_less starts d from n m k w l = record {
  few = w.few;
  room = w.room;
  starts_long = w.starts_long;
  d_long = w.d_long;
  size = omega (arith, w.size);
  near = λ e h. omega (arith, w.near e h);
}

pub one_inside : (first m r bit k : ℕ) → (r ≡ bit) ⊎ (r ≡ first + k) → (first ≤ bit) × (bit < first + m) → k < m
    → (first ≤ r) × (r < first + m)
one_inside first m r bit k (inl e) p l = (omega (arith, e, p.0), omega (arith, e, p.1))
one_inside first m r bit k (inr e) p l = (omega (arith, e), omega (arith, e))

-- ---- what the checks so far cover, and what the blocks so far

both : (a b : Bool) → (a && b) ≡ true → (a ≡ true) × (b ≡ true)
both true true h = (refl, refl)
both true false h = absurd (true≢false (sym h))
both false b h = absurd (true≢false (sym h))

pub and-true : (a b : Bool) → a ≡ true → b ≡ true → (a && b) ≡ true
and-true true b e f = f
and-true false b e f = absurd (true≢false (sym e))

module _ (seen cover : ℕ → ℕ → Bool) where
  -- of the blocks before block b the covered bits too
  abbrev pub up_to : ℕ → ℕ → ℕ → Bool
  up_to b j i = seen j i || (ltb j b && cover j i)

  pub none_yet : (j i : ℕ) → up_to 0 j i ≡ true → seen j i ≡ true
  none_yet j i t = seen_only (seen j i) _ (ap (λ v. v && cover j i) (le-ltb j 0 (omega arith))) t

  pub block_here : (b i : ℕ) → up_to (b + 1) b i ≡ true → (up_to b b i || cover b i) ≡ true
  block_here b i t = go (one_of (seen b i) _ t)
    where
      go : (seen b i ≡ true) ⊎ ((ltb b (b + 1) && cover b i) ≡ true) → (up_to b b i || cover b i) ≡ true
      go (inl q) = or_left (up_to b b i) (cover b i) (or_left (seen b i) _ q)
      go (inr q) = or_right (up_to b b i) (cover b i) (both (ltb b (b + 1)) (cover b i) q).1

  pub block_other : (b j i : ℕ) → (j ≡ b → ⊥) → up_to (b + 1) j i ≡ true → up_to b j i ≡ true
  block_other b j i u t = go (one_of (seen j i) _ t)
    where
      go : (seen j i ≡ true) ⊎ ((ltb j (b + 1) && cover j i) ≡ true) → up_to b j i ≡ true
      go (inl q) = or_left (seen j i) _ q
      go (inr q) =
          let p = both (ltb j (b + 1)) (cover j i) q in
          or_right (seen j i) _ (and-true (ltb j b) (cover j i) (lt-ltb j b (omega (arith, ltb-true j (b + 1) p.0, u))) p.1)

  pub block_all : (b j i : ℕ) → j < b → (seen j i || cover j i) ≡ true → up_to b j i ≡ true
  block_all b j i l t = go (one_of (seen j i) (cover j i) t)
    where
      go : (seen j i ≡ true) ⊎ (cover j i ≡ true) → up_to b j i ≡ true
      go (inl q) = or_left (seen j i) _ q
      go (inr q) = or_right (seen j i) _ (and-true (ltb j b) (cover j i) (lt-ltb j b l) q)

pub knows_fewer : (samples : List ℕ) (sh : Shape) (d : Word) (starts counts met kept : List ℕ) (seen seen' : ℕ → ℕ → Bool)
    → ((j i : ℕ) → j < sh.blocks → i < sh.size → seen' j i ≡ true → seen j i ≡ true)
    → Knows samples sh d starts counts seen met kept → Knows samples sh d starts counts seen' met kept
knows_fewer samples sh d starts counts met kept seen seen' h was = record {
  block = λ j hj. known_fewer samples d starts (8 * j) (get_or counts j 0) sh.size (j * sh.size) (seen j) (seen' j) (get_or met j 0)
      (get_or kept j 0) (λ i l t. h j i hj l t) (was.block j hj);
}

-- one check more
module _ (sh : Shape) (d : Word) (starts counts : List ℕ) (from k : ℕ) where
  pub raised_none : (j i : ℕ) → raised sh d starts counts from k 0 j i ≡ false
  unfolding raised
  raised_none j i = refl

  pub raised_next : (e j i : ℕ) → raised sh d starts counts from k (e + 1) j i ≡ (raised sh d starts counts from k e j i
      || (d (get_or starts (from + e) 0 + k)
      && covered starts (8 * j) sh.size (nearer sh.size (get_or starts (from + e) 0 + k)) (get_or counts j 0) i))
  unfolding raised
  raised_next e j i = ap (λ n. raised sh d starts counts from k n j i) (add-one e)

pub or_shifted : (a b c : Bool) → (a || (b || c)) ≡ true → ((a || b) || c) ≡ true
or_shifted true b c e = refl
or_shifted false b c e = e

pub unset : (a b c : Bool) → b ≡ false → (a || (b && c)) ≡ true → a ≡ true
unset true b c e t = refl
unset false true c e t = absurd (true≢false e)
unset false false c e t = absurd (true≢false (sym t))

pub as_set : (a b c : Bool) → (a || (b && c)) ≡ true → (a || c) ≡ true
as_set true b c t = refl
as_set false true c t = t
as_set false false c t = absurd (true≢false (sym t))
