-- After a flip: a bit that has fewer checks met than before is covered by a broken check of the bit that was flipped.
use mathlib.Core.Path.{◌≡◌, refl, sym, ap, ap₂, ◌∙◌, subst}
use mathlib.Core.Bool.{Bool, true, false, true≢false, not, ◌&&◌, ◌||◌}
use mathlib.Core.List.{List}
use mathlib.Core.Logic.{◌⊎◌, inl, inr}
use Prim.Native.Nat.{ℕ, zero, suc, ◌+◌, ◌-◌, ◌*◌, ◌/◌, ◌%◌, ◌≤◌, ◌<◌}
use native.Mathlib.Nat.{lt_of_not-le, mod-lt, add-mod_left, div-add-mod', div-lt_iff_lt-mul}
use native.Mathlib.Decide.{dec_lt, ℕ_discrete}
use native.Mathlib.Omega.{arith}
use borrow.Author.Tests.{eqb-true, eq-eqb, lt-ltb, le-ltb, le-leb, leb-true}
use lib.Dec.{eqb, leb}
use lib.ListN.{get_or}
use Rattle.bits.specs.Bits.{Word, ◌⊕◌, sum, count, tally, flipped, when◌then◌else◌}
use Rattle.rules.specs.Codes.{Code}
use Rattle.layout.specs.declared.Shape.{Shape}
use Rattle.layout.specs.Lent.{Lent, laid}
use Rattle.vectors.specs.Vectors.{wbit}
use Rattle.flipping.specs.bounds.Reading.{Twice, other, hits, Gathered}
use Rattle.flipping.specs.bounds.Keeping.{Ready}
use Rattle.flipping.proofs.bounds.Flipped.{start_near, start-row, flipped_twice}
use Rattle.samples.specs.raising.Knowing.{Knows, whole, covered, nearer, raised}
use Rattle.samples.proofs.raising.Seeing.{or_left, or_right, and-true, knows_fewer}

-- ---- one of several

pub record One (n : ℕ) (f : Word) : Type 0 where
  pub at : ℕ
  pub under : at < n
  pub holds : f at ≡ true

one_more : (n : ℕ) (f : Word) → One n f → One (suc n) f
one_more n f o = record { at = o.at; under = omega (arith, o.under); holds = o.holds }

-- a sum that is 1 has a one
one_summed : (n : ℕ) (f : Word) → sum n f ≡ true → One n f
unfolding sum
one_summed zero f e = absurd (true≢false (sym e))
one_summed (suc n) f e = go (f n) refl (one_summed n f)
  where
    go : (b : Bool) → f n ≡ b → (sum n f ≡ true → One n f) → One (suc n) f
    go true q ih = record { at = n; under = omega arith; holds = q }
    go false q ih = one_more n f (ih (left (sum n f) (ap (λ b. sum n f ⊕ b) (sym q) ∙ e)))
      where
        left : (a : Bool) → a ⊕ false ≡ true → a ≡ true
        left true h = refl
        left false h = h

-- of two counts the greater one has a one where the other has none
one_counted : (n : ℕ) (f g : Word) → count n f < count n g → One n (λ e. not (f e) && g e)
unfolding count
one_counted zero f g h = absurd (omega arith)
one_counted (suc n) f g h = go (f n) (g n) refl refl (one_counted n f g)
  where
    go : (a b : Bool) → f n ≡ a → g n ≡ b → (count n f < count n g → One n (λ e. not (f e) && g e)) → One (suc n) (λ e. not (f e) && g e)
    go false true p q ih = record { at = n; under = omega arith; holds = ap₂ (λ x y. not x && y) p q }
    go true b p q ih = one_more n _ (ih (omega (arith, ap tally p, ap tally q, small b)))
      where
        small : (b : Bool) → tally b ≤ 1
        small true = omega arith
        small false = omega arith
    go false false p q ih = one_more n _ (ih (omega (arith, ap tally p, ap tally q)))

unlike_is : (a b : Bool) → (not a && b) ≡ true → (a ≡ false) × (b ≡ true)
unlike_is true b e = absurd (true≢false (sym e))
unlike_is false b e = (refl, e)

either_is : (a b : Bool) → a ⊕ b ≡ true → (a ≡ true) ⊎ (b ≡ true)
either_is true b e = inl refl
either_is false b e = inr e

-- ---- a check that covers a bit, and the broken checks of a bit

pub covered_at : (starts : List ℕ) (from M p n e i : ℕ) → e < n
    → (get_or starts (from + e) 0 + i ≡ p) ⊎ (get_or starts (from + e) 0 + i ≡ p + M) → covered starts from M p n i ≡ true
unfolding covered
covered_at starts from M p zero e i l h = absurd (omega arith)
covered_at starts from M p (suc n) e i l h = go (ℕ_discrete e n) (λ u. covered_at starts from M p n e i u h)
  where
    s : ℕ
    s = get_or starts (from + n) 0 + i

    here : (s ≡ p) ⊎ (s ≡ p + M) → (eqb s p || eqb s (p + M)) ≡ true
    here (inl q) = or_left (eqb s p) _ (eq-eqb s p q)
    here (inr q) = or_right (eqb s p) _ (eq-eqb s (p + M) q)

    go : Dec (e ≡ n) → (e < n → covered starts from M p n i ≡ true) → covered starts from M p (suc n) i ≡ true
    go (yes q) ih = or_right (covered starts from M p n i) _
        (here (subst (λ z. (get_or starts (from + z) 0 + i ≡ p) ⊎ (get_or starts (from + z) 0 + i ≡ p + M)) q h))
    go (no u) ih = or_left (covered starts from M p n i) _ (ih (omega (arith, u)))

pub raised_at : (sh : Shape) (d : Word) (starts counts : List ℕ) (from k n e j i : ℕ) → e < n → d (get_or starts (from + e) 0 + k) ≡ true
    → covered starts (8 * j) sh.size (nearer sh.size (get_or starts (from + e) 0 + k)) (get_or counts j 0) i ≡ true
    → raised sh d starts counts from k n j i ≡ true
unfolding raised
raised_at sh d starts counts from k zero e j i l on cover = absurd (omega arith)
raised_at sh d starts counts from k (suc n) e j i l on cover = go (ℕ_discrete e n)
    (λ u. raised_at sh d starts counts from k n e j i u on cover)
  where
    term : ℕ → Bool
    term z = d (get_or starts (from + z) 0 + k)
        && covered starts (8 * j) sh.size (nearer sh.size (get_or starts (from + z) 0 + k)) (get_or counts j 0) i

    go : Dec (e ≡ n) → (e < n → raised sh d starts counts from k n j i ≡ true) → raised sh d starts counts from k (suc n) j i ≡ true
    go (yes q) ih = or_right (raised sh d starts counts from k n j i) _ (subst (λ z. term z ≡ true) q (and-true _ _ on cover))
    go (no u) ih = or_left (raised sh d starts counts from k n j i) _ (ih (omega (arith, u)))

-- ---- the two places of a check

module _ (M p q : ℕ) (small : M ≤ 512) (hp : p % 1024 < 2 * M) (is : (q ≡ p) ⊎ (q ≡ other M p)) where
  pub nearer_of : (q ≡ nearer M p) ⊎ (q ≡ nearer M p + M)
  nearer_of = go (dec_lt (p % 1024) M) is
    where
      go : Dec (p % 1024 < M) → (q ≡ p) ⊎ (q ≡ other M p) → (q ≡ nearer M p) ⊎ (q ≡ nearer M p + M)
      go (yes l) (inl e) = inl (e ∙ sym (ap (λ t. when t then p else p - M) (lt-ltb (p % 1024) M l)))
      go (yes l) (inr e) = inr (e ∙ ap (λ t. when t then p + M else p - M) (lt-ltb (p % 1024) M l)
          ∙ ap (λ z. z + M) (sym (ap (λ t. when t then p else p - M) (lt-ltb (p % 1024) M l))))
      go (no u) (inl e) =
          let l : M ≤ p % 1024 = omega (arith, lt_of_not-le u) in
          let back : p ≡ p - M + M = omega arith in
          inr (e ∙ back ∙ ap (λ z. z + M) (sym (ap (λ t. when t then p else p - M) (le-ltb (p % 1024) M l))))
      go (no u) (inr e) =
          let l : M ≤ p % 1024 = omega (arith, lt_of_not-le u) in
          inl (e ∙ ap (λ t. when t then p + M else p - M) (le-ltb (p % 1024) M l)
          ∙ sym (ap (λ t. when t then p else p - M) (le-ltb (p % 1024) M l)))

  -- a doubled row has the same there
  pub same_there : (sh : Shape) (z d : Word) → sh.size ≡ M → 1 ≤ M → p / 1024 < sh.rows → Twice sh sh.rows z d → d q ≡ d p
  same_there sh z d size some hr two = go (dec_lt (p % 1024) M) is
    where
      r : ℕ
      r = p / 1024

      at : (n : ℕ) → n < 2 * M → d (1024 * r + n) ≡ z (64 * (r * sh.words) + n % M)
      at n l = two r n hr (subst (λ v. n < 2 * v) (sym size) l) ∙ ap (λ v. z (64 * (r * sh.words) + n % v)) size

      low : (n : ℕ) → n < M → n % M ≡ (n + M) % M
      low n l =
          let e : n + M ≡ M + n = omega arith in
          sym (ap (λ v. v % M) e ∙ add-mod_left M n)

      go : Dec (p % 1024 < M) → (q ≡ p) ⊎ (q ≡ other M p) → d q ≡ d p
      go w (inl e) = ap d e
      go (yes l) (inr e) =
          let n = p % 1024 in
          let here : p ≡ 1024 * r + n = omega arith in
          let there : q ≡ 1024 * r + (n + M) = omega (arith, e ∙ ap (λ t. when t then p + M else p - M) (lt-ltb n M l)) in
          ap d there ∙ at (n + M) (omega arith) ∙ ap (λ v. z (64 * (r * sh.words) + v)) (sym (low n l)) ∙ sym (at n hp) ∙ ap d (sym here)
      go (no u) (inr e) =
          let n = p % 1024 in
          let l : M ≤ n = omega (arith, lt_of_not-le u) in
          let here : p ≡ 1024 * r + (n - M + M) = omega arith in
          let there : q ≡ 1024 * r + (n - M) = omega (arith, e ∙ ap (λ t. when t then p + M else p - M) (le-ltb n M l)) in
          ap d there ∙ at (n - M) (omega arith) ∙ ap (λ v. z (64 * (r * sh.words) + v)) (low (n - M) (omega arith))
          ∙ sym (at (n - M + M) (omega arith)) ∙ ap d (sym here)

-- ---- a flip of bit k of block b

module _ (samples : List ℕ) (sh : Shape) (starts counts met kept : List ℕ) (r : Ready sh starts counts met) (bit : ℕ)
    (hbit : bit < sh.blocks * sh.size) (d d' : List ℕ) where
  abbrev M : ℕ
  M = sh.size

  abbrev b : ℕ
  b = bit / M

  abbrev k : ℕ
  k = bit % M

  abbrev N : ℕ
  N = get_or counts b 0

  -- where a check of the bit stands
  abbrev place : ℕ → ℕ
  place e = get_or starts (8 * b + e) 0 + k

  module _ (changed : (p : ℕ) → wbit d' p ≡ wbit d p ⊕ sum N (λ e. eqb p (place e) ⊕ eqb p (other M (place e)))) (c : Code) (h : List ℕ) (x
      : Word)
      (lent : Lent c h sh) (g : Gathered h sh starts counts sh.blocks) (two : Twice sh sh.rows (laid c sh x) (wbit d)) where
    hb : b < sh.blocks
    hb = (div-lt_iff_lt-mul r.some).1 hbit

    hk : k < M
    hk = mod-lt bit r.some

    small : M ≤ 512
    small = omega (arith, r.held, r.words)

    pub twice_flip : Twice sh sh.rows (laid c sh (flipped x bit)) (wbit d')
    twice_flip = subst (λ n. Twice sh sh.rows (laid c sh (flipped x n)) (wbit d')) (div-add-mod' bit M)
        (flipped_twice h sh b k hk small starts N (g b hb).1 c lent hb r.held x (wbit d) (wbit d') two changed)

    -- how many checks of bit i of block j are broken, before and after
    abbrev before : ℕ → ℕ → ℕ
    before j i = hits (wbit d) starts (8 * j) (get_or counts j 0) i

    abbrev after : ℕ → ℕ → ℕ
    after j i = hits (wbit d') starts (8 * j) (get_or counts j 0) i

    abbrev pub lowered : ℕ → ℕ → Bool
    lowered j i = leb (after j i) (before j i)

    -- those that have no more are known as before
    pub knows_lowered : Knows samples sh (wbit d) starts counts whole met kept → Knows samples sh (wbit d') starts counts lowered met kept
    knows_lowered was = record {
      block = λ j hj.
          let w = was.block j hj in
          record {
            under = λ i l e. omega (arith, leb-true (after j i) (before j i) e, w.under i l refl);
            inside = w.inside;
            ahead = λ u i l e t. w.ahead u i l refl (omega (arith, leb-true (after j i) (before j i) e, t));
          };
    }

    -- the others are seen anew
    seen_anew : (j i : ℕ) → before j i < after j i → raised sh (wbit d') starts counts (8 * b) k N j i ≡ true
    seen_anew j i less =
        let o = one_counted (get_or counts j 0) (λ e. wbit d (get_or starts (8 * j + e) 0 + i))
        (λ e. wbit d' (get_or starts (8 * j + e) 0 + i))
        less in
        let q = get_or starts (8 * j + o.at) 0 + i in
        let u = unlike_is (wbit d q) (wbit d' q) o.holds in
        let t : sum N (λ e. eqb q (place e) ⊕ eqb q (other M (place e))) ≡ true
        = sym (ap (λ z. z ⊕ sum N (λ e. eqb q (place e) ⊕ eqb q (other M (place e)))) u.0) ∙ sym (changed q) ∙ u.1 in
        let w = one_summed N (λ e. eqb q (place e) ⊕ eqb q (other M (place e))) t in
        let p = place w.at in
        let is : (q ≡ p) ⊎ (q ≡ other M p) = equal q p (either_is (eqb q p) (eqb q (other M p)) w.holds) in
        let hp = (start_near h sh b k hk small starts N (g b hb).1 w.at w.under).1 in
        let on : wbit d' p ≡ true
        = sym (same_there M p q small hp is sh (laid c sh (flipped x bit)) (wbit d') refl r.some
        (start-row h sh b k hk small starts N (g b hb).1 w.at w.under) twice_flip) ∙ u.1 in
        raised_at sh (wbit d') starts counts (8 * b) k N w.at j i w.under on
        (covered_at starts (8 * j) M (nearer M p) (get_or counts j 0) o.at i o.under (nearer_of M p q small hp is))
      where
        equal : (q p : ℕ) → (eqb q p ≡ true) ⊎ (eqb q (other M p) ≡ true) → (q ≡ p) ⊎ (q ≡ other M p)
        equal q p (inl e) = inl (eqb-true q p e)
        equal q p (inr e) = inr (eqb-true q (other M p) e)

    pub knows_flip : {met' kept' : List ℕ}
        → Knows samples sh (wbit d') starts counts (λ j i. lowered j i || raised sh (wbit d') starts counts (8 * b) k N j i) met' kept'
        → Knows samples sh (wbit d') starts counts whole met' kept'
    knows_flip {met'} {kept'} was = knows_fewer samples sh (wbit d') starts counts met' kept' _ whole
        (λ j i hj hi e. go j i (dec_lt (before j i) (after j i))) was
      where
        go : (j i : ℕ) → Dec (before j i < after j i) → (lowered j i || raised sh (wbit d') starts counts (8 * b) k N j i) ≡ true
        go j i (yes l) = or_right (lowered j i) _ (seen_anew j i l)
        go j i (no u) = or_left (lowered j i) _ (le-leb (after j i) (before j i) (omega (arith, lt_of_not-le u)))
