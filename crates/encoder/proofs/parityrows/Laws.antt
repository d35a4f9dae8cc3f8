-- Rows that are held in words: what a step does to them, and how they are read and put. Assumes nothing.
use mathlib.Core.Path.{◌≡◌, refl, sym, ap, ap₂, ◌∙◌, fun_ext, subst}
use mathlib.Core.Bool.{Bool, true, false, ◌&&◌, and-false}
use mathlib.Core.Logic.{⊎_elim}
use mathlib.Core.List.{List, [], ◌∷◌}
use Prim.Native.Nat.{ℕ, zero, suc, ◌+◌, ◌-◌, ◌*◌, ◌/◌, ◌%◌, ◌≤◌, ◌<◌}
use native.Mathlib.Nat.{mul_comm, mod-lt, add-mul, suc-mul, mul-le-mul_left, mul-le-mul_right}
use native.Mathlib.Numerals.{add-one}
use native.Mathlib.Omega.{arith}
use lib.Arith.{digits_div, digits_mod}
use lib.Dec.{T, eqb, ltb, leb, ltb→lt, lit<}
use lib.ListN.{length, get_or, drop, take, length-take, length-drop}
use lib.Seq.{drop-cons, get_or-take, get_or-drop, length-take-le}
use borrow.Author.Tests.{lt-ltb, le-ltb, eq-eqb, ne_eqb}
use Rattle.bits.specs.Bits.{Word, digit, tally, ◌⊕◌, below, over, when◌then◌else◌}
use Rattle.bits.proofs.Sums.{⊕-false, ⊕-assoc, and_l, and_r, below_at}
use Rattle.bits.proofs.Orders.{le-or-lt, eq_or_not}
use Rattle.vectors.specs.Vectors.{wbit, Holds, up_to, from, joined, twice, added}
use Rattle.vectors.proofs.Cells.{joined_below, joined_above, split, low, high}
use Rattle.bits.proofs.Octets.{digit_zero}
use lib.Bits.{bit_xor}
use Rattle.vectors.proofs.Places.{digit_xor}
use Rattle.vectors.proofs.Filling.{word_at, word_past}
use Rattle.vectors.proofs.Spans.{up_to_below, up_to_above, twice_turned, added_before, added_after, added_inside, added_twice}
use Rattle.syndromes.specs.Rows.{rowed, within, wide}
use Rattle.syndromes.proofs.Rowwise.{rowed_inside, rowed_past, rowed_same}
use Rattle.syndromes.proofs.Trimming.{within_rowed}
use Rattle.layout.specs.declared.Shape.{Shape}
use Rattle.encoder.specs.steps.Steps.{ended, shifts, target, source, rows_in, stepped, walked}
use Rattle.encoder.specs.parityrows.Rows.{held, Kept, two_rows, Fits, copies, behind}

-- ---- the shifts of a step, one after the other

rest_ended : (M : ℕ) (l : List ℕ) (f g : ℕ → Bool) → ((s : ℕ) → s < M → f s ≡ g s) → over (ended M l) f ≡ over (ended M l) g
rest_ended M [] f g h = refl
rest_ended M (s ∷ l) f g h = go (ltb s M) refl (rest_ended M l f g h)
  where
    go : (b : Bool) → ltb s M ≡ b → over (ended M l) f ≡ over (ended M l) g
        → over (when b then s ∷ ended M l else []) f ≡ over (when b then s ∷ ended M l else []) g
    go true e ih = ap₂ (λ a b. a ⊕ b) (h s (ltb→lt s M (subst T (sym e) tt))) ih
    go false e ih = refl

-- what the shifts from place k on add
abbrev pub rest : ℕ → List ℕ → Word → ℕ → Word
rest M step d k i = over (ended M (drop k step)) (λ s. from s d i)

module _ (M : ℕ) (step : List ℕ) (d : Word) (k : ℕ) where
  pub rest_more : k < length step → get_or step k 0 < M → rest M step d k ≡ (λ i. from (get_or step k 0) d i ⊕ rest M step d (k + 1) i)
  rest_more h l = fun_ext (λ i.
      ap (λ p. over (ended M p) (λ s. from s d i)) (drop-cons step k 0 h)
      ∙ ap (λ b. over (when b then get_or step k 0 ∷ ended M (drop (suc k) step) else []) (λ s. from s d i)) (lt-ltb (get_or step k 0) M l)
      ∙ ap (λ n. from (get_or step k 0) d i ⊕ rest M step d n i) (sym (add-one k)))

  pub rest_none : k < length step → M ≤ get_or step k 0 → rest M step d k ≡ (λ i. false)
  rest_none h l = fun_ext (λ i.
      ap (λ p. over (ended M p) (λ s. from s d i)) (drop-cons step k 0 h)
      ∙ ap (λ b. over (when b then get_or step k 0 ∷ ended M (drop (suc k) step) else []) (λ s. from s d i)) (le-ltb (get_or step k 0) M l))

drop_all : (l : List ℕ) (k : ℕ) → length l ≤ k → drop k l ≡ []
drop_all [] zero h = refl
drop_all [] (suc k) h = refl
drop_all (a ∷ l) zero h = absurd (omega arith)
drop_all (a ∷ l) (suc k) h = drop_all l k (omega arith)

pub rest_past : (M : ℕ) (step : List ℕ) (d : Word) (k : ℕ) → length step ≤ k → rest M step d k ≡ (λ i. false)
rest_past M step d k h = fun_ext (λ i. ap (λ p. over (ended M p) (λ s. from s d i)) (drop_all step k h))

-- copies of a doubled row, turned
pub copies_are : (M : ℕ) (step : List ℕ) (v : Word) (i : ℕ) → i < M
    → copies M step (twice M (up_to M v)) i ≡ over (shifts M step) (λ s. v ((i + s) % M))
copies_are M step v i h =
    rest_ended M (drop 2 step) (λ s. from s (twice M (up_to M v)) i) (λ s. v ((i + s) % M)) (λ s l.
    twice_turned M s i (up_to M v) l h ∙ up_to_below M ((i + s) % M) v (mod-lt (i + s) (omega arith)))

-- ---- a row more in a row

module _ (w : ℕ) (some : 0 < w) (R t : ℕ) (here : t < R) where
  pub row_added : (f : ℕ → Word) (g : Word) → added (rowed w R f) (w * t) (w * (t + 1)) g ≡ rowed w R (λ r i. f r i ⊕ (eqb r t && g i))
  row_added f g = fun_ext (λ n. ⊎_elim (inside n) (other n) (eq_or_not (n / w) t))
    where
      x : Word
      x = rowed w R f

      h : ℕ → Word
      h r i = f r i ⊕ (eqb r t && g i)

      inside : (n : ℕ) → n / w ≡ t → added x (w * t) (w * (t + 1)) g n ≡ rowed w R h n
      inside n e =
          let l = split w some n t e in
          let place : n - w * t ≡ n % w = omega arith in
          added_inside x g (w * t) (w * (t + 1)) n (omega arith) (low w some n (t + 1) (omega arith))
          ∙ ap₂ (λ p k. p ⊕ g k) (rowed_inside w some R f n (omega arith)) place
          ∙ sym (rowed_inside w some R h n (omega arith) ∙ ap (λ b. f (n / w) (n % w) ⊕ (b && g (n % w))) (eq-eqb (n / w) t e))

      same : (n : ℕ) → (n / w ≡ t → ⊥) → x n ≡ rowed w R h n
      same n d =
          ⊎_elim
          (λ (l : R ≤ n / w). rowed_past w some R f n l ∙ sym (rowed_past w some R h n l))
          (λ (l : n / w < R). rowed_inside w some R f n l
          ∙ sym (rowed_inside w some R h n l ∙ ap (λ b. f (n / w) (n % w) ⊕ (b && g (n % w))) (ne_eqb (n / w) t d)
          ∙ ⊕-false (f (n / w) (n % w))))
          (le-or-lt R (n / w))

      other : (n : ℕ) → (n / w ≡ t → ⊥) → added x (w * t) (w * (t + 1)) g n ≡ rowed w R h n
      other n d =
          ⊎_elim
          (λ (l : t ≤ n / w). added_after x g (w * t) (w * (t + 1)) n (high w some n t l) (high w some n (t + 1) (omega (arith, d))))
          (λ (l : n / w < t). added_before x g (w * t) (w * (t + 1)) n (low w some n t l))
          (le-or-lt t (n / w))
          ∙ same n d

-- bit i of row r
pub rowed_at : (w : ℕ) → 0 < w → (R : ℕ) (f : ℕ → Word) (r i : ℕ) → r < R → i < w → rowed w R f (w * r + i) ≡ f r i
rowed_at w some R f r i hr hi =
    ap (rowed w R f) (ap (λ z. z + i) (mul_comm w r))
    ∙ rowed_inside w some R f (r * w + i) (subst (λ z. z < R) (sym (digits_div r hi)) hr)
    ∙ ap₂ f (digits_div r hi) (digits_mod r hi)

-- ---- a step

module _ (sh : Shape) (some : 0 < wide sh) (step : List ℕ) (f : ℕ → Word) (g : Word) (to : target step < sh.rows)
    (sum : (i : ℕ) → i < sh.size → g i ≡ over (shifts sh.size step) (λ s. f (source step) ((i + s) % sh.size))) where
  abbrev M : ℕ
  M = sh.size

  abbrev t : ℕ
  t = target step

  within_size : (r i : ℕ) (b : Bool) → ltb i M ≡ b → (b && f r i) ⊕ (eqb r t && (b && g i)) ≡ (b && stepped M step f r i)
  unfolding stepped
  within_size r i true e = ap (λ z. f r i ⊕ (eqb r t && z)) (sum i (ltb→lt i M (subst T (sym e) tt)))
  within_size r i false e = and-false (eqb r t)

  -- the row that is added ends at bit M
  pub step_held : added (held sh f) (wide sh * t) (wide sh * (t + 1)) (up_to M g) ≡ held sh (stepped M step f)
  step_held =
      row_added (wide sh) some sh.rows t to (λ r. up_to M (f r)) (up_to M g)
      ∙ rowed_same (wide sh) some sh.rows _ (λ r. up_to M (stepped M step f r)) (λ r i hr hi. within_size r i (ltb i M) refl)

  cut_size : (r i : ℕ) (b : Bool) → ltb i M ≡ b → (b && ((b && f r i) ⊕ (eqb r t && g i))) ≡ (b && stepped M step f r i)
  unfolding stepped
  cut_size r i true e = ap (λ z. f r i ⊕ (eqb r t && z)) (sum i (ltb→lt i M (subst T (sym e) tt)))
  cut_size r i false e = refl

  -- or the rows are cut at bit M afterwards
  pub step_cut : within (wide sh) M sh.rows (added (held sh f) (wide sh * t) (wide sh * (t + 1)) g) ≡ held sh (stepped M step f)
  step_cut =
      ap (within (wide sh) M sh.rows) (row_added (wide sh) some sh.rows t to (λ r. up_to M (f r)) g)
      ∙ within_rowed (wide sh) M sh.rows some (λ r i. up_to M (f r) i ⊕ (eqb r t && g i))
      ∙ rowed_same (wide sh) some sh.rows _ (λ r. up_to M (stepped M step f r)) (λ r i hr hi. cut_size r i (ltb i M) refl)

-- ---- loops over the shifts

-- so far the copies of the shifts before place k are summed in v
abbrev pub Summed : ℕ → List ℕ → Word → ℕ → ℕ → Type 0
Summed M step d v k = (i : ℕ) → i < 64 → digit 64 v i ⊕ rest M step d k i ≡ copies M step d i

module _ (M : ℕ) (step : List ℕ) (d : Word) (v k : ℕ) (so_far : Summed M step d v k) where
  pub summed_more : (u : ℕ) → k < length step → get_or step k 0 < M → Holds u (from (get_or step k 0) d)
      → Summed M step d (bit_xor v u) (k + 1)
  summed_more u h l e i hi =
      ap (λ z. z ⊕ rest M step d (k + 1) i) (digit_xor 64 v u i ∙ ap (λ z. digit 64 v i ⊕ z) (e i hi))
      ∙ ⊕-assoc (digit 64 v i) (from (get_or step k 0) d i) (rest M step d (k + 1) i)
      ∙ ap (λ z. digit 64 v i ⊕ z) (sym (ap (λ z. z i) (rest_more M step d k h l)))
      ∙ so_far i hi

  pub summed_all : rest M step d k ≡ (λ i. false) → Holds v (copies M step d)
  summed_all e i hi = sym (⊕-false (digit 64 v i)) ∙ sym (ap (λ z. digit 64 v i ⊕ z i) e) ∙ so_far i hi

-- so far the copies of the shifts before place k are added to x
abbrev pub Added : ℕ → List ℕ → Word → Word → ℕ → ℕ → Word → ℕ → Type 0
Added M step d x a e y k = added y a e (rest M step d k) ≡ added x a e (copies M step d)

module _ (M : ℕ) (step : List ℕ) (d x : Word) (a e : ℕ) (y : Word) (k : ℕ) (so_far : Added M step d x a e y k) where
  pub added_more : (z : Word) → k < length step → get_or step k 0 < M → z ≡ added y a e (from (get_or step k 0) d)
      → Added M step d x a e z (k + 1)
  added_more z h l is =
      ap (λ u. added u a e (rest M step d (k + 1))) is
      ∙ added_twice y a e (from (get_or step k 0) d) (rest M step d (k + 1))
      ∙ ap (added y a e) (sym (rest_more M step d k h l))
      ∙ so_far

  pub added_all : rest M step d k ≡ (λ i. false) → y ≡ added x a e (copies M step d)
  added_all none = fun_ext (λ n. sym (ap (λ b. y n ⊕ b) (and-false (leb a n && ltb n e)) ∙ ⊕-false (y n))) ∙ ap (added y a e) (sym none)
      ∙ so_far

-- ---- bounds

pub to_row : (R : ℕ) (step : List ℕ) → T (rows_in R step) → target step < R
to_row R step t = ltb→lt (target step) R (and_l (ltb (target step) R) (ltb (source step) R) t)

pub from_row : (R : ℕ) (step : List ℕ) → T (rows_in R step) → source step < R
from_row R step t = ltb→lt (source step) R (and_r (ltb (target step) R) (ltb (source step) R) t)

module _ (sh : Shape) (fit : Fits sh) where
  -- a row ends within the 16 words
  pub row_room : (r : ℕ) → r < sh.rows → r * sh.words + sh.words ≤ 16
  row_room r h = omega (arith, suc-mul r sh.words, mul-le-mul_right {m = suc r} {n = sh.rows} sh.words h, fit.room)

  -- a row within the tail
  pub tail_room : (a : ℕ) → a < sh.rows → a * sh.size + sh.size ≤ 1022
  tail_room a h = omega (arith, suc-mul a sh.size, mul-le-mul_right {m = suc a} {n = sh.rows} sh.size h, fit.parity)

  -- there is a word in a row, so there are few of them
  pub rows_few : sh.rows ≤ 16
  rows_few =
      let some : 1 ≤ sh.words = omega (arith, fit.some, fit.held_in) in
      omega (arith, mul-le-mul_left {m = 1} {n = sh.words} sh.rows some, fit.room)

  pub wide_some : 0 < wide sh
  wide_some = omega (arith, fit.some, fit.held_in)

-- ---- reading a row

pub held_at : (sh : Shape) → 0 < wide sh → (f : ℕ → Word) (x : Word) → x ≡ held sh f → (r i : ℕ) → r < sh.rows → i < wide sh
    → x (wide sh * r + i) ≡ up_to sh.size (f r) i
held_at sh some f x e r i hr hi = ap (λ z. z (wide sh * r + i)) e
    ∙ rowed_at (wide sh) some sh.rows (λ r. up_to sh.size (f r)) r i hr hi

cut_twice : (M i : ℕ) (x : Word) → up_to M (up_to M x) i ≡ up_to M x i
cut_twice M i x = go (ltb i M)
  where
    go : (b : Bool) → (b && (b && x i)) ≡ (b && x i)
    go true = refl
    go false = refl

pub held_kept : (sh : Shape) → 0 < wide sh → (f : ℕ → Word) (x : Word) → x ≡ held sh f → Kept sh x
held_kept sh some f x e =
    e ∙ rowed_same (wide sh) some sh.rows _ (λ r. up_to sh.size (λ i. x (wide sh * r + i))) (λ r i hr hi.
    sym (ap (λ z. ltb i sh.size && z) (held_at sh some f x e r i hr hi) ∙ cut_twice sh.size i (f r)))

-- the words of a slice
slice_at : (z : List ℕ) (a n m : ℕ) → m < 64 * n → wbit (take n (drop a z)) m ≡ wbit z (64 * a + m)
slice_at z a n m h =
    word_at (take n (drop a z)) m (m / 64) (m % 64) (omega arith) (omega arith)
    ∙ ap (λ w. digit 64 w (m % 64)) (get_or-take n (drop a z) (m / 64) 0 (omega arith) ∙ get_or-drop a z (m / 64) 0)
    ∙ sym (word_at z (64 * a + m) (a + m / 64) (m % 64) (omega arith) (omega arith))

slice_past : (z : List ℕ) (a n m : ℕ) → 64 * n ≤ m → wbit (take n (drop a z)) m ≡ false
slice_past z a n m h = word_past (take n (drop a z)) m (omega (arith, length-take n (drop a z)))

-- a row, as the words that hold it
pub row_slice : (sh : Shape) → 0 < wide sh → sh.size ≤ wide sh → (f : ℕ → Word) (z : List ℕ) → wbit z ≡ held sh f → (r n : ℕ)
    → r < sh.rows → n ≡ sh.words
    → wbit (take n (drop (r * sh.words) z)) ≡ up_to sh.size (f r)
row_slice sh some size f z e r n hr en = fun_ext (λ m. ⊎_elim (past m) (inside m) (le-or-lt (64 * n) m))
  where
    past : (m : ℕ) → 64 * n ≤ m → wbit (take n (drop (r * sh.words) z)) m ≡ up_to sh.size (f r) m
    past m h = slice_past z (r * sh.words) n m h ∙ sym (up_to_above sh.size m (f r) (omega arith))

    inside : (m : ℕ) → m < 64 * n → wbit (take n (drop (r * sh.words) z)) m ≡ up_to sh.size (f r) m
    inside m h =
        let same : 64 * (r * sh.words) + m ≡ wide sh * r + m = omega arith in
        slice_at z (r * sh.words) n m h ∙ ap (wbit z) same ∙ held_at sh some f (wbit z) e r m hr (omega arith)

-- ---- adding piece by piece

pub added_start : (x : Word) (a e : ℕ) (g : Word) → e ≤ a → x ≡ added x a e g
added_start x a e g h = fun_ext (λ n. ⊎_elim (λ (l : a ≤ n). sym (added_after x g a e n l (omega arith)))
    (λ (l : n < a). sym (added_before x g a e n l)) (le-or-lt a n))

pub added_append : (x : Word) (a b e : ℕ) (g h : Word) → a ≤ b → b ≤ e → ((n : ℕ) → b ≤ n → n < e → h (n - b) ≡ g (n - a))
    → added (added x a b g) b e h ≡ added x a e g
added_append x a b e g h ab be same = fun_ext (λ n. ⊎_elim (behind n) (front n) (le-or-lt b n))
  where
    y : Word
    y = added x a b g

    front : (n : ℕ) → n < b → added y b e h n ≡ added x a e g n
    front n l =
        added_before y h b e n l
        ∙ ⊎_elim
        (λ (k : a ≤ n). added_inside x g a b n k l ∙ sym (added_inside x g a e n k (omega arith)))
        (λ (k : n < a). added_before x g a b n k ∙ sym (added_before x g a e n k))
        (le-or-lt a n)

    behind : (n : ℕ) → b ≤ n → added y b e h n ≡ added x a e g n
    behind n l =
        ⊎_elim
        (λ (k : e ≤ n). added_after y h b e n l k ∙ added_after x g a b n (omega arith) l ∙ sym (added_after x g a e n (omega arith) k))
        (λ (k : n < e).
        added_inside y h b e n l k ∙ ap₂ (λ p q. p ⊕ q) (added_after x g a b n (omega arith) l) (same n l k)
        ∙ sym (added_inside x g a e n (omega arith) k))
        (le-or-lt e n)

-- a row ends at bit M of those that are added
pub added_size : (x : Word) (p M w : ℕ) (g : Word) → M ≤ w → added x p (p + w) (up_to M g) ≡ added x p (p + M) g
added_size x p M w g h = fun_ext (λ n. ⊎_elim (behind n) (λ (l : n < p). added_before x (up_to M g) p (p + w) n l
    ∙ sym (added_before x g p (p + M) n l)) (le-or-lt p n))
  where
    behind : (n : ℕ) → p ≤ n → added x p (p + w) (up_to M g) n ≡ added x p (p + M) g n
    behind n l =
        ⊎_elim
        (λ (k : p + M ≤ n).
        ⊎_elim (λ (j : p + w ≤ n). added_after x (up_to M g) p (p + w) n l j)
        (λ (j : n < p + w). added_inside x (up_to M g) p (p + w) n l j ∙ ap (λ b. x n ⊕ b) (up_to_above M (n - p) g (omega arith))
        ∙ ⊕-false (x n)) (le-or-lt (p + w) n)
        ∙ sym (added_after x g p (p + M) n l k))
        (λ (k : n < p + M).
        added_inside x (up_to M g) p (p + w) n l (omega arith) ∙ ap (λ b. x n ⊕ b) (up_to_below M (n - p) g (omega arith))
        ∙ sym (added_inside x g p (p + M) n l k))
        (le-or-lt (p + M) n)

pub added_same : (x : Word) (a e : ℕ) (g h : Word) → ((i : ℕ) → a + i < e → g i ≡ h i) → added x a e g ≡ added x a e h
added_same x a e g h same = fun_ext (λ n. ⊎_elim (behind n) (λ (l : n < a). added_before x g a e n l ∙ sym (added_before x h a e n l))
    (le-or-lt a n))
  where
    behind : (n : ℕ) → a ≤ n → added x a e g n ≡ added x a e h n
    behind n l =
        ⊎_elim
        (λ (k : e ≤ n). added_after x g a e n l k ∙ sym (added_after x h a e n l k))
        (λ (k : n < e). added_inside x g a e n l k ∙ ap (λ b. x n ⊕ b) (same (n - a) (omega arith)) ∙ sym (added_inside x h a e n l k))
        (le-or-lt e n)

-- ---- putting a word from any bit on

-- 64 bits that stand from bit 64 on, zeros before and behind them
module _ (y u : Word) (p : ℕ) (before : (n : ℕ) → n < 64 → u n ≡ false) (after : (n : ℕ) → 128 ≤ n → u n ≡ false) where
  pub put_added : added y (64 * (p / 64)) (64 * (p / 64 + 2)) (from (64 - p % 64) u) ≡ added y p (p + 64) (from 64 u)
  put_added = fun_ext (λ n. ⊎_elim (behind n) (front n) (le-or-lt p n))
    where
      a : ℕ
      a = 64 * (p / 64)

      e : ℕ
      e = 64 * (p / 64 + 2)

      front : (n : ℕ) → n < p → added y a e (from (64 - p % 64) u) n ≡ added y p (p + 64) (from 64 u) n
      front n h =
          ⊎_elim
          (λ (l : a ≤ n). added_inside y (from (64 - p % 64) u) a e n l (omega arith)
          ∙ ap (λ b. y n ⊕ b) (before (64 - p % 64 + (n - a)) (omega arith)) ∙ ⊕-false (y n))
          (λ (l : n < a). added_before y (from (64 - p % 64) u) a e n l)
          (le-or-lt a n)
          ∙ sym (added_before y (from 64 u) p (p + 64) n h)

      behind : (n : ℕ) → p ≤ n → added y a e (from (64 - p % 64) u) n ≡ added y p (p + 64) (from 64 u) n
      behind n h = ⊎_elim past inside (le-or-lt (p + 64) n)
        where
          inside : n < p + 64 → added y a e (from (64 - p % 64) u) n ≡ added y p (p + 64) (from 64 u) n
          inside l =
              let same : 64 - p % 64 + (n - a) ≡ 64 + (n - p) = omega arith in
              added_inside y (from (64 - p % 64) u) a e n (omega arith) (omega arith) ∙ ap (λ i. y n ⊕ u i) same
              ∙ sym (added_inside y (from 64 u) p (p + 64) n h l)

          past : p + 64 ≤ n → added y a e (from (64 - p % 64) u) n ≡ added y p (p + 64) (from 64 u) n
          past l =
              ⊎_elim
              (λ (g : e ≤ n). added_after y (from (64 - p % 64) u) a e n (omega arith) g)
              (λ (g : n < e). added_inside y (from (64 - p % 64) u) a e n (omega arith) g
              ∙ ap (λ b. y n ⊕ b) (after (64 - p % 64 + (n - a)) (omega arith)) ∙ ⊕-false (y n))
              (le-or-lt e n)
              ∙ sym (added_after y (from 64 u) p (p + 64) n h l)

-- the array that a word is put from
module _ (v : ℕ) where
  abbrev pub between : List ℕ
  between = 0 ∷ v ∷ 0 ∷ 0 ∷ []

  pub between_before : (n : ℕ) → n < 64 → wbit between n ≡ false
  between_before n h = word_at between n 0 n h (omega arith) ∙ digit_zero 64 n

  pub between_here : (i : ℕ) → i < 64 → wbit between (64 + i) ≡ digit 64 v i
  between_here i h = word_at between (64 + i) 1 i h (omega arith)

  pub between_after : (n : ℕ) → 128 ≤ n → wbit between n ≡ false
  between_after n h = word_at between n (n / 64) (n % 64) (omega arith) (omega arith)
      ∙ ap (λ z. digit 64 z (n % 64)) (zeros (n / 64) (omega arith)) ∙ digit_zero 64 (n % 64)
    where
      zeros : (q : ℕ) → 2 ≤ q → ◌≡◌ {A = ℕ} (get_or between q 0) 0
      zeros zero l = absurd (omega arith)
      zeros (suc zero) l = absurd (omega arith)
      zeros (suc (suc zero)) l = refl
      zeros (suc (suc (suc zero))) l = refl
      zeros (suc (suc (suc (suc q)))) l = refl

-- ---- the rows one after the other, behind the first bits

module _ (sh : Shape) (some : 1 ≤ sh.size) (first : ℕ) (f : ℕ → Word) (at : ℕ) (x : Word) where
  abbrev rows : Word
  rows n = behind sh first f (n - at)

  abbrev whole : Word
  whole = joined at x rows

  pub rows_start : up_to at x ≡ up_to (at + 0 * sh.size) whole
  rows_start = fun_ext (λ n. ⊎_elim
      (λ (h : at ≤ n). up_to_above at n x h ∙ sym (up_to_above (at + 0 * sh.size) n whole (omega arith)))
      (λ (h : n < at).
      up_to_below at n x h
      ∙ sym (up_to_below (at + 0 * sh.size) n whole (omega arith) ∙ joined_below at n x rows h))
      (le-or-lt at n))

  pub rows_more : (a : ℕ) → added (up_to (at + a * sh.size) whole) (at + a * sh.size) (at + a * sh.size + sh.size)
      (f ((a + first) % sh.rows)) ≡ up_to (at + (a + 1) * sh.size) whole
  unfolding behind
  rows_more a = fun_ext (λ n. ⊎_elim (from_start n) (front n) (le-or-lt start n))
    where
      M : ℕ
      M = sh.size

      start : ℕ
      start = at + a * M

      end : ℕ
      end = at + (a + 1) * M

      y : Word
      y = up_to start whole

      row : Word
      row = f ((a + first) % sh.rows)

      next : start + M ≡ end
      next = omega (arith, add-mul a 1 M)

      front : (n : ℕ) → n < start → added y start (start + M) row n ≡ up_to end whole n
      front n h = added_before y row start (start + M) n h ∙ up_to_below start n whole h
          ∙ sym (up_to_below end n whole (omega (arith, next)))

      here : (n : ℕ) → start ≤ n → n < start + M → row (n - start) ≡ whole n
      here n h l =
          let place : n - at ≡ a * M + (n - start) = omega arith in
          let inside : n - start < M = omega arith in
          sym (joined_above at n x rows (omega arith)
          ∙ ap₂ (λ q i. f ((q + first) % sh.rows) i) (ap (λ z. z / M) place ∙ digits_div a inside)
          (ap (λ z. z % M) place ∙ digits_mod a inside))

      from_start : (n : ℕ) → start ≤ n → added y start (start + M) row n ≡ up_to end whole n
      from_start n h =
          ⊎_elim
          (λ (l : start + M ≤ n). added_after y row start (start + M) n h l ∙ up_to_above start n whole h
          ∙ sym (up_to_above end n whole (omega (arith, next))))
          (λ (l : n < start + M).
          added_inside y row start (start + M) n h l ∙ ap₂ (λ p q. p ⊕ q) (up_to_above start n whole h) (here n h l)
          ∙ sym (up_to_below end n whole (omega (arith, next))))
          (le-or-lt (start + M) n)

-- ---- rows inverted

ones_all : T (below 64 (λ i. digit 64 0xFFFFFFFFFFFFFFFF i))
ones_all = tt

pub ones_hold : Holds 0xFFFFFFFFFFFFFFFF (λ i. true)
ones_hold i h = go (digit 64 0xFFFFFFFFFFFFFFFF i) (below_at 64 (λ i. digit 64 0xFFFFFFFFFFFFFFFF i) ones_all i h)
  where
    go : (b : Bool) → T b → b ≡ true
    go true t = refl
    go false t = absurd t

pub if_one : (b : Bool) (odd : ℕ) → odd ≡ tally b → odd ≡ 1 → Holds 0xFFFFFFFFFFFFFFFF (λ i. b)
if_one true odd e o = ones_hold
if_one false odd e o = absurd (omega arith)

pub if_none : (b : Bool) (odd : ℕ) → odd ≡ tally b → (odd ≡ 1 → ⊥) → Holds 0 (λ i. b)
if_none true odd e o = absurd (o e)
if_none false odd e o = λ i h. digit_zero 64 i

module _ (f : ℕ → Word) (q : ℕ → Bool) where
  both_rows : (r i : ℕ) → r < 2 → (b : Bool) → (b && f r i) ⊕ (eqb r 0 && (b && q 0)) ⊕ (eqb r 1 && (b && q 1)) ≡ (b && (f r i ⊕ q r))
  both_rows zero i h true = ⊕-false (f 0 i ⊕ q 0)
  both_rows (suc zero) i h true = ap (λ z. z ⊕ q 1) (⊕-false (f 1 i))
  both_rows (suc (suc r)) i h true = absurd (omega arith)
  both_rows zero i h false = refl
  both_rows (suc zero) i h false = refl
  both_rows (suc (suc r)) i h false = absurd (omega arith)

  pub two_inverted : added (added (two_rows f) (512 * 0) (512 * (0 + 1)) (up_to 511 (λ i. q 0))) (512 * 1) (512 * (1 + 1))
      (up_to 511 (λ i. q 1)) ≡ two_rows (λ r i. f r i ⊕ q r)
  two_inverted =
      ap (λ z. added z (512 * 1) (512 * (1 + 1)) (up_to 511 (λ i. q 1)))
      (row_added 512 (lit< tt) 2 0 (lit< tt) (λ r. up_to 511 (f r)) (up_to 511 (λ i. q 0)))
      ∙ row_added 512 (lit< tt) 2 1 (lit< tt) (λ r i. up_to 511 (f r) i ⊕ (eqb r 0 && up_to 511 (λ i. q 0) i)) (up_to 511 (λ i. q 1))
      ∙ rowed_same 512 (lit< tt) 2 _ (λ r. up_to 511 (λ i. f r i ⊕ q r)) (λ r i hr hi. both_rows r i hr (ltb i 511))

pub slice_long : (z : List ℕ) (a n : ℕ) → a + n ≤ length z → length (take n (drop a z)) ≡ n
slice_long z a n h = length-take-le n (drop a z) (omega (arith, length-drop a z))

-- ---- steps one after the other

pub walked_none : (M : ℕ) (steps : List (List ℕ)) (f : ℕ → Word) → f ≡ walked M steps 0 f
unfolding walked
walked_none M steps f = refl

pub walked_more : (M : ℕ) (steps : List (List ℕ)) (k : ℕ) (f : ℕ → Word)
    → stepped M (get_or steps k []) (walked M steps k f) ≡ walked M steps (k + 1) f
unfolding walked
walked_more M steps k f = ap (λ n. walked M steps n f) (sym (add-one k))

-- the shifts of a step as a part of its places
pub shift_at : (step : List ℕ) (k : ℕ) → length step ≡ 10 → k < 8
    → get_or (take (length step - 2) (drop 2 step)) k 0 ≡ get_or step (k + 2) 0
shift_at step k long h =
    get_or-take (length step - 2) (drop 2 step) k 0 (omega arith) ∙ get_or-drop 2 step k 0
    ∙ ap (λ n. get_or step n 0) (omega arith)

pub shift_few : (step : List ℕ) → length step ≡ 10 → length (take (length step - 2) (drop 2 step)) ≡ 8
shift_few step long = length-take (length step - 2) (drop 2 step) ∙ omega (arith, length-drop 2 step)
