-- The checks of a wide row by its doubled blocks, group after group. Assumes nothing.
use mathlib.Core.Path.{◌≡◌, sym, ap, ◌∙◌, subst}
use mathlib.Core.Bool.{Bool, false}
use mathlib.Core.Logic.{⊎_elim}
use mathlib.Core.List.{List, ◌++◌}
use Prim.Native.Nat.{ℕ, suc, ◌+◌, ◌-◌, ◌*◌, ◌/◌, ◌%◌, ◌≤◌, ◌<◌}
use native.Mathlib.Decide.{dec_lt}
use native.Mathlib.Nat.{lt_of_not-le}
use native.Mathlib.Omega.{arith}
use lib.Arith.{digits_lt}
use lib.ListN.{length, get_or, take, drop, set, get_or-append, length-take, length-drop}
use lib.Seq.{take-length, get_or-take, get_or-drop, get_or-append-add, get_or-set_same, get_or-set_other}
use borrow.Rule.Slice.PartMut.{put_mid, post_of}
use Rattle.bits.specs.Bits.{Word, digit, sum, least, ◌⊕◌}
use Rattle.bits.proofs.Orders.{le-or-lt}
use Rattle.bits.proofs.Octets.{digit_zero}
use Rattle.bits.proofs.Sums.{sum_same}
use Rattle.bits.proofs.Leasts.{least_found, least_none, least_le, least_below, least_holds}
use Rattle.rules.specs.Codes.{Code, checks}
use Rattle.rules.specs.Checks.{check, lowest}
use Rattle.layout.specs.declared.Shape.{Shape}
use Rattle.layout.specs.Lent.{Fit, Lent}
use Rattle.layout.proofs.Lending.{read_any}
use Rattle.syndromes.proofs.Bounds.{place_room}
use Rattle.vectors.specs.Vectors.{wbit, up_to, from, twice, Holds}
use Rattle.vectors.proofs.Filling.{word_at}
use Rattle.vectors.proofs.Firsts.{First}
use Rattle.quick.specs.groups.Groups.{reached, placed, Twofold, Full, Begun, behind}
use Rattle.quick.proofs.groups.Groups.{reached_twice, group_check}

-- ---- words of a list, and of a part that was put into it

part_bits : (g : ℕ) (d : List ℕ) (n : ℕ) → wbit (take (length d - g) (drop g d)) n ≡ wbit d (64 * g + n)
part_bits g d n =
    ap (λ l. wbit l n) (ap (λ z. take z (drop g d)) (sym (length-drop g d)) ∙ take-length (drop g d))
    ∙ word_at (drop g d) n (n / 64) (n % 64) (omega arith) (omega arith)
    ∙ ap (λ v. digit 64 v (n % 64)) (get_or-drop g d (n / 64) 0)
    ∙ sym (word_at d (64 * g + n) (g + n / 64) (n % 64) (omega arith) (omega arith))

module _ (a k : ℕ) (xs ys : List ℕ) (inside : a ≤ length xs) where
  long : length (take a xs) ≡ a
  long = omega (arith, length-take a xs)

  put_before : (j : ℕ) → j < a → get_or (put_mid a k xs ys) j 0 ≡ get_or xs j 0
  put_before j l = get_or-append (take a xs) (ys ++ post_of a k xs) 0 j (omega (arith, long)) ∙ get_or-take a xs j 0 l

  put_inside : (j : ℕ) → j < length ys → get_or (put_mid a k xs ys) (a + j) 0 ≡ get_or ys j 0
  put_inside j l =
      ap (λ z. get_or (put_mid a k xs ys) (z + j) 0) (sym long)
      ∙ get_or-append-add (take a xs) (ys ++ post_of a k xs) j 0
      ∙ get_or-append ys (post_of a k xs) 0 j l

  pub put_bits_before : (n : ℕ) → n < 64 * a → wbit (put_mid a k xs ys) n ≡ wbit xs n
  put_bits_before n l =
      word_at (put_mid a k xs ys) n (n / 64) (n % 64) (omega arith) (omega arith)
      ∙ ap (λ v. digit 64 v (n % 64)) (put_before (n / 64) (omega arith))
      ∙ sym (word_at xs n (n / 64) (n % 64) (omega arith) (omega arith))

  pub put_bits_inside : (n : ℕ) → n < 64 * length ys → wbit (put_mid a k xs ys) (64 * a + n) ≡ wbit ys n
  put_bits_inside n l =
      word_at (put_mid a k xs ys) (64 * a + n) (a + n / 64) (n % 64) (omega arith) (omega arith)
      ∙ ap (λ v. digit 64 v (n % 64)) (put_inside (n / 64) (omega arith))
      ∙ sym (word_at ys n (n / 64) (n % 64) (omega arith) (omega arith))

-- one block more, where the first b stand twice over
pub one_doubled : (m : ℕ) (x : Word) (b : ℕ) (d new : List ℕ) → length d ≡ 256 → length new ≡ 16 → b < 16 → Twofold b m x d
    → wbit new ≡ twice m (up_to m (from (b * m) x)) → Twofold (b + 1) m x (put_mid (16 * b) 16 d new)
one_doubled m x b d new ld ln hb before here b' i l hi =
    ⊎_elim
    (λ (g : b ≤ b').
    let e : b' ≡ b = omega arith in
    let f : 1024 * b' + i ≡ 64 * (16 * b) + i = omega arith in
    ap (wbit (put_mid (16 * b) 16 d new)) f
    ∙ put_bits_inside (16 * b) 16 d new (omega arith) i (omega arith)
    ∙ ap (λ (w : Word). w i) here
    ∙ ap (λ z. twice m (up_to m (from (z * m) x)) i) (sym e))
    (λ (g : b' < b). put_bits_before (16 * b) 16 d new (omega arith) (1024 * b' + i) (omega arith) ∙ before b' i g hi)
    (le-or-lt b b')

-- ---- the beginnings of a row

pub place_there : {h : List ℕ} {sh : Shape} → Fit h sh → (r k : ℕ) → r < sh.rows → k < 2 * sh.blocks
    → (2 * (r * sh.blocks) + k < length h) × (length h ≤ 128)
place_there {h} {sh} fit r k hr l =
    let inside = place_room h sh fit r (k / 2) hr (omega arith) in
    (omega (arith, inside.0), inside.1)

pub one_begun : (sh : Shape) (h : List ℕ) (r : ℕ) (begins : List ℕ) (k : ℕ) → k < length begins → Begun k sh h r begins
    → Begun (k + 1) sh h r (set begins k (1024 * (k / 2) + get_or h (2 * (r * sh.blocks) + k) 0))
one_begun sh h r begins k l before j g =
    ⊎_elim
    (λ (m : k ≤ j).
    let e : j ≡ k = omega arith in
    ap (λ z. get_or (set begins k v) z 0) e
    ∙ get_or-set_same begins k v 0 l
    ∙ ap (λ z. 1024 * (z / 2) + get_or h (2 * (r * sh.blocks) + z) 0) (sym e))
    (λ (m : j < k). get_or-set_other begins k j v 0 (λ e. omega (arith, m, e)) ∙ before j m)
    (le-or-lt k j)
  where
    v : ℕ
    v = 1024 * (k / 2) + get_or h (2 * (r * sh.blocks) + k) 0

module _ (d begins : List ℕ) where
  pub behind_none : (i : ℕ) → digit 64 0 i ≡ sum 0 (λ j. wbit d (get_or begins j 0 + i))
  unfolding sum
  behind_none i = digit_zero 64 i

  pub behind_more : (k i : ℕ)
      → sum k (λ j. wbit d (get_or begins j 0 + i)) ⊕ wbit d (get_or begins k 0 + i) ≡ sum (k + 1) (λ j. wbit d (get_or begins j 0 + i))
  unfolding sum
  behind_more k i =
      let e : suc k ≡ k + 1 = omega arith in
      ap (λ n. sum n (λ j. wbit d (get_or begins j 0 + i))) e

module _ (sh : Shape) (h : List ℕ) (r : ℕ) (fit : Fit h sh) (full : Full h sh) (hr : r < sh.rows) where
  -- each place of the row holds a shift
  pub shift_there : (k : ℕ) → k < 2 * sh.blocks
      → (2 * (r * sh.blocks) + k < length h) × (get_or h (2 * (r * sh.blocks) + k) 0 < sh.size)
  shift_there k l =
      let there = (place_there fit r k hr l).0 in
      (there, full (2 * (r * sh.blocks) + k) there)

  -- the bits i behind them are check i of the row
  pub behind_check : (c : Code) (x : Word) (d begins : List ℕ) → Lent c h sh → Twofold sh.blocks sh.size x d
      → Begun (2 * sh.blocks) sh h r begins → length begins ≡ 2 * sh.blocks
      → (i : ℕ) → i < sh.size → behind begins (wbit d) i ≡ check c x (r * sh.size + i)
  behind_check c x d begins lent two begun long i hi =
      ap (λ n. sum n (λ k. wbit d (get_or begins k 0 + i))) long
      ∙ sum_same (2 * sh.blocks) (λ k. wbit d (get_or begins k 0 + i)) (λ k. placed sh h x r k i) each
      ∙ group_check sh h x r c lent hr i hi
    where
      each : (k : ℕ) → k < 2 * sh.blocks → wbit d (get_or begins k 0 + i) ≡ placed sh h x r k i
      each k l =
          let s = get_or h (2 * (r * sh.blocks) + k) 0 in
          let t = shift_there k l in
          let e : 1024 * (k / 2) + s + i ≡ 1024 * (k / 2) + (s + i) = omega arith in
          ap (λ z. wbit d (z + i)) (begun k l)
          ∙ ap (wbit d) e
          ∙ two (k / 2) (s + i) (omega arith) (omega (arith, t.1, fit.held, fit.words))
          ∙ reached_twice sh.size x (k / 2 * sh.size) s i t.1 hi
          ∙ ap (λ z. reached sh.size x (k / 2 * sh.size) z i) (read_any h (2 * (r * sh.blocks) + k) 0 sh.size t.0)

-- ---- group after group

module _ (d begins : List ℕ) (m g v : ℕ) (has : Holds v (behind begins (wbit (take (length d - g) (drop g d)))))
    (met : (i : ℕ) → i < 64 * g → behind begins (wbit d) i ≡ false) where
  -- the bits of group g
  at : (i : ℕ) → i < 64 → digit 64 v i ≡ behind begins (wbit d) (64 * g + i)
  at i l =
      has i l
      ∙ sum_same (length begins) (λ k. wbit (take (length d - g) (drop g d)) (get_or begins k 0 + i))
      (λ k. wbit d (get_or begins k 0 + (64 * g + i)))
      (λ k _.
      let e : 64 * g + (get_or begins k 0 + i) ≡ get_or begins k 0 + (64 * g + i) = omega arith in
      part_bits g d (get_or begins k 0 + i) ∙ ap (wbit d) e)

  clear_to : (l : ℕ) → l ≤ 64 → ((q : ℕ) → q < l → digit 64 v q ≡ false)
      → (i : ℕ) → i < 64 * g + l → behind begins (wbit d) i ≡ false
  clear_to l hl clear i h =
      ⊎_elim
      (λ (k : 64 * g ≤ i).
      let e : i ≡ 64 * g + (i - 64 * g) = omega arith in
      ap (behind begins (wbit d)) e ∙ sym (at (i - 64 * g) (omega arith)) ∙ clear (i - 64 * g) (omega arith))
      (λ (k : i < 64 * g). met i k)
      (le-or-lt (64 * g) i)

  pub group_passed : v ≡ 0 → (i : ℕ) → i < 64 * (g + 1) → behind begins (wbit d) i ≡ false
  group_passed none i h = clear_to 64 (omega arith) (λ q l. ap (λ z. digit 64 z q) none ∙ digit_zero 64 q) i (omega arith)

  module _ (l : ℕ) (first : First 64 v l) where
    pub first_there : 64 * g + l < m → 64 * g + l ≡ least m (behind begins (wbit d))
    first_there h =
        sym (least_found m (behind begins (wbit d)) (64 * g + l) h (sym (at l first.inside) ∙ first.here)
        (clear_to l (omega (arith, first.inside)) first.clear))

    pub first_past : m ≤ 64 * g + l → m ≡ least m (behind begins (wbit d))
    first_past h =
        sym (least_none m (behind begins (wbit d)) (λ i k. clear_to l (omega (arith, first.inside)) first.clear i (omega arith)))

-- ---- the lowest of a row, and of all

pub least_same : (n : ℕ) (f g : ℕ → Bool) → ((i : ℕ) → i < n → f i ≡ g i) → least n f ≡ least n g
least_same n f g same = go (dec_lt (least n g) n)
  where
    go : Dec (least n g < n) → least n f ≡ least n g
    go (yes l) = least_found n f (least n g) l (same (least n g) l ∙ least_holds n g l)
        (λ k q. same k (omega arith) ∙ least_below n g k q)
    go (no q) =
        let e : least n g ≡ n = omega (arith, least_le n g, lt_of_not-le q) in
        least_none n f (λ k l. same k l ∙ least_below n g k (omega (arith, e))) ∙ sym e

module _ (c : Code) (h : List ℕ) (sh : Shape) (x : Word) (lent : Lent c h sh) (r l : ℕ) (hr : r < sh.rows)
    (is : l ≡ least sh.size (from (r * sh.size) (check c x)))
    (met : (j : ℕ) → j < r * sh.size → check c x j ≡ false) where
  abbrev f : ℕ → Bool
  f = from (r * sh.size) (check c x)

  clear : (j : ℕ) → j < r * sh.size + l → check c x j ≡ false
  clear j g =
      ⊎_elim
      (λ (k : r * sh.size ≤ j).
      let d : j ≡ r * sh.size + (j - r * sh.size) = omega arith in
      ap (check c x) d ∙ least_below sh.size f (j - r * sh.size) (subst (λ z. j - r * sh.size < z) is (omega (arith, g, k))))
      (λ (k : j < r * sh.size). met j k)
      (le-or-lt (r * sh.size) j)

  pub row-found : l < sh.size → r * sh.size + l ≡ lowest c x
  unfolding lowest
  row-found g =
      sym (least_found (checks c) (check c x) (r * sh.size + l)
      (subst (λ k. r * sh.size + l < k) (sym lent.checks_are) (digits_lt hr g))
      (ap f is ∙ least_holds sh.size f (subst (λ z. z < sh.size) is g))
      clear)

  pub row_passed : sh.size ≤ l → (j : ℕ) → j < (r + 1) * sh.size → check c x j ≡ false
  row_passed g j k =
      let n : (r + 1) * sh.size ≡ r * sh.size + sh.size = omega arith in
      clear j (omega (arith, n, g, k))

pub fit_size : {h : List ℕ} {sh : Shape} → Fit h sh → sh.size ≤ 512
fit_size fit = omega (arith, fit.held, fit.words)
