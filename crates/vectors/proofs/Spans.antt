-- What shifts and sums of words of 64 bits hold. Assumes nothing.
use mathlib.Core.Path.{◌≡◌, refl, sym, ap, ap₂, ◌∙◌, fun_ext}
use mathlib.Core.Bool.{Bool, false, not, ◌&&◌, ◌||◌}
use mathlib.Core.Logic.{⊎_elim}
use mathlib.Core.List.{List, [], ◌∷◌}
use Prim.Native.Nat.{ℕ, suc, ◌+◌, ◌-◌, ◌*◌, ◌/◌, ◌%◌, ◌^◌, ◌≤◌, ◌<◌}
use native.Mathlib.Nat.{mod-lt, mod-eq_of_lt, mod-eq-sub-mod, one-mul, add_comm}
use native.Mathlib.Omega.{arith}
use lib.Dec.{ltb, leb, eqb}
use lib.Pow.{pow_pos, shr-shr}
use lib.Bits.{bit_xor, bit_or}
use lib.ListN.{get_or, length, set}
use borrow.Author.Tests.{lt-ltb, le-ltb, le-leb, lt-leb, ne_eqb}
use Rattle.bits.specs.Bits.{Word, digit, flipped, ◌⊕◌}
use Rattle.bits.proofs.Sums.{⊕-assoc, and-⊕, eqb_iff}
use Rattle.vectors.specs.Vectors.{wbit, Holds, up_to, from, later, joined, twice, added}
use Rattle.bits.proofs.Orders.{le-or-lt}
use Rattle.vectors.proofs.Places.{or-none, xor_none, xor_same, digit_xor, digit_power, place, place_or, place_xor}
use Rattle.vectors.proofs.Places.{place_up, place_down, place_below, place_above, place_cut, place_zero}
use Rattle.vectors.proofs.Cells.{joined_below, joined_above, joined_start, joined_end}
use Rattle.vectors.proofs.Filling.{word_at, word_holds, word_past, word_stored}

-- ---- tests of bits

module _ (m n : ℕ) (x : Word) where
  pub up_to_below : n < m → up_to m x n ≡ x n
  up_to_below h = ap (λ (b : Bool). b && x n) (lt-ltb n m h)

  pub up_to_above : m ≤ n → up_to m x n ≡ false
  up_to_above h = ap (λ (b : Bool). b && x n) (le-ltb n m h)

  pub later_front : n < m → later m x n ≡ false
  later_front h = ap (λ (b : Bool). not b && x (n - m)) (lt-ltb n m h)

  pub later_back : m ≤ n → later m x n ≡ x (n - m)
  later_back h = ap (λ (b : Bool). not b && x (n - m)) (le-ltb n m h)

-- what is cut off at bit m is as good as cut off there again
pub up_to_again : (m : ℕ) (x y : Word) → y ≡ up_to m x → y ≡ up_to m y
up_to_again m x y e = fun_ext (λ n. ⊎_elim (above n) (λ h. sym (up_to_below m n y h)) (le-or-lt m n))
  where
    above : (n : ℕ) → m ≤ n → y n ≡ up_to m y n
    above n h = ap (λ (z : Word). z n) e ∙ up_to_above m n x h ∙ sym (up_to_above m n y h)

-- ---- words bit by bit

module _ (u v : ℕ) (x y : Word) (hu : Holds u x) (hv : Holds v y) where
  pub xor_holds : Holds (bit_xor u v) (λ i. x i ⊕ y i)
  xor_holds i hi = digit_xor 64 u v i ∙ ap₂ ◌⊕◌ (hu i hi) (hv i hi)

-- ---- two words from bit t on

module _ (a b t : ℕ) (ht : t < 64) (hb : b < 2 ^ 64) where
  pub funnel_none : t ≡ 0 → Holds a (from t (wbit (a ∷ b ∷ [])))
  funnel_none e i hi = sym (word_at (a ∷ b ∷ []) (t + i) 0 i hi (omega arith))

  pub funnel_holds : Holds (bit_or ((a * 2 ^ t) % 2 ^ 64) (b / 2 ^ (64 - t))) (from t (wbit (a ∷ b ∷ [])))
  funnel_holds i hi = place_or ((a * 2 ^ t) % 2 ^ 64) (b / 2 ^ (64 - t)) j ∙ ⊎_elim second first (le-or-lt 64 (t + i))
    where
      j : ℕ
      j = 64 - suc i

      front : place ((a * 2 ^ t) % 2 ^ 64) j ≡ place (a * 2 ^ t) j
      front = place_cut (a * 2 ^ t) 64 j (omega arith)

      back : place (b / 2 ^ (64 - t)) j ≡ place b (64 - t + j)
      back = place_down b (64 - t) j

      first : t + i < 64 → (place ((a * 2 ^ t) % 2 ^ 64) j || place (b / 2 ^ (64 - t)) j) ≡ wbit (a ∷ b ∷ []) (t + i)
      first h =
          let k = 64 - suc (t + i) in
          let e : j ≡ t + k = omega arith in
          ap₂ ◌||◌ (front ∙ ap (place (a * 2 ^ t)) e ∙ place_up a t k) (back ∙ place_above b 64 (64 - t + j) hb (omega arith))
          ∙ or-none (place a k)
          ∙ sym (word_at (a ∷ b ∷ []) (t + i) 0 (t + i) h (omega arith))

      second : 64 ≤ t + i → (place ((a * 2 ^ t) % 2 ^ 64) j || place (b / 2 ^ (64 - t)) j) ≡ wbit (a ∷ b ∷ []) (t + i)
      second h =
          let l = t + i - 64 in
          let e : 64 - t + j ≡ 64 - suc l = omega arith in
          ap₂ ◌||◌ (front ∙ place_below a t j (omega arith)) (back ∙ ap (place b) e)
          ∙ sym (word_at (a ∷ b ∷ []) (t + i) 1 l (omega arith) (omega arith))

-- two neighbours in a list are read as the list is
pub neighbours : (ys : List ℕ) (q t i : ℕ) → t < 64 → i < 64
    → wbit (get_or ys q 0 ∷ get_or ys (q + 1) 0 ∷ []) (t + i) ≡ wbit ys (64 * q + t + i)
neighbours ys q t i ht hi = ⊎_elim second first (le-or-lt 64 (t + i))
  where
    two : List ℕ
    two = get_or ys q 0 ∷ get_or ys (q + 1) 0 ∷ []

    first : t + i < 64 → wbit two (t + i) ≡ wbit ys (64 * q + t + i)
    first h = word_at two (t + i) 0 (t + i) h (omega arith) ∙ sym (word_at ys (64 * q + t + i) q (t + i) h (omega arith))

    second : 64 ≤ t + i → wbit two (t + i) ≡ wbit ys (64 * q + t + i)
    second h =
        let j = t + i - 64 in
        let hj : j < 64 = omega arith in
        word_at two (t + i) 1 j hj (omega arith) ∙ sym (word_at ys (64 * q + t + i) (q + 1) j hj (omega arith))

-- ---- the first t bits of a word

pub first_holds : (v t : ℕ) → t < 64 → Holds (bit_xor v ((v * 2 ^ t) % 2 ^ 64 / 2 ^ t)) (up_to t (digit 64 v))
first_holds v t ht i hi =
    place_xor v ((v * 2 ^ t) % 2 ^ 64 / 2 ^ t) j
    ∙ ap (λ (p : Bool). place v j ⊕ p) (place_down ((v * 2 ^ t) % 2 ^ 64) t j)
    ∙ ⊎_elim out kept (le-or-lt t i)
  where
    j : ℕ
    j = 64 - suc i

    out : t ≤ i → place v j ⊕ place ((v * 2 ^ t) % 2 ^ 64) (t + j) ≡ up_to t (digit 64 v) i
    out h =
        ap (λ (p : Bool). place v j ⊕ p) (place_cut (v * 2 ^ t) 64 (t + j) (omega arith) ∙ place_up v t j)
        ∙ xor_same (place v j)
        ∙ sym (up_to_above t i (digit 64 v) h)

    kept : i < t → place v j ⊕ place ((v * 2 ^ t) % 2 ^ 64) (t + j) ≡ up_to t (digit 64 v) i
    kept h =
        ap (λ (p : Bool). place v j ⊕ p) (place_above ((v * 2 ^ t) % 2 ^ 64) 64 (t + j) (mod-lt (v * 2 ^ t) (pow_pos 64)) (omega arith))
        ∙ xor_none (place v j)
        ∙ sym (up_to_below t i (digit 64 v) h)

-- cut off at bit n of the whole
pub front_up_to : (u v k n t : ℕ) (x : Word) → Holds u (up_to t (digit 64 v)) → Holds v (from (64 * k) x) → t ≡ n - 64 * k
    → Holds u (from (64 * k) (up_to n x))
front_up_to u v k n t x hu hv e i hi =
    hu i hi
    ∙ ⊎_elim
    (λ (h : t ≤ i). up_to_above t i (digit 64 v) h ∙ sym (up_to_above n (64 * k + i) x (omega arith)))
    (λ (h : i < t). up_to_below t i (digit 64 v) h ∙ hv i hi ∙ sym (up_to_below n (64 * k + i) x (omega arith)))
    (le-or-lt t i)

pub up_to_joined : (m k : ℕ) (x y : Word) → m ≤ k → up_to m (joined k x y) ≡ up_to m x
up_to_joined m k x y l =
    fun_ext
    (λ n.
    ⊎_elim
    (λ (h : m ≤ n). up_to_above m n (joined k x y) h ∙ sym (up_to_above m n x h))
    (λ (h : n < m). up_to_below m n (joined k x y) h ∙ joined_below k n x y (omega arith) ∙ sym (up_to_below m n x h))
    (le-or-lt m n))

-- ---- the m bits of a vector twice over, word k

module _ (v : List ℕ) (m k : ℕ) (short : wbit v ≡ up_to m (wbit v)) where
  abbrev x : Word
  x = wbit v

  none_from : (n : ℕ) → m ≤ n → x n ≡ false
  none_from n h = ap (λ (y : Word). y n) short ∙ up_to_above m n x h

  -- before the place where they begin again
  pub twice_before : (u : ℕ) → u ≡ get_or v k 0 → 64 * k + 64 ≤ m → Holds u (from (64 * k) (twice m x))
  twice_before u e h i hi =
      ap (λ (z : ℕ). digit 64 z i) e ∙ word_holds v k i hi ∙ sym (joined_below m (64 * k + i) x (λ n. x (n - m)) (omega arith))

  -- behind it
  pub twice_behind : (u a b q t : ℕ) → a ≡ get_or v q 0 → b ≡ get_or v (q + 1) 0 → t < 64 → 64 * k ≡ m + (64 * q + t)
      → Holds u (from t (wbit (a ∷ b ∷ []))) → Holds u (from (64 * k) (twice m x))
  twice_behind u a b q t ea eb ht e hu i hi =
      let d : 64 * q + t + i ≡ 64 * k + i - m = omega arith in
      hu i hi
      ∙ ap₂ (λ (y z : ℕ). wbit (y ∷ z ∷ []) (t + i)) ea eb
      ∙ neighbours v q t i ht hi
      ∙ ap x d
      ∙ sym (joined_above m (64 * k + i) x (λ n. x (n - m)) (omega arith))

  -- at it: s bits in front, and the first ones after them
  pub twice_at : (a b s : ℕ) → a ≡ get_or v k 0 → b ≡ get_or v 0 0 → b < 2 ^ 64 → s ≤ 64 → m ≡ 64 * k + s
      → Holds (bit_or a (b / 2 ^ s)) (from (64 * k) (twice m x))
  twice_at a b s ea eb hb hs e i hi =
      place_or a (b / 2 ^ s) (64 - suc i)
      ∙ ap₂ ◌||◌ (ap (λ (z : ℕ). digit 64 z i) ea ∙ word_holds v k i hi) (place_down b s (64 - suc i))
      ∙ ⊎_elim again still (le-or-lt s i)
    where
      still : i < s → (x (64 * k + i) || place b (s + (64 - suc i))) ≡ twice m x (64 * k + i)
      still h =
          ap (λ (p : Bool). x (64 * k + i) || p) (place_above b 64 (s + (64 - suc i)) hb (omega arith))
          ∙ or-none (x (64 * k + i))
          ∙ sym (joined_below m (64 * k + i) x (λ n. x (n - m)) (omega arith))

      again : s ≤ i → (x (64 * k + i) || place b (s + (64 - suc i))) ≡ twice m x (64 * k + i)
      again h =
          let j = i - s in
          let hj : j < 64 = omega arith in
          let d : s + (64 - suc i) ≡ 64 - suc j = omega arith in
          let n : 64 * 0 + j ≡ 64 * k + i - m = omega arith in
          ap₂ ◌||◌ (none_from (64 * k + i) (omega arith)) (ap (place b) d ∙ ap (λ (z : ℕ). digit 64 z j) eb ∙ word_holds v 0 j hj ∙ ap x n)
          ∙ sym (joined_above m (64 * k + i) x (λ n. x (n - m)) (omega arith))

  pub twice_past : (n : ℕ) → 2 * m ≤ n → twice m x n ≡ false
  twice_past n h = joined_above m n x (λ i. x (i - m)) (omega arith) ∙ none_from (n - m) (omega arith)

-- ---- one word, and two

pub one_word : (v : ℕ) (x : Word) → Holds v x → ((n : ℕ) → 64 ≤ n → x n ≡ false) → wbit (v ∷ []) ≡ x
one_word v x hv none =
    fun_ext
    (λ n.
    ⊎_elim
    (λ (h : 64 ≤ n). word_past (v ∷ []) n h ∙ sym (none n h))
    (λ (h : n < 64). word_at (v ∷ []) n 0 n h (omega arith) ∙ hv n h)
    (le-or-lt 64 n))

two_words : (u v : ℕ) (x : Word) → Holds u (from (64 * 0) x) → Holds v (from (64 * 1) x) → ((n : ℕ) → 128 ≤ n → x n ≡ false)
    → wbit (u ∷ v ∷ []) ≡ x
two_words u v x hu hv none = fun_ext (λ n. ⊎_elim (λ (h : 128 ≤ n). word_past (u ∷ v ∷ []) n h ∙ sym (none n h)) (inside n)
    (le-or-lt 128 n))
  where
    inside : (n : ℕ) → n < 128 → wbit (u ∷ v ∷ []) n ≡ x n
    inside n l =
        ⊎_elim
        (λ (h : 64 ≤ n).
        let e : 64 * 1 + (n - 64) ≡ n = omega arith in
        word_at (u ∷ v ∷ []) n 1 (n - 64) (omega arith) (omega arith) ∙ hv (n - 64) (omega arith) ∙ ap x e)
        (λ (h : n < 64).
        let e : 64 * 0 + n ≡ n = omega arith in
        word_at (u ∷ v ∷ []) n 0 n h (omega arith) ∙ hu n h ∙ ap x e)
        (le-or-lt 64 n)

-- the m bits of one word twice over, in two
pub word_doubled : (v b m : ℕ) (x : Word) → 1 ≤ m → m ≤ 64 → v < 2 ^ 64 → Holds b (from (64 - m) (wbit (v ∷ 0 ∷ []))) → Holds v (up_to m x)
    → wbit (bit_or v (v / 2 / 2 ^ (m - 1)) ∷ b ∷ []) ≡ twice m (up_to m x)
word_doubled v b m x some held hv hb hx =
    ap (λ (z : ℕ). wbit (bit_or v z ∷ b ∷ [])) (shr-shr v 1 (m - 1) ∙ ap (λ (k : ℕ). v / 2 ^ k) whole)
    ∙ two_words (bit_or v (v / 2 ^ m)) b (twice m (wbit (v ∷ [])))
    (twice_at (v ∷ []) m 0 short v v m refl refl hv held (omega arith))
    (twice_behind (v ∷ []) m 1 short b v 0 0 (64 - m) refl refl (omega arith) (omega arith) hb)
    (λ n h. twice_past (v ∷ []) m 0 short n (omega arith))
    ∙ ap (twice m) same
  where
    whole : 1 + (m - 1) ≡ m
    whole = omega arith

    same : wbit (v ∷ []) ≡ up_to m x
    same = one_word v (up_to m x) hx (λ n h. up_to_above m n x (omega arith))

    short : wbit (v ∷ []) ≡ up_to m (wbit (v ∷ []))
    short = up_to_again m x (wbit (v ∷ [])) same

-- m bits twice over are the m bits taken round
pub twice_mod : (m n : ℕ) (x : Word) → n < 2 * m → twice m x n ≡ x (n % m)
twice_mod m n x h = ⊎_elim again still (le-or-lt m n)
  where
    still : n < m → twice m x n ≡ x (n % m)
    still l = joined_below m n x (λ i. x (i - m)) l ∙ ap x (sym (mod-eq_of_lt l))

    again : m ≤ n → twice m x n ≡ x (n % m)
    again l =
        let k : n - m < m = omega arith in
        joined_above m n x (λ i. x (i - m)) l ∙ ap x (sym (mod-eq-sub-mod l ∙ mod-eq_of_lt k))

-- and from bit s on they are turned by s
pub twice_turned : (m s n : ℕ) (x : Word) → s < m → n < m → twice m x (s + n) ≡ x ((n + s) % m)
twice_turned m s n x hs hn = twice_mod m (s + n) x (omega arith) ∙ ap (λ (k : ℕ). x (k % m)) (add_comm s n)

-- ---- bits added

module _ (x y : Word) (a e n : ℕ) where
  pub added_before : n < a → added x a e y n ≡ x n
  added_before h = ap (λ (b : Bool). x n ⊕ ((b && ltb n e) && y (n - a))) (lt-leb a n h) ∙ xor_none (x n)

  pub added_after : a ≤ n → e ≤ n → added x a e y n ≡ x n
  added_after h l = ap₂ (λ (b c : Bool). x n ⊕ ((b && c) && y (n - a))) (le-leb a n h) (le-ltb n e l) ∙ xor_none (x n)

  pub added_inside : a ≤ n → n < e → added x a e y n ≡ x n ⊕ y (n - a)
  added_inside h l = ap₂ (λ (b c : Bool). x n ⊕ ((b && c) && y (n - a))) (le-leb a n h) (lt-ltb n e l)

-- what is added twice at one place is added in one sum
pub added_twice : (x : Word) (a e : ℕ) (y z : Word) → added (added x a e y) a e z ≡ added x a e (λ k. y k ⊕ z k)
added_twice x a e y z =
    fun_ext
    (λ n.
    let t = leb a n && ltb n e in
    ⊕-assoc (x n) (t && y (n - a)) (t && z (n - a)) ∙ ap (λ (p : Bool). x n ⊕ p) (sym (and-⊕ t (y (n - a)) (z (n - a)))))

-- word at + j, to which a word of y is added
pub added_word : (u v : ℕ) (x y : Word) (at w j : ℕ) → j < w → Holds u (from (64 * (at + j)) x) → Holds v (from (64 * j) y)
    → Holds (bit_xor u v) (from (64 * (at + j)) (added x (64 * at) (64 * (at + w)) y))
added_word u v x y at w j hj hu hv i hi =
    let e : 64 * j + i ≡ 64 * (at + j) + i - 64 * at = omega arith in
    xor_holds u v (from (64 * (at + j)) x) (from (64 * j) y) hu hv i hi
    ∙ ap (λ (n : ℕ). x (64 * (at + j) + i) ⊕ y n) e
    ∙ sym (added_inside x y (64 * at) (64 * (at + w)) (64 * (at + j) + i) (omega arith) (omega arith))

-- one word, to which 64 bits are added
pub added_one : (ws : List ℕ) (v at : ℕ) (x : Word) → at < length ws → Holds v x
    → wbit (set ws at (bit_xor (get_or ws at 0) v)) ≡ added (wbit ws) (64 * at) (64 * (at + 1)) x
added_one ws v at x h hv =
    word_stored ws at y z (joined_start (64 * at) y z (λ n l. sym (added_before z x (64 * at) (64 * (at + 1)) n l)))
    (bit_xor (get_or ws at 0) v) h sum
    ∙ joined_end (64 * (at + 1)) y z (λ n l. sym (added_after z x (64 * at) (64 * (at + 1)) n (omega arith) l))
  where
    z : Word
    z = wbit ws

    y : Word
    y = added z (64 * at) (64 * (at + 1)) x

    sum : Holds (bit_xor (get_or ws at 0) v) (from (64 * at) y)
    sum i hi =
        let e : i ≡ 64 * at + i - 64 * at = omega arith in
        xor_holds (get_or ws at 0) v (from (64 * at) z) x (word_holds ws at) hv i hi
        ∙ ap (λ (n : ℕ). z (64 * at + i) ⊕ x n) e
        ∙ sym (added_inside z x (64 * at) (64 * (at + 1)) (64 * at + i) (omega arith) (omega arith))

-- ---- one bit flipped

module _ (ws : List ℕ) (n : ℕ) (inside : n < 64 * length ws) where
  abbrev y : Word
  y = wbit ws

  other : (k : ℕ) → (k ≡ n → ⊥) → y k ≡ flipped y n k
  other k d = sym (ap (λ (b : Bool). y k ⊕ b) (ne_eqb k n d) ∙ xor_none (y k))

  power : (i : ℕ) → i < 64 → digit 64 ((1 * 2 ^ (63 - n % 64)) % 2 ^ 64) i ≡ eqb (64 * (n / 64) + i) n
  power i hi =
      let e : 63 - n % 64 ≡ 64 - suc (n % 64) = omega arith in
      place_cut (1 * 2 ^ (63 - n % 64)) 64 (64 - suc i) (omega arith)
      ∙ ap (λ (v : ℕ). place v (64 - suc i)) (one-mul (2 ^ (63 - n % 64)) ∙ ap (λ (k : ℕ). 2 ^ k) e)
      ∙ digit_power 64 (n % 64) i (omega arith) hi
      ∙ eqb_iff i (n % 64) (64 * (n / 64) + i) n (λ e. omega arith) (λ e. omega arith)

  pub flipped_bit : wbit (set ws (n / 64) (bit_xor (get_or ws (n / 64) 0) ((1 * 2 ^ (63 - n % 64)) % 2 ^ 64))) ≡ flipped y n
  flipped_bit =
      let q = n / 64 in
      let one = (1 * 2 ^ (63 - n % 64)) % 2 ^ 64 in
      word_stored ws q (flipped y n) y (joined_start (64 * q) (flipped y n) y (λ k h. other k (λ e. omega arith)))
      (bit_xor (get_or ws q 0) one)
      (omega arith)
      (xor_holds (get_or ws q 0) one (from (64 * q) y) (λ i. eqb (64 * q + i) n) (word_holds ws q) power)
      ∙ joined_end (64 * (q + 1)) (flipped y n) y (λ k h. other k (λ e. omega arith))

-- ---- all bits u places later

-- the words before and at a place give the word at it
pub later_holds : (a b k u r : ℕ) (x : Word) → 0 < u → u < 64 → Holds a (from (64 * k) (later 64 x)) → Holds b (from (64 * k) x)
    → Holds r (from (64 - u) (wbit (a ∷ b ∷ []))) → Holds r (from (64 * k) (later u x))
later_holds a b k u r x pos hu ha hb hr i hi = hr i hi ∙ ⊎_elim second first (le-or-lt u i)
  where
    two : List ℕ
    two = a ∷ b ∷ []

    first : i < u → wbit two (64 - u + i) ≡ later u x (64 * k + i)
    first h =
        word_at two (64 - u + i) 0 (64 - u + i) (omega arith) (omega arith)
        ∙ ha (64 - u + i) (omega arith)
        ∙ ⊎_elim
        (λ (l : 1 ≤ k).
        let e : 64 * k + (64 - u + i) - 64 ≡ 64 * k + i - u = omega arith in
        later_back 64 (64 * k + (64 - u + i)) x (omega arith) ∙ ap x e ∙ sym (later_back u (64 * k + i) x (omega arith)))
        (λ (l : k < 1). later_front 64 (64 * k + (64 - u + i)) x (omega arith) ∙ sym (later_front u (64 * k + i) x (omega arith)))
        (le-or-lt 1 k)

    second : u ≤ i → wbit two (64 - u + i) ≡ later u x (64 * k + i)
    second h =
        let e : 64 * k + (i - u) ≡ 64 * k + i - u = omega arith in
        word_at two (64 - u + i) 1 (i - u) (omega arith) (omega arith)
        ∙ hb (i - u) (omega arith)
        ∙ ap x e
        ∙ sym (later_back u (64 * k + i) x (omega arith))

-- a word is the one before the next
pub later_next : (v k : ℕ) (x : Word) → Holds v (from (64 * k) x) → Holds v (from (64 * (k + 1)) (later 64 x))
later_next v k x h i hi =
    let e : 64 * k + i ≡ 64 * (k + 1) + i - 64 = omega arith in
    h i hi ∙ ap x e ∙ sym (later_back 64 (64 * (k + 1) + i) x (omega arith))

pub later_first : (x : Word) → Holds 0 (from (64 * 0) (later 64 x))
later_first x i hi = place_zero (64 - suc i) ∙ sym (later_front 64 (64 * 0 + i) x (omega arith))
