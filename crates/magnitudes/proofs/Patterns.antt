-- What bit patterns tell as whole numbers is what comparison and negation tell of the samples: whether a sample is finite, and of finite
-- ones whether it is below 0 and whether its magnitude is the smaller.
use mathlib.Core.Path.{◌≡◌, refl, sym, ap, ap₂, ◌∙◌, subst, fun_ext}
use mathlib.Core.Bool.{Bool, true, false, not, ◌&&◌, cond}
use mathlib.Core.List.{List, [], ◌∷◌}
use Prim.Native.Nat.{ℕ, zero, suc, ◌+◌, ◌*◌, ◌/◌, ◌%◌, ◌^◌, ◌≤◌, ◌<◌}
use native.Mathlib.Nat.{zero-mul, mul-one, mul_assoc, mul_comm, mul_right_comm, mul-pos, mul-le-mul_left, mul-le-mul_right}
use native.Mathlib.Nat.{mul-lt-mul_of_pos_right, le-mul_of_pos_right, lt_of_lt_of_le, lt_of_not-le, le_trans, le_of_eq}
use native.Mathlib.Nat.{le_of_suc-le-suc, not-suc-le-zero, pow-succ'}
use native.Mathlib.Decide.{dec_lt}
use native.Mathlib.Omega.{arith}
use lib.Dec.{leb, ltb, eqb}
use lib.Ieee.{Float, nan, inf, fin, up, down, odd, of_fields, of_bits, binary32, lt}
use lib.Ieee.Exact.{HasValue, odd_sign}
use lib.Ieee.Positive.{num, den, den_pos, first_pos}
use lib.ListN.{length, length-map, get_or-eq_default}
use lib.Pow.{pow_pos, pow_mono, mod-mod-pow}
use borrow.Author.Tests.{lt-ltb, le-ltb, ltb-true, ltb-false, eq-eqb, ne_eqb, not-true}
use Rattle.bits.specs.Bits.{below}
use Rattle.rules.specs.Codes.{Code, bits}
use Rattle.magnitudes.specs.Samples as S
use Rattle.magnitudes.specs.Samples.{sample_of, magnitude}
use Rattle.magnitudes.specs.Patterns.{samples_of, pattern_of, unsigned, is_one, read, smaller, is_finite, all_finite}
use Rattle.magnitudes.specs.Sizes.{by_size}
use Rattle.magnitudes.proofs.Smallest.{Ordered}
use Rattle.magnitudes.proofs.Choosing.{same_order}
use Rattle.magnitudes.proofs.Orders.{magnitude_lt}
use Rattle.magnitudes.proofs.Orders as orders

-- both zeros are read as 0
pub zeros_read : (is_one 0 ≡ false) × (is_one 0x8000_0000 ≡ false)
zeros_read = (refl, refl)

-- ---- the fields of a pattern

fields : (p : ℕ) → of_bits binary32 p ≡ of_fields binary32 (leb 0x8000_0000 p) (unsigned p / 0x80_0000) (unsigned p % 0x80_0000)
unfolding of_bits
fields p = ap (of_fields binary32 (leb 0x8000_0000 p) (unsigned p / 0x80_0000)) (sym (mod-mod-pow p 8 23))

odd_finite : (d : ℕ) (s : Bool) (q k l : ℕ) → S.is_finite (odd d s q k l) ≡ true
unfolding odd
odd_finite d s zero k l = refl
odd_finite d s (suc q) k l = refl

fields_finite : (s : Bool) (x t : ℕ) → S.is_finite (of_fields binary32 s x t) ≡ not (eqb x 255)
unfolding of_fields
fields_finite s zero t = odd_finite 24 s t 0 149
fields_finite s (suc x) t = go (eqb (suc x) 255) (eqb t 0)
  where
    go : (a b : Bool) → S.is_finite (cond a (cond b (inf s) nan) (odd 24 s (0x80_0000 + t) x 149)) ≡ not a
    go true true = refl
    go true false = refl
    go false b = odd_finite 24 s (0x80_0000 + t) x 149

-- A sample is infinite or not a number just where the exponent's field is all ones.
pub finite_by_field : (p : ℕ) → S.is_finite (of_bits binary32 p) ≡ is_finite p
finite_by_field p = ap S.is_finite (fields p) ∙ fields_finite (leb 0x8000_0000 p) (unsigned p / 0x80_0000) (unsigned p % 0x80_0000)

-- ---- the number that a pattern stands for, in units of the smallest, 2 ^ -149

abbrev units : ℕ → ℕ → ℕ
units zero t = t
units (suc x) t = (0x80_0000 + t) * 2 ^ x

abbrev worth : ℕ → ℕ
worth u = units (u / 0x80_0000) (u % 0x80_0000)

fields_value : (s : Bool) (x t : ℕ) → eqb x 255 ≡ false → HasValue (of_fields binary32 s x t) s (units x t) (2 ^ 149)
unfolding of_fields
fields_value s zero t f = subst (λ a. HasValue (odd 24 s t 0 149) s a (2 ^ 149)) (mul-one t) (odd_sign 24 s t 0 149)
fields_value s (suc x) t f =
    subst (λ b. HasValue (cond b (cond (eqb t 0) (inf s) nan) (odd 24 s (0x80_0000 + t) x 149)) s (units (suc x) t) (2 ^ 149)) (sym f)
    (odd_sign 24 s (0x80_0000 + t) x 149)

value : (p : ℕ) → is_finite p ≡ true → HasValue (of_bits binary32 p) (leb 0x8000_0000 p) (worth (unsigned p)) (2 ^ 149)
value p f =
    subst (λ x. HasValue x (leb 0x8000_0000 p) (worth (unsigned p)) (2 ^ 149)) (sym (fields p))
    (fields_value (leb 0x8000_0000 p) (unsigned p / 0x80_0000) (unsigned p % 0x80_0000) (not-true (eqb (unsigned p / 0x80_0000) 255) f))

-- it grows with the pattern
units_grow : (x t y u : ℕ) → t < 0x80_0000 → u < 0x80_0000 → x * 0x80_0000 + t < y * 0x80_0000 + u → units x t < units y u
units_grow zero t zero u ht hu h = omega arith
units_grow zero t (suc y) u ht hu h =
    lt_of_lt_of_le ht (le_trans (lead u) (le-mul_of_pos_right (0x80_0000 + u) (pow_pos y)))
  where
    lead : (k : ℕ) → 0x80_0000 ≤ 0x80_0000 + k
    lead k = omega arith
units_grow (suc x) t zero u ht hu h = absurd (omega arith)
units_grow (suc x) t (suc y) u ht hu h = go (dec_lt x y)
  where
    twice : 0x80_0000 + t < 0x80_0000 * 2
    twice = omega arith

    go : Dec (x < y) → (0x80_0000 + t) * 2 ^ x < (0x80_0000 + u) * 2 ^ y
    go (yes l) =
        lt_of_lt_of_le (mul-lt-mul_of_pos_right twice (pow_pos x))
        (le_trans (le_of_eq (mul_assoc 0x80_0000 2 (2 ^ x) ∙ ap (λ k. 0x80_0000 * k) (sym (pow-succ' 2 x))))
        (le_trans (mul-le-mul_left 0x80_0000 (pow_mono l)) (mul-le-mul_right (2 ^ y) lead)))
      where
        lead : 0x80_0000 ≤ 0x80_0000 + u
        lead = omega arith
    go (no g) =
        let e : x ≡ y = omega (arith, lt_of_not-le g) in
        let more : 0x80_0000 + t < 0x80_0000 + u = omega (arith, e) in
        subst (λ k. (0x80_0000 + t) * 2 ^ x < (0x80_0000 + u) * 2 ^ k) e (mul-lt-mul_of_pos_right more (pow_pos x))

worth_grows : (u v : ℕ) → u < v → worth u < worth v
worth_grows u v h = units_grow (u / 0x80_0000) (u % 0x80_0000) (v / 0x80_0000) (v % 0x80_0000) (omega arith) (omega arith) (omega arith)

worth_order : (u v : ℕ) → ltb (worth u) (worth v) ≡ ltb u v
worth_order u v = go (dec_lt u v) (dec_lt v u)
  where
    go : Dec (u < v) → Dec (v < u) → ltb (worth u) (worth v) ≡ ltb u v
    go (yes l) d = lt-ltb (worth u) (worth v) (worth_grows u v l) ∙ sym (lt-ltb u v l)
    go (no g) (yes l) = le-ltb (worth u) (worth v) (omega (arith, worth_grows v u l)) ∙ sym (le-ltb u v (omega arith))
    go (no g) (no g') =
        let e : u ≡ v = omega (arith, lt_of_not-le g, lt_of_not-le g') in
        ap (λ k. ltb (worth k) (worth v)) e ∙ le-ltb (worth v) (worth v) (omega arith) ∙ sym (le-ltb u v (omega (arith, e)))

-- ---- magnitudes

scaled : (a b k : ℕ) → 0 < k → ltb (a * k) (b * k) ≡ ltb a b
scaled a b k h = go (dec_lt a b)
  where
    go : Dec (a < b) → ltb (a * k) (b * k) ≡ ltb a b
    go (yes l) = lt-ltb (a * k) (b * k) (mul-lt-mul_of_pos_right l h) ∙ sym (lt-ltb a b l)
    go (no g) =
        let over : b ≤ a = omega (arith, lt_of_not-le g) in
        le-ltb (a * k) (b * k) (mul-le-mul_right k over) ∙ sym (le-ltb a b over)

as_fraction : (x : Float) (s : Bool) (a c : ℕ) → HasValue x s a c → num x * c ≡ a * den x
as_fraction nan s a c h = absurd h
as_fraction (inf t) s a c h = absurd h
as_fraction (fin t m e) s a c h = h.1

fractions : (x y : Float) (s t : Bool) (a b c : ℕ) → 0 < c → HasValue x s a c → HasValue y t b c
    → ltb (num x * den y) (num y * den x) ≡ ltb a b
fractions x y s t a b c pos h k =
    sym (scaled (num x * den y) (num y * den x) c pos)
    ∙ ap₂ ltb (mul_right_comm (num x) (den y) c ∙ ap (λ z. z * den y) (as_fraction x s a c h) ∙ mul_assoc a (den x) (den y))
    (mul_right_comm (num y) (den x) c ∙ ap (λ z. z * den x) (as_fraction y t b c k) ∙ mul_assoc b (den y) (den x)
    ∙ ap (λ z. b * z) (mul_comm (den y) (den x)))
    ∙ scaled a b (den x * den y) (mul-pos (den_pos x) (den_pos y))

-- Magnitudes of finite samples are ordered as their patterns without the sign.
pub sizes_by_patterns : (a b : ℕ) → is_finite a ≡ true → is_finite b ≡ true
    → lt (magnitude (of_bits binary32 a)) (magnitude (of_bits binary32 b)) ≡ ltb (unsigned a) (unsigned b)
sizes_by_patterns a b f g =
    magnitude_lt (of_bits binary32 a) (of_bits binary32 b) (finite_by_field a ∙ f) (finite_by_field b ∙ g)
    ∙ fractions (of_bits binary32 a) (of_bits binary32 b) (leb 0x8000_0000 a) (leb 0x8000_0000 b) (worth (unsigned a)) (worth (unsigned b))
    (2 ^ 149) (pow_pos 149) (value a f) (value b g)
    ∙ worth_order (unsigned a) (unsigned b)

-- ---- the sign

below-zero : (x : Float) (s : Bool) (a c : ℕ) → 0 < c → HasValue x s a c → S.is_one x ≡ (s && not (eqb a 0))
unfolding lt of_bits
below-zero nan s a c pos h = absurd h
below-zero (inf t) s a c pos h = absurd h
below-zero (fin false m e) s a c pos h =
    le-ltb (m * up e * 1) (0 * 1 * down e) (omega (arith, none)) ∙ ap (λ b. b && not (eqb a 0)) h.0
  where
    none : 0 * 1 * down e ≡ 0
    none = zero-mul (down e)
below-zero (fin true m e) s a c pos h = go (dec_lt 0 a) ∙ ap (λ b. b && not (eqb a 0)) h.0
  where
    none : 0 * 1 * down e ≡ 0
    none = zero-mul (down e)

    go : Dec (0 < a) → ltb 0 (m * up e * 1 + 0 * 1 * down e) ≡ not (eqb a 0)
    go (yes l) =
        let some : 0 < m * up e = first_pos (m * up e) c (subst (λ z. 0 < z) (sym h.1) (mul-pos l (den_pos (fin true m e)))) in
        lt-ltb 0 (m * up e * 1 + 0 * 1 * down e) (omega (arith, some, none, mul-one (m * up e)))
        ∙ ap not (sym (ne_eqb a 0 (λ z. omega arith)))
    go (no g) =
        let z : a ≡ 0 = omega (arith, lt_of_not-le g) in
        le-ltb 0 (m * up e * 1 + 0 * 1 * down e) (empty z (dec_lt 0 (m * up e))) ∙ ap not (sym (eq-eqb a 0 z))
      where
        empty : a ≡ 0 → Dec (0 < m * up e) → m * up e * 1 + 0 * 1 * down e ≤ 0
        empty z (yes l) = absurd (omega (arith, mul-pos l pos, h.1, ap (λ k. k * down e) z, zero-mul (down e)))
        empty z (no k) = omega (arith, lt_of_not-le k, none, mul-one (m * up e))

-- A finite sample is below 0 just where its sign is set and the rest is not 0.
pub one_by_sign : (p : ℕ) → is_finite p ≡ true → S.is_one (of_bits binary32 p) ≡ is_one p
one_by_sign p f =
    below-zero (of_bits binary32 p) (leb 0x8000_0000 p) (worth (unsigned p)) (2 ^ 149) (pow_pos 149) (value p f)
    ∙ ap (λ b. leb 0x8000_0000 p && not b) (zero_if (unsigned p) (dec_lt 0 (unsigned p)))
  where
    zero_if : (u : ℕ) → Dec (0 < u) → eqb (worth u) 0 ≡ eqb u 0
    zero_if u (yes l) =
        let some : 0 < worth u = worth_grows 0 u l in
        ne_eqb (worth u) 0 (λ z. omega (arith, some)) ∙ sym (ne_eqb u 0 (λ z. omega arith))
    zero_if u (no g) =
        let z : u ≡ 0 = omega (arith, lt_of_not-le g) in
        ap (λ k. eqb (worth k) 0) z ∙ sym (eq-eqb u 0 z)

-- ---- lists of patterns

sample_at : (patterns : List ℕ) (n : ℕ) → n < length patterns → sample_of (samples_of patterns) n ≡ of_bits binary32 (pattern_of patterns n)
sample_at [] n h = absurd (not-suc-le-zero h)
sample_at (p ∷ patterns) zero h = refl
sample_at (p ∷ patterns) (suc n) h = sample_at patterns n (le_of_suc-le-suc h)

below_same : (n : ℕ) (f g : ℕ → Bool) → ((i : ℕ) → i < n → f i ≡ g i) → below n f ≡ below n g
below_same zero f g h = refl
below_same (suc n) f g h = ap₂ ◌&&◌ (h n (omega arith)) (below_same n f g (λ i l. h i (omega arith)))

pub finite_same : (patterns : List ℕ) → S.all_finite (samples_of patterns) ≡ all_finite patterns
unfolding all_finite S.all_finite
finite_same patterns =
    ap (λ m. below m (λ n. S.is_finite (sample_of (samples_of patterns) n))) (length-map patterns (of_bits binary32))
    ∙ below_same (length patterns) (λ n. S.is_finite (sample_of (samples_of patterns) n)) (λ n. is_finite (pattern_of patterns n))
    (λ n l. ap S.is_finite (sample_at patterns n l) ∙ finite_by_field (pattern_of patterns n))

finite_at : (patterns : List ℕ) → all_finite patterns ≡ true → (n : ℕ) → n < length patterns → is_finite (pattern_of patterns n) ≡ true
finite_at patterns f n l =
    sym (finite_by_field (pattern_of patterns n)) ∙ ap S.is_finite (sym (sample_at patterns n l))
    ∙ orders.all-at (samples_of patterns) (finite_same patterns ∙ f) n
    (subst (λ m. n < m) (sym (length-map patterns (of_bits binary32))) l)

past_pattern : (patterns : List ℕ) (n : ℕ) → length patterns ≤ n → pattern_of patterns n ≡ 0
past_pattern patterns n h = get_or-eq_default patterns 0 {n = n} h

pub past_read : (patterns : List ℕ) (n : ℕ) → length patterns ≤ n → read patterns n ≡ false
unfolding read
past_read patterns n h = ap is_one (past_pattern patterns n h)

module _ (patterns : List ℕ) (finite : all_finite patterns ≡ true) where
  pub read_same : S.read (samples_of patterns) ≡ read patterns
  read_same = fun_ext (λ n. go n (dec_lt n (length patterns)))
    where
      go : (n : ℕ) → Dec (n < length patterns) → S.read (samples_of patterns) n ≡ read patterns n
      go n (yes l) = unfold S.read read in ap S.is_one (sample_at patterns n l)
          ∙ one_by_sign (pattern_of patterns n) (finite_at patterns finite n l)
      go n (no g) =
          let past : length patterns ≤ n = omega (arith, lt_of_not-le g) in
          orders.past_read (samples_of patterns) n (subst (λ m. m ≤ n) (sym (length-map patterns (of_bits binary32))) past)
          ∙ sym (past_read patterns n past)

  smaller_same : (n k : ℕ) → n < length patterns → k < length patterns → S.smaller (samples_of patterns) n k ≡ smaller patterns n k
  unfolding smaller S.smaller
  smaller_same n k l m =
      ap₂ (λ a b. lt (magnitude a) (magnitude b)) (sample_at patterns n l) (sample_at patterns k m)
      ∙ sizes_by_patterns (pattern_of patterns n) (pattern_of patterns k) (finite_at patterns finite n l) (finite_at patterns finite k m)

  pub way_same : (c : Code) → c.unsent < bits c → length patterns ≡ bits c
      → by_size (S.smaller (samples_of patterns)) c ≡ by_size (smaller patterns) c
  way_same c some long =
      same_order (S.smaller (samples_of patterns)) (smaller patterns) c some
      (λ n k l m. smaller_same n k (subst (λ z. n < z) (sym long) l) (subst (λ z. k < z) (sym long) m))

-- patterns without their signs are ordered
pub ordered : (patterns : List ℕ) (top : ℕ) → Ordered (smaller patterns) top
unfolding smaller
ordered patterns top = record {
  apart = λ a b la lb h. le-ltb (size b) (size a) (omega (arith, ltb-true (size a) (size b) h));
  onward = λ a b c la lb lc h k. le-ltb (size c) (size a)
      (omega (arith, ltb-false (size b) (size a) h, ltb-false (size c) (size b) k));
}
  where
    size : ℕ → ℕ
    size n = unsigned (pattern_of patterns n)
