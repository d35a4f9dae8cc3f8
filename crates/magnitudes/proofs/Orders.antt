-- The order of finite samples by magnitude.
use mathlib.Core.Path.{◌≡◌, refl, sym, ap, ap₂, ◌∙◌, subst}
use mathlib.Core.Bool.{Bool, true, false, true≢false, not, ◌&&◌, ◌||◌, beq}
use mathlib.Core.List.{List}
use Prim.Native.Nat.{ℕ, ◌+◌, ◌*◌, ◌≤◌, ◌<◌}
use native.Mathlib.Nat.{mul-one, zero-mul, zero-add}
use native.Mathlib.Omega.{arith}
use lib.Dec.{T, ltb, eqb, nltb→le}
use lib.IntN.{ℤ}
use lib.Ieee.{Float, nan, inf, fin, up, down, below, lt, eq, neg, of_bits}
use lib.Ieee.Positive.{num, den, den_pos, through}
use lib.ListN.{length, get_or-eq_default}
use borrow.Author.Tests.{le-ltb, ltb-true, eqb-true}
use Rattle.bits.specs.Bits.{when◌then◌else◌}
use Rattle.bits.proofs.Sums.{below_at}
use Rattle.magnitudes.specs.Samples.{is_one, sample_of, read, magnitude, smaller, is_finite, all_finite}
use Rattle.magnitudes.proofs.Smallest.{Ordered}

both : (a b : Bool) → (a && b) ≡ true → (a ≡ true) × (b ≡ true)
both true true h = (refl, refl)
both true false h = absurd (true≢false (sym h))
both false b h = absurd (true≢false (sym h))

-- a sample is not below itself
pub lt_self : (s : Float) → lt s s ≡ false
unfolding lt
lt_self nan = refl
lt_self (inf true) = refl
lt_self (inf false) = refl
lt_self (fin true m e) = le-ltb (m * up e * down e) (m * up e * down e) (omega arith)
lt_self (fin false m e) = le-ltb (m * up e * down e) (m * up e * down e) (omega arith)

-- nor below one that it equals
pub eq_lt : (s t : Float) → eq s t ≡ true → lt s t ≡ false
unfolding lt eq
eq_lt nan t e = refl
eq_lt (inf s) nan e = refl
eq_lt (inf true) (inf true) e = refl
eq_lt (inf true) (inf false) e = sym e
eq_lt (inf false) (inf t) e = refl
eq_lt (inf s) (fin t n d) e = absurd (true≢false (sym e))
eq_lt (fin s m e) nan q = refl
eq_lt (fin s m e) (inf t) q = absurd (true≢false (sym q))
eq_lt (fin s m e) (fin t n d) q = go s t (m * up e * down d) (n * up d * down e) q
  where
    go : (s t : Bool) (a b : ℕ) → (eqb a b && (beq s t || eqb a 0)) ≡ true → below s a t b ≡ false
    go true true a b h = let e = eqb-true a b (both (eqb a b) true h).0 in le-ltb b a (omega arith)
    go true false a b h =
        let p = both (eqb a b) (eqb a 0) h in
        let e = eqb-true a b p.0 in
        let z = eqb-true a 0 p.1 in
        le-ltb 0 (a + b) (omega arith)
    go false true a b h = refl
    go false false a b h = let e = eqb-true a b (both (eqb a b) true h).0 in le-ltb a b (omega arith)

-- a finite sample's magnitude is it without its sign; only a zero keeps it
pub record Unsigned (m : ℕ) (e : ℤ) (size : Float) : Type 0 where
  pub sign : Bool
  pub is : size ≡ fin sign m e
  pub zero_if : sign ≡ true → m * up e ≡ 0

pub unsigned : (s : Bool) (m : ℕ) (e : ℤ) → Unsigned m e (magnitude (fin s m e))
unfolding lt neg of_bits
unsigned false m e = record {
  sign = false;
  is = ap (λ b. when b then fin true m e else fin false m e)
      (le-ltb (m * up e * 1) (0 * 1 * down e) (omega (arith, ap (λ z. z * down e) (zero-mul 1), zero-mul (down e))));
  zero_if = λ f. absurd (true≢false (sym f));
}
unsigned true m e = go (is_one (fin true m e)) refl
  where
    go : (b : Bool) → is_one (fin true m e) ≡ b → Unsigned m e (magnitude (fin true m e))
    go true f = record {
      sign = false;
      is = ap (λ b. when b then fin false m e else fin true m e) f;
      zero_if =
          λ g. absurd (true≢false (sym g));
    }
    go false f = record {
      sign = true;
      is = ap (λ b. when b then fin false m e else fin true m e) f;
      zero_if = λ g. omega (arith, nltb→le 0 (m * up e * 1 + 0 * 1 * down e) (subst (λ t. T (not t)) (sym f) tt), mul-one (m * up e));
    }

-- of finite samples, the order of magnitudes is that of fractions
pub magnitude_lt : (s t : Float) → is_finite s ≡ true → is_finite t ≡ true
    → lt (magnitude s) (magnitude t) ≡ ltb (num s * den t) (num t * den s)
unfolding lt
magnitude_lt nan t f g = absurd (true≢false (sym f))
magnitude_lt (inf s) t f g = absurd (true≢false (sym f))
magnitude_lt (fin s m e) nan f g = absurd (true≢false (sym g))
magnitude_lt (fin s m e) (inf t) f g = absurd (true≢false (sym g))
magnitude_lt (fin s m e) (fin t n d) f g = by (unsigned s m e) (unsigned t n d)
  where
    a : ℕ
    a = m * up e * down d

    b : ℕ
    b = n * up d * down e

    signs : (p q : Bool) → (p ≡ true → a ≡ 0) → (q ≡ true → b ≡ 0) → below p a q b ≡ ltb a b
    signs false false u v = refl
    signs false true u v = sym (le-ltb a b (omega (arith, v refl)))
    signs true false u v = ap₂ ltb (sym (u refl)) (ap (λ z. z + b) (u refl) ∙ zero-add b)
    signs true true u v = ap₂ ltb (v refl ∙ sym (u refl)) (u refl ∙ sym (v refl))

    by : Unsigned m e (magnitude (fin s m e)) → Unsigned n d (magnitude (fin t n d))
        → lt (magnitude (fin s m e)) (magnitude (fin t n d)) ≡ ltb a b
    by u v =
        ap₂ lt u.is v.is
        ∙ signs u.sign v.sign (λ z. ap (λ k. k * down d) (u.zero_if z) ∙ zero-mul (down d))
        (λ z. ap (λ k. k * down e) (v.zero_if z) ∙ zero-mul (down e))

-- every sample of a list that is finite throughout
pub all-at : (samples : List Float) → all_finite samples ≡ true → (n : ℕ) → n < length samples → is_finite (sample_of samples n) ≡ true
unfolding all_finite
all-at samples f n l = as_true (is_finite (sample_of samples n)) (below_at (length samples) (λ k. is_finite (sample_of samples k))
    (subst T (sym f) tt) n l)
  where
    as_true : (b : Bool) → T b → b ≡ true
    as_true true t = refl
    as_true false t = absurd t

-- so finite samples are ordered by magnitude
pub finite_ordered : (samples : List Float) → all_finite samples ≡ true → Ordered (smaller samples) (length samples)
unfolding smaller
finite_ordered samples f = record {
  apart = λ a b la lb h. is a b la lb h;
  onward = λ a b c la lb lc h k. through_is a b c la lb lc h k;
}
  where
    order : (a b : ℕ) → a < length samples → b < length samples → smaller samples a b
        ≡ ltb (num (sample_of samples a) * den (sample_of samples b)) (num (sample_of samples b) * den (sample_of samples a))
    order a b la lb = magnitude_lt (sample_of samples a) (sample_of samples b) (all-at samples f a la) (all-at samples f b lb)

    is : (a b : ℕ) → a < length samples → b < length samples → smaller samples a b ≡ true → smaller samples b a ≡ false
    is a b la lb h =
        let s = sample_of samples a in
        let t = sample_of samples b in
        order b a lb la ∙ le-ltb (num t * den s) (num s * den t)
        (omega (arith, ltb-true (num s * den t) (num t * den s) (sym (order a b la lb) ∙ h)))

    least : (a b : ℕ) → ltb a b ≡ false → b ≤ a
    least a b e = nltb→le a b (subst (λ t. T (not t)) (sym e) tt)

    through_is : (a b c : ℕ) → a < length samples → b < length samples → c < length samples → smaller samples b a ≡ false
        → smaller samples c b ≡ false → smaller samples c a ≡ false
    through_is a b c la lb lc h k =
        let s = sample_of samples a in
        let t = sample_of samples b in
        let r = sample_of samples c in
        order c a lc la ∙ le-ltb (num r * den s) (num s * den r)
        (through (num s) (num t) (num r) (den s) (den t) (den r) (den_pos t)
        (least (num t * den s) (num s * den t) (sym (order b a lb la) ∙ h)) (least (num r * den t) (num t * den r) (sym (order c b lc lb)
        ∙ k)))

-- ---- past the last sample

past_sample : (samples : List Float) (n : ℕ) → length samples ≤ n → sample_of samples n ≡ nan
past_sample samples n h = get_or-eq_default samples nan {n = n} h

pub past_read : (samples : List Float) (n : ℕ) → length samples ≤ n → read samples n ≡ false
unfolding read lt
past_read samples n h = ap is_one (past_sample samples n h)

pub past_smaller : (samples : List Float) (n : ℕ) → length samples ≤ n → (k : ℕ) → (smaller samples n k ≡ false)
    × (smaller samples k n ≡ false)
unfolding smaller lt
past_smaller samples n h k = (
  ap (λ s. lt (magnitude s) (magnitude (sample_of samples k))) (past_sample samples n h),
  ap (λ s. lt (magnitude (sample_of samples k)) (magnitude s)) (past_sample samples n h) ∙ unordered (magnitude (sample_of samples k)),
)
  where
    unordered : (s : Float) → lt s nan ≡ false
    unordered nan = refl
    unordered (inf s) = refl
    unordered (fin s m e) = refl
