-- The bit where a signed number is greatest, and the lowest number of several: what `greatest` gives.
use mathlib.Core.Path.{◌≡◌, refl, sym, subst}
use mathlib.Core.Bool.{Bool, true, false, not}
use Prim.Native.Nat.{ℕ, zero, suc, ◌+◌, ◌≤◌, ◌<◌}
use native.Mathlib.Nat.{lt_of_le_of_lt, lt_of_lt_of_le, zero-lt-suc}
use native.Mathlib.Decide.{ℕ_discrete}
use native.Mathlib.Omega.{arith}
use lib.Dec.{T, ltb→lt, lt→ltb, leb→le, le→leb}
use lib.IntN.{ℤ, pos, negsuc}
use lib.Signed.{lt_z, le_z, ◌≤ℤ◌, ◌<ℤ◌, lt_z_yes, lt_z_no, ≤ℤ_refl, <ℤ-≤ℤ_trans, clash_ℤ}
use Rattle.bits.specs.Bits.{when◌then◌else◌}
use Rattle.rules.specs.Flipping.{greatest}

-- ---- the order of signed numbers

le_lt : (a b c : ℤ) → T (le_z a b) → T (lt_z b c) → T (lt_z a c)
le_lt (pos a) (pos b) (pos c) h k = lt→ltb a c (lt_of_le_of_lt (leb→le a b h) (ltb→lt b c k))
le_lt (pos a) (pos b) (negsuc c) h k = k
le_lt (pos a) (negsuc b) c h k = absurd h
le_lt (negsuc a) b (pos c) h k = tt
le_lt (negsuc a) (pos b) (negsuc c) h k = absurd k
le_lt (negsuc a) (negsuc b) (negsuc c) h k = lt→ltb c a (lt_of_lt_of_le (ltb→lt c b k) (leb→le b a h))

lt-le : (a b : ℤ) → T (lt_z a b) → T (le_z a b)
lt-le (pos a) (pos b) h = le→leb a b (omega (arith, ltb→lt a b h))
lt-le (pos a) (negsuc b) h = h
lt-le (negsuc a) (pos b) h = tt
lt-le (negsuc a) (negsuc b) h = le→leb b a (omega (arith, ltb→lt b a h))

pub ≤ℤ-<ℤ-trans : {a b c : ℤ} → a ≤ℤ b → b <ℤ c → a <ℤ c
≤ℤ-<ℤ-trans {a} {b} {c} h k = record { lt = le_lt a b c h.le k.lt }

pub <ℤ-≤ℤ : {a b : ℤ} → a <ℤ b → a ≤ℤ b
<ℤ-≤ℤ {a} {b} h = record { le = lt-le a b h.lt }

-- what is not above is not less
pub not-less : (a b : ℤ) → a ≤ℤ b → lt_z b a ≡ false
not-less a b h = go (lt_z b a) refl
  where
    go : (t : Bool) → lt_z b a ≡ t → lt_z b a ≡ false
    go true e = clash_ℤ (lt_z_yes (subst T (sym e) tt)) h
    go false e = e

pub not_over : (a b : ℤ) → a ≤ℤ b → lt_z (pos 0) b ≡ false → lt_z (pos 0) a ≡ false
not_over a b h f = go (lt_z (pos 0) a) refl
  where
    go : (t : Bool) → lt_z (pos 0) a ≡ t → lt_z (pos 0) a ≡ false
    go true e =
        let up : pos 0 <ℤ a = lt_z_yes (subst T (sym e) tt) in
        let over : pos 0 <ℤ b = <ℤ-≤ℤ_trans up h in
        let under : b ≤ℤ pos 0 = lt_z_no (subst (λ (t : Bool). T (not t)) (sym f) tt) in
        clash_ℤ over under
    go false e = e

-- ---- `greatest`

-- of two bits of equal excess, the lower number
pub lowest_of_equals : greatest 0 2 (λ n. pos 1) ≡ 0
unfolding greatest
lowest_of_equals = refl

-- Of the n numbers from `first` on, f is greatest at `bit`, and less at every lower one.
pub record Greatest (first n : ℕ) (f : ℕ → ℤ) (bit : ℕ) : Type 0 where
  pub from : first ≤ bit
  pub under : bit < first + n
  pub most : (i : ℕ) → first ≤ i → i < first + n → f i ≤ℤ f bit
  pub lowest : (i : ℕ) → first ≤ i → i < bit → f i <ℤ f bit

pub greatest_has : (first n : ℕ) (f : ℕ → ℤ) → 0 < n → Greatest first n f (greatest first n f)
unfolding greatest
greatest_has first zero f h = absurd (omega arith)
greatest_has first (suc zero) f h = go (lt_z (f first) (f (first + 0)))
  where
    only : (k : ℕ) → k ≡ first → Greatest first 1 f k
    only k is = record {
      from = omega arith;
      under = omega arith;
      most = λ i a l. let e : i ≡ k = omega arith in subst (λ (j : ℕ). f j ≤ℤ f k) (sym e) (≤ℤ_refl (f k));
      lowest = λ i a l. absurd (omega arith);
    }

    go : (t : Bool) → Greatest first 1 f (when t then first + 0 else first)
    go true = only (first + 0) (omega arith)
    go false = only first refl
greatest_has first (suc (suc n)) f h =
    go (lt_z (f (greatest first (suc n) f)) (f (first + suc n))) refl (greatest_has first (suc n) f (zero-lt-suc n))
  where
    -- Of every number below first + n + 2: it is below first + n + 1, or that.
    more : (P : ℕ → Type 0) → ((i : ℕ) → first ≤ i → i < first + suc n → P i) → P (first + suc n) → (i : ℕ) → first ≤ i
        → i < first + suc (suc n) → P i
    more P below here i a l = pick (ℕ_discrete i (first + suc n))
      where
        pick : Dec (i ≡ first + suc n) → P i
        pick (yes e) = subst P (sym e) here
        pick (no d) = below i a (omega arith)

    go : (t : Bool) → lt_z (f (greatest first (suc n) f)) (f (first + suc n)) ≡ t → Greatest first (suc n) f (greatest first (suc n) f)
        → Greatest first (suc (suc n)) f (when t then first + suc n else greatest first (suc n) f)
    go true e b =
        let l : f (greatest first (suc n) f) <ℤ f (first + suc n) = lt_z_yes (subst T (sym e) tt) in
        record {
          from = omega arith;
          under = omega arith;
          most = more (λ i. f i ≤ℤ f (first + suc n)) (λ i a u. <ℤ-≤ℤ (≤ℤ-<ℤ-trans (b.most i a u) l)) (≤ℤ_refl (f (first + suc n)));
          lowest = λ i a u. ≤ℤ-<ℤ-trans (b.most i a u) l;
        }
    go false e b =
        record {
          from = b.from;
          under = omega (arith, b.under);
          most = more (λ i. f i ≤ℤ f (greatest first (suc n) f)) b.most (lt_z_no (subst (λ (t : Bool). T (not t)) (sym e) tt));
          lowest = b.lowest;
        }
