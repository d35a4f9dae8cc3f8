-- Two wrong bits of each code: where a third bit may have the greatest excess. By a computed test of the telecommand tables.
use mathlib.Core.Path.{◌≡◌, sym, ap, ◌∙◌, subst}
use mathlib.Core.Bool.{Bool, false, not, ◌&&◌, ◌||◌}
use Prim.Native.Nat.{ℕ, ◌+◌, ◌/◌, ◌%◌, ◌≤◌, ◌<◌}
use native.Mathlib.Nat.{lt_of_not-le}
use native.Mathlib.Decide.{dec_lt}
use native.Mathlib.Omega.{arith}
use lib.Dec.{T, eqb}
use lib.IntN.{ℤ}
use lib.Signed.{lt_z}
use Rattle.bits.specs.Bits.{Word, flipped}
use Rattle.rules.specs.Tables.{parity16, parity32, parity64, generator16, generator32, generator64}
use Rattle.rules.specs.Codes.{Code, code, code1, code2, code3, code4, code5, bits, offered}
use Rattle.rules.specs.Checks.{broken, excess}
use Rattle.rules.specs.Flipping.{flip, by_excess}
use Rattle.rules.proofs.Ways.{Girth}
use Rattle.rules.proofs.Choosing.{chosen, next_flip, chosen_greatest}
use Rattle.rules.proofs.Two.{Tied, tied_first, tied_second}
use Rattle.rules.proofs.Corners.{Allowed, corners_allowed, corner}
use Rattle.rules.proofs.Published.{tests1, tests2, tests3, near_four}
use Rattle.rules.proofs.Numbers.{five}

-- ---- by the lowest number: a third bit is flipped only if it is lower than both

module _ (c : Code) (some : c.unsent < bits c) (girth : Girth c) (x : Word) (met : broken c x ≡ 0)
    (a b : ℕ) (ha : a < bits c) (hb : b < bits c) (apart : a ≡ b → ⊥) (sa : c.unsent ≤ a) (sb : c.unsent ≤ b) where
  abbrev both : Word
  both = flipped (flipped x a) b

  module _ (n : ℕ) (ex : ℤ) (is : by_excess c both ≡ flip n ex) (tied : Tied c a b n) where
    lower : (m : ℕ) → c.unsent ≤ m → (n ≡ m → ⊥) → lt_z (excess c both m) (excess c both n) ≡ false → n < m
    lower m sm d e = go (dec_lt m n)
      where
        at : n ≡ chosen c both
        at = (next_flip c both n ex is).bit

        go : Dec (m < n) → n < m
        go (yes l) = absurd (subst T (ap (λ z. lt_z (excess c both m) (excess c both z)) (sym at) ∙ e)
            ((chosen_greatest c some both).lowest m sm (omega (arith, at))).lt)
        go (no g) = by (dec_lt n m)
          where
            by : Dec (n < m) → n < m
            by (yes l) = l
            by (no k) = absurd (d (omega (arith, lt_of_not-le g, lt_of_not-le k)))

    pub third_lower : (n ≡ a → ⊥) → (n ≡ b → ⊥) → (n < a) × (n < b)
    third_lower da db = (
      lower a sa da (tied_first c girth x met a b ha hb apart n tied),
      lower b sb db (tied_second c girth x met a b ha hb apart n tied),
    )

-- ---- the tables

-- no three such bits under codes 2 and 3
corners32 : T (corners_allowed 31 8 parity32 (λ t p q ahead back. false))
unfolding parity32
corners32 = tt

corners64 : T (corners_allowed 63 8 parity64 (λ t p q ahead back. false))
unfolding parity64
corners64 = tt

-- Two bits of blocks p and q, in either order, the one of q s places further round.
abbrev pub joined : (p q s : ℕ) → (first second ahead back : ℕ) → Bool
joined p q s first second ahead back =
    (eqb first p && (eqb second q && eqb ahead s)) || (eqb second p && (eqb first q && eqb back s))

-- under code 1 two kinds, with bits 80 and 109 turned round: 75 with them, and 77
abbrev pub joined16 : Allowed
joined16 t p q ahead back =
    (eqb t 4 && joined 5 6 13 p q ahead back)
    || ((eqb t 6 && (joined 4 5 5 p q ahead back || joined 4 5 3 p q ahead back))
    || (eqb t 5 && (joined 4 6 2 p q ahead back || joined 4 6 0 p q ahead back)))

corners16 : T (corners_allowed 15 8 parity16 joined16)
unfolding parity16
corners16 = tt

-- what is known of a third bit under code 1
pub record Third (a b n : ℕ) : Type 0 where
  pub ahead : ℕ
  pub back : ℕ
  pub is : T (joined16 (n / 16) (a / 16) (b / 16) ahead back)
  pub second : b % 16 ≡ (a % 16 + ahead) % 16
  pub first : a % 16 ≡ (b % 16 + back) % 16

pub third1 : (a b n : ℕ) → a < bits code1 → b < bits code1 → n < bits code1 → (a ≡ b → ⊥) → (n ≡ a → ⊥) → (n ≡ b → ⊥)
    → Tied code1 a b n → Third a b n
unfolding code1 parity16 generator16
third1 a b n ha hb hn d da db t =
    let k = corner 16 8 0 15 parity16 generator16 16 8 tests1.shape joined16 corners16 a b n ha hb hn d da db t in
    record { ahead = k.ahead; back = k.back; is = k.is; second = k.second; first = k.first }

-- ---- by their numbers: all codes but 1 have no third bit

abbrev NoThird : Code → Type 0
NoThird c = (a b n : ℕ) → a < bits c → b < bits c → n < bits c → (a ≡ b → ⊥) → (n ≡ a → ⊥) → (n ≡ b → ⊥) → Tied c a b n → ⊥

none2 : NoThird code2
unfolding code2 parity32 generator32
none2 a b n ha hb hn d da db t =
    (corner 32 16 0 31 parity32 generator32 32 8 tests2.shape (λ t p q ahead back. false) corners32 a b n ha hb hn d da db t).is

none3 : NoThird code3
unfolding code3 parity64 generator64
none3 a b n ha hb hn d da db t =
    (corner 64 32 0 63 parity64 generator64 64 8 tests3.shape (λ t p q ahead back. false) corners64 a b n ha hb hn d da db t).is

none4 : NoThird code4
unfolding code4
none4 a b n ha hb hn d da db t = omega (arith, near_four 1022 895 0 a ha, t.of_a)

none5 : NoThird code5
unfolding code5
none5 a b n ha hb hn d da db t = omega (arith, near_four 1020 892 18 a ha, t.of_a)

pub no_third : (n : ℕ) → T (offered n) → T (not (eqb n 1)) → (a b k : ℕ) → a < bits (code n) → b < bits (code n) → k < bits (code n)
    → (a ≡ b → ⊥) → (k ≡ a → ⊥) → (k ≡ b → ⊥) → Tied (code n) a b k → ⊥
unfolding code
no_third = five (λ n. T (not (eqb n 1)) → NoThird (code n)) (λ u. absurd u) (λ u. none2) (λ u. none3) (λ u. none4) (λ u. none5)

pub third_one : (a b n : ℕ) → a < bits (code 1) → b < bits (code 1) → n < bits (code 1) → (a ≡ b → ⊥) → (n ≡ a → ⊥) → (n ≡ b → ⊥)
    → Tied (code 1) a b n → Third a b n
unfolding code
third_one = third1
