-- Bits read from samples, mark by mark, and samples that are finite, part by part.
use mathlib.Core.Path.{◌≡◌, refl, sym, ap, ap₂, ◌∙◌}
use mathlib.Core.Bool.{Bool, true, false, ◌&&◌, ◌||◌}
use mathlib.Core.Logic.{⊎_elim}
use Prim.Native.Nat.{ℕ, zero, suc, ◌+◌, ◌-◌, ◌*◌, ◌%◌, ◌^◌, ◌≤◌, ◌<◌}
use native.Mathlib.Nat.{add-zero, add-suc, one-mul, mod-eq_of_lt, lt_of_not-le}
use native.Mathlib.Decide.{ℕ_discrete, dec_lt}
use native.Mathlib.Omega.{arith}
use lib.Bits.{bit_or}
use lib.Dec.{ltb, eqb}
use lib.Pow.{pow-lt}
use borrow.Author.Tests.{lt-ltb, le-ltb, eq-eqb, ne_eqb}
use Rattle.bits.specs.Bits.{Word, digit, below, when◌then◌else◌}
use Rattle.bits.proofs.Octets.{digit_zero}
use Rattle.bits.proofs.Orders.{le-or-lt}
use Rattle.vectors.specs.Vectors.{Holds, up_to, from}
use Rattle.vectors.proofs.Places.{or-none, place, place_or, place_above, place_cut, place_up, place_below, digit_or, digit_power}

-- a power of 2 that fits
pub raised : (i : ℕ) → i < 32 → (1 * 2 ^ i) % 2 ^ 32 ≡ 2 ^ i
raised i h = ap (λ z. z % 2 ^ 32) (one-mul (2 ^ i)) ∙ mod-eq_of_lt (pow-lt h)

-- one mark more
pub marked_more : (x : Word) (v i m : ℕ) → i < 32 → ((j : ℕ) → j < 32 → digit 32 v j ≡ up_to i x j)
    → m ≡ (when x i then 2 ^ (31 - i) else 0)
    → (j : ℕ) → j < 32 → digit 32 (bit_or v m) j ≡ up_to (i + 1) x j
marked_more x v i m h d e j l =
    digit_or 32 v m j ∙ ap₂ ◌||◌ (d j l) (ap (λ z. digit 32 z j) e ∙ here (x i)) ∙ go (ℕ_discrete j i) (dec_lt j i)
  where
    here : (b : Bool) → digit 32 (when b then 2 ^ (31 - i) else 0) j ≡ (b && eqb j i)
    here true = let p : 31 - i ≡ 32 - suc i = omega arith in ap (λ z. digit 32 (2 ^ z) j) p ∙ digit_power 32 i j h l
    here false = digit_zero 32 j

    at : (b : Bool) → (b && true) ≡ b
    at true = refl
    at false = refl

    off : (b : Bool) → (b && false) ≡ false
    off true = refl
    off false = refl

    go : Dec (j ≡ i) → Dec (j < i) → ((ltb j i && x j) || (x i && eqb j i)) ≡ (ltb j (i + 1) && x j)
    go (yes q) r =
        ap₂ (λ a b. (a && x j) || (x i && b)) (le-ltb j i (omega arith)) (eq-eqb j i q) ∙ at (x i) ∙ ap x (sym q)
        ∙ ap (λ a. a && x j) (sym (lt-ltb j (i + 1) (omega arith)))
    go (no q) (yes r) =
        ap₂ (λ a b. (a && x j) || (x i && b)) (lt-ltb j i r) (ne_eqb j i q) ∙ ap (λ z. x j || z) (off (x i)) ∙ or-none (x j)
        ∙ ap (λ a. a && x j) (sym (lt-ltb j (i + 1) (omega arith)))
    go (no q) (no r) =
        ap₂ (λ a b. (a && x j) || (x i && b)) (le-ltb j i (omega (arith, lt_of_not-le r))) (ne_eqb j i q) ∙ off (x i)
        ∙ ap (λ a. a && x j) (sym (le-ltb j (i + 1) (omega (arith, lt_of_not-le r))))

-- two halves make a word: the first has 32 bits, or it is all
pub two_halves : (x : Word) (at m n u v : ℕ) → m ≤ 32 → (m < 32 → n ≡ m) → n ≤ 64 → m ≤ n → v < 2 ^ 32
    → ((i : ℕ) → i < 32 → digit 32 u i ≡ up_to m (from at x) i) → ((i : ℕ) → i < 32 → digit 32 v i ≡ up_to (n - m) (from (at + m) x) i)
    → Holds (bit_or ((u * 2 ^ 32) % 2 ^ 64) v) (up_to n (from at x))
two_halves x at m n u v m32 short n64 mn small du dv i l =
    place_or ((u * 2 ^ 32) % 2 ^ 64) v j ∙ ⊎_elim second first (le-or-lt 32 i)
  where
    j : ℕ
    j = 64 - suc i

    front : place ((u * 2 ^ 32) % 2 ^ 64) j ≡ place (u * 2 ^ 32) j
    front = place_cut (u * 2 ^ 32) 64 j (omega arith)

    under : i < 32 → Dec (m < 32) → ltb i m ≡ ltb i n
    under h (yes r) = ap (ltb i) (sym (short r))
    under h (no r) = lt-ltb i m (omega (arith, lt_of_not-le r)) ∙ sym (lt-ltb i n (omega (arith, lt_of_not-le r)))

    first : i < 32 → (place ((u * 2 ^ 32) % 2 ^ 64) j || place v j) ≡ up_to n (from at x) i
    first h =
        let e : j ≡ 32 + (32 - suc i) = omega arith in
        ap₂ ◌||◌ (front ∙ ap (place (u * 2 ^ 32)) e ∙ place_up u 32 (32 - suc i) ∙ du i h) (place_above v 32 j small (omega arith))
        ∙ or-none (up_to m (from at x) i) ∙ ap (λ b. b && x (at + i)) (under h (dec_lt m 32))

    second : 32 ≤ i → (place ((u * 2 ^ 32) % 2 ^ 64) j || place v j) ≡ up_to n (from at x) i
    second h =
        let k = i - 32 in
        let e : j ≡ 32 - suc k = omega arith in
        ap₂ ◌||◌ (front ∙ place_below u 32 j (omega arith)) (ap (place v) e ∙ dv k (omega arith)) ∙ go (dec_lt m 32)
      where
        go : Dec (m < 32) → up_to (n - m) (from (at + m) x) (i - 32) ≡ up_to n (from at x) i
        go (yes r) = ap (λ b. b && x (at + m + (i - 32))) (le-ltb (i - 32) (n - m) (omega (arith, short r)))
            ∙ sym (ap (λ b. b && x (at + i)) (le-ltb i n (omega (arith, short r))))
        go (no r) =
            let is : m ≡ 32 = omega (arith, lt_of_not-le r) in
            let p : at + m + (i - 32) ≡ at + i = omega (arith, is) in
            ap₂ (λ a b. a && x b) (same is) p
          where
            same : m ≡ 32 → ltb (i - 32) (n - m) ≡ ltb i n
            same is = by (dec_lt i n)
              where
                by : Dec (i < n) → ltb (i - 32) (n - m) ≡ ltb i n
                by (yes g) = lt-ltb (i - 32) (n - m) (omega (arith, is)) ∙ sym (lt-ltb i n g)
                by (no g) = le-ltb (i - 32) (n - m) (omega (arith, is, lt_of_not-le g)) ∙ sym (le-ltb i n (omega (arith, lt_of_not-le g)))

-- what holds of every number below a + b
pub below_more : (a b : ℕ) (f : ℕ → Bool) → below (a + b) f ≡ (below b (λ i. f (a + i)) && below a f)
below_more a zero f = ap (λ n. below n f) (add-zero a)
below_more a (suc b) f = ap (λ n. below n f) (add-suc a b) ∙ ap (λ z. f (a + b) && z) (below_more a b f)
    ∙ both (f (a + b)) (below b (λ i. f (a + i))) (below a f)
  where
    both : (p q r : Bool) → (p && (q && r)) ≡ ((p && q) && r)
    both true q r = refl
    both false q r = refl

-- 64 bits of which none is cut off
pub all_held : (x : Word) (at v : ℕ) → Holds v (up_to 64 (from at x)) → Holds v (from at x)
all_held x at v h i l = h i l ∙ ap (λ b. b && x (at + i)) (lt-ltb i 64 l)

-- nor where what is cut off is 0
pub rest_held : (x : Word) (at n v : ℕ) → ((i : ℕ) → at + n ≤ i → x i ≡ false) → Holds v (up_to n (from at x)) → Holds v (from at x)
rest_held x at n v none h i l = h i l ∙ ⊎_elim past before (le-or-lt n i)
  where
    before : i < n → up_to n (from at x) i ≡ x (at + i)
    before g = ap (λ b. b && x (at + i)) (lt-ltb i n g)

    past : n ≤ i → up_to n (from at x) i ≡ x (at + i)
    past g = ap (λ b. b && x (at + i)) (le-ltb i n g) ∙ sym (none (at + i) (omega arith))
