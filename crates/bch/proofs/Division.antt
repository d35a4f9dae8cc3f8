-- Long division, coefficient by coefficient: it is linear, and its remainder has seven coefficients. Assumes nothing.
use mathlib.Core.Path.{◌≡◌, refl, sym, ap, ap₂, ◌∙◌, fun_ext}
use mathlib.Core.Bool.{Bool, true, false, ◌&&◌, true≢false}
use mathlib.Core.Logic.{⊎_elim}
use Prim.Native.Nat.{ℕ, zero, suc, ◌+◌, ◌*◌, ◌/◌, ◌%◌, ◌^◌, ◌≤◌, ◌<◌}
use native.Mathlib.Nat.{mul_comm, le_step, lt-suc_self}
use native.Mathlib.Numerals.{one-add}
use native.Mathlib.Omega.{arith}
use lib.Bits.{bit_xor, xor_lt}
use lib.Dec.{eqb, lit<}
use borrow.Author.Tests.{eq-eqb}
use Rattle.bits.specs.Bits.{Word, tally, ◌⊕◌, sum, when◌then◌else◌}
use Rattle.bits.proofs.Sums.{⊕-false, ⊕-mid, Linear, swap, into, pick, eqb_iff}
use Rattle.bits.proofs.Counting.{tally_le}
use Rattle.bits.proofs.Orders.{le-or-lt}
use Rattle.vectors.proofs.Places.{place, place_zero, place_xor, place-front, place_behind, tally_odd}
use Rattle.bch.specs.Bch.{generator, reduced, remainder}

-- ---- one step

tally_lt : (b : Bool) → tally b < 2 ^ 1
tally_lt b = omega (arith, tally_le b)

-- the next coefficient is brought down behind the others
brought_first : (r : ℕ) (b : Bool) → place (2 * r + tally b) 0 ≡ b
brought_first r b =
    ap (λ z. place (z + tally b) 0) (mul_comm 2 r) ∙ place_behind r (tally b) 1 (tally_lt b) 0 (lit< tt)
    ∙ ap (λ z. eqb (z % 2) 1) (unmoved (tally b)) ∙ tally_odd b
  where
    unmoved : (t : ℕ) → t / 1 ≡ t
    unmoved t = omega arith

brought_other : (r j : ℕ) (b : Bool) → place (2 * r + tally b) (suc j) ≡ place r j
brought_other r j b =
    ap₂ (λ y z. place (y + tally b) z) (mul_comm 2 r) (sym (one-add j)) ∙ place-front r (tally b) 1 (tally_lt b) j

-- the generator is taken away where x^7 stands
place_reduced : (p j : ℕ) → place (reduced p) j ≡ place p j ⊕ (place p 7 && place generator j)
unfolding reduced
place_reduced p j = go (place p 7)
  where
    go : (b : Bool) → place (when b then bit_xor p generator else p) j ≡ place p j ⊕ (b && place generator j)
    go true = place_xor p generator j
    go false = sym (⊕-false (place p j))

-- ---- linearity

plus_linear : (L M : (ℕ → Bool) → Bool) → Linear L → Linear M → Linear (λ x. L x ⊕ M x)
plus_linear L M l m = record {
  none = ap₂ (λ a b. a ⊕ b) l.none m.none;
  plus = λ f g. ap₂ (λ a b. a ⊕ b) (l.plus f g) (m.plus f g) ∙ ⊕-mid (L f) (L g) (M f) (M g);
}

part_linear : (L : (ℕ → Bool) → Bool) (b : Bool) → Linear L → Linear (λ x. L x && b)
part_linear L b l = record {
  none = ap (λ a. a && b) l.none;
  plus = λ f g. ap (λ a. a && b) (l.plus f g) ∙ shared (L f) (L g) b;
}
  where
    shared : (p q r : Bool) → ((p ⊕ q) && r) ≡ (p && r) ⊕ (q && r)
    shared true true true = refl
    shared true true false = refl
    shared true false true = refl
    shared true false false = refl
    shared false q r = refl

same_linear : (L M : (ℕ → Bool) → Bool) → ((x : Word) → L x ≡ M x) → Linear M → Linear L
same_linear L M e m = record {
  none = e (λ a. false) ∙ m.none;
  plus = λ f g. e (λ a. f a ⊕ g a) ∙ m.plus f g ∙ sym (ap₂ (λ a b. a ⊕ b) (e f) (e g));
}

abbrev brought : ℕ → Word → ℕ
brought n x = 2 * remainder n x + tally (x n)

pub remainder_linear : (n j : ℕ) → Linear (λ x. place (remainder n x) j)
unfolding remainder
remainder_linear zero j = record { none = place_zero j; plus = λ f g. place_zero j ∙ sym (ap (λ a. a ⊕ a) (place_zero j)) }
remainder_linear (suc n) j = step (remainder_linear n)
  where
    next : ((i : ℕ) → Linear (λ x. place (remainder n x) i)) → (i : ℕ) → Linear (λ x. place (brought n x) i)
    next ih zero = same_linear (λ x. place (brought n x) 0) (λ x. x n) (λ x. brought_first (remainder n x) (x n))
        (record { none = refl; plus = λ f g. refl })
    next ih (suc i) = same_linear (λ x. place (brought n x) (suc i)) (λ x. place (remainder n x) i)
        (λ x. brought_other (remainder n x) i (x n)) (ih i)

    step : ((i : ℕ) → Linear (λ x. place (remainder n x) i)) → Linear (λ x. place (reduced (brought n x)) j)
    step ih =
        same_linear (λ x. place (reduced (brought n x)) j) (λ x. place (brought n x) j ⊕ (place (brought n x) 7 && place generator j))
        (λ x. place_reduced (brought n x) j)
        (plus_linear (λ x. place (brought n x) j) (λ x. place (brought n x) 7 && place generator j) (next ih j)
        (part_linear (λ x. place (brought n x) 7) (place generator j) (next ih 7)))

-- only the first n bits are read
pub remainder_same : (n : ℕ) (x y : Word) → ((i : ℕ) → i < n → x i ≡ y i) → remainder n x ≡ remainder n y
unfolding remainder
remainder_same zero x y h = refl
remainder_same (suc n) x y h =
    ap₂ (λ a b. reduced (2 * a + tally b)) (remainder_same n x y (λ i l. h i (le_step l))) (h n (lt-suc_self n))

-- each coefficient is a sum over the bits, by what each bit alone leaves
pub remainder_sum : (n j : ℕ) (x : Word) → place (remainder n x) j ≡ sum n (λ i. x i && place (remainder n (λ k. eqb k i)) j)
remainder_sum n j x =
    ap (λ z. place z j) (remainder_same n x (λ a. sum n (λ i. x i && eqb i a)) (λ a l. sym (pick n a x l)))
    ∙ swap (λ z. place (remainder n z) j) (remainder_linear n j) n (λ a i. x i && eqb i a)
    ∙ ap (sum n) (fun_ext (λ i.
    into (λ z. place (remainder n z) j) (remainder_linear n j) (x i) (λ a. eqb i a)
    ∙ ap (λ z. x i && place (remainder n z) j) (fun_ext (λ a. eqb_iff i a a i sym sym))))

-- ---- seven coefficients

top_clear : (v : ℕ) → v < 2 ^ 8 → place v 7 ≡ false → v < 2 ^ 7
top_clear v h e = ⊎_elim set (λ l. l) (le-or-lt (2 ^ 7) v)
  where
    set : 2 ^ 7 ≤ v → v < 2 ^ 7
    set l =
        let one : v / 2 ^ 7 % 2 ≡ 1 = omega arith in
        absurd (true≢false (sym (eq-eqb (v / 2 ^ 7 % 2) 1 one) ∙ e))

reduced_lt : (p : ℕ) → p < 2 ^ 8 → reduced p < 2 ^ 7
unfolding reduced
reduced_lt p h = top_clear (reduced p) small (place_reduced p 7 ∙ gone (place p 7))
  where
    gone : (b : Bool) → b ⊕ (b && place generator 7) ≡ false
    gone true = refl
    gone false = refl

    small : reduced p < 2 ^ 8
    small = go (place p 7)
      where
        go : (b : Bool) → (when b then bit_xor p generator else p) < 2 ^ 8
        go true = xor_lt 8 p generator h (lit< tt)
        go false = h

pub remainder_lt : (n : ℕ) (x : Word) → remainder n x < 2 ^ 7
unfolding remainder
remainder_lt zero x = lit< tt
remainder_lt (suc n) x = reduced_lt (brought n x) (omega (arith, remainder_lt n x, tally_le (x n)))
