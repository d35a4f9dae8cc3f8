-- Powers of x modulo the generator: none but the zero polynomial comes to zero, and below 4,096 none comes back to 1.
use mathlib.Core.Path.{◌≡◌, refl, sym, ap, ap₂, ◌∙◌, subst}
use mathlib.Core.Bool.{Bool, true, false, not, ◌&&◌}
use mathlib.Core.List.{List, [], ◌∷◌, ◌++◌, append-nil, append_assoc}
use mathlib.Core.Logic.{⊎_elim}
use Prim.Native.Nat.{ℕ, zero, suc, ◌+◌, ◌-◌, ◌≤◌, ◌<◌}
use native.Mathlib.Nat.{not-suc-le-zero, suc-add, zero-add}
use native.Mathlib.Omega.{arith}
use lib.Dec.{T, eqb, lit<}
use lib.Seq.{take_at, get_or_at}
use borrow.Author.Tests.{ne_eqb}
use Rattle.bits.proofs.Orders.{le-or-lt}
use lib.ListN.{length, get_or, take, get_or-replicate, length-append}
use Rattle.bits.specs.Bits.{Word, ◌⊕◌}
use Rattle.bits.proofs.Sums.{⊕-eq, below_at, and_l, and_r, not-true, eqb_iff}
use Rattle.blocks.specs.framecheck.FrameCheck.{coefficients, plus, generator, remainder}
use Rattle.blocks.proofs.framecheck.Polynomials.{zeros, plus_longer, plus_front, plus_equal, plus_append, length_coefficients}
use Rattle.blocks.proofs.framecheck.Polynomials.{coefficients_plus, coefficients_append, coefficients_same}
use Rattle.blocks.proofs.framecheck.Polynomials.{coefficients_zeros, coefficient}
use Rattle.blocks.proofs.framecheck.Division.{remainder_plus, length_remainder}

-- A remainder times x, divided again.
abbrev pub moved : List Bool → List Bool
moved r = remainder 1 (r ++ (false ∷ []))

pub moves : ℕ → List Bool → List Bool
moves zero r = r
moves (suc n) r = moves n (moved r)

pub length_moved : (r : List Bool) → length r ≡ 16 → length (moved r) ≡ 16
length_moved r e = length_remainder 1 16 (r ++ (false ∷ [])) (lit< tt) (length-append r (false ∷ []) ∙ omega arith)

pub length_moves : (n : ℕ) (r : List Bool) → length r ≡ 16 → length (moves n r) ≡ 16
unfolding moves
length_moves zero r e = e
length_moves (suc n) r e = length_moves n (moved r) (length_moved r e)

-- dividing zeros behind a remainder moves it once for each
pub moves_divide : (n : ℕ) (r : List Bool) → length r ≡ 16 → remainder n (r ++ zeros n) ≡ moves n r
unfolding remainder moves
moves_divide zero r e = append-nil r
moves_divide (suc n) [] e = absurd (omega arith)
moves_divide (suc n) (false ∷ r) e =
    ap (remainder n) (sym (append_assoc r (false ∷ []) (zeros n)))
    ∙ moves_divide n (r ++ (false ∷ [])) (length-append r (false ∷ []) ∙ omega arith)
moves_divide (suc n) (true ∷ r) e =
    ap (remainder n)
    (ap (plus generator) (sym (append_assoc r (false ∷ []) (zeros n)))
    ∙ plus_front generator (r ++ (false ∷ [])) (zeros n) (omega (arith, long)))
    ∙ moves_divide n (plus generator (r ++ (false ∷ []))) (plus_longer generator (r ++ (false ∷ [])) (omega (arith, long)) ∙ long)
  where
    long : length (r ++ (false ∷ [])) ≡ 16
    long = length-append r (false ∷ []) ∙ omega arith

moved_plus : (r s : List Bool) → length r ≡ 16 → length s ≡ 16 → moved (plus r s) ≡ plus (moved r) (moved s)
unfolding plus
moved_plus r s e f =
    ap (remainder 1) (sym (plus_append r (false ∷ []) s (false ∷ []) (e ∙ sym f)))
    ∙ remainder_plus 1 (r ++ (false ∷ [])) (s ++ (false ∷ [])) (omega (arith, length-append r (false ∷ [])))
    (omega (arith, length-append s (false ∷ [])))

pub moves_plus : (n : ℕ) (r s : List Bool) → length r ≡ 16 → length s ≡ 16 → moves n (plus r s) ≡ plus (moves n r) (moves n s)
unfolding moves
moves_plus zero r s e f = refl
moves_plus (suc n) r s e f = ap (moves n) (moved_plus r s e f) ∙ moves_plus n (moved r) (moved s) (length_moved r e) (length_moved s f)

-- x divides no generator that ends in 1: what moves to zero is zero
moved_zero : (r : List Bool) → length r ≡ 16 → moved r ≡ zeros 16 → r ≡ zeros 16
unfolding remainder
moved_zero [] e z = absurd (omega arith)
moved_zero (false ∷ t) e z = ap (λ l. false ∷ l) (sym (take_at t (false ∷ []) 15 (omega arith)) ∙ ap (take 15) z)
moved_zero (true ∷ t) e z =
    absurd
    (subst T
    (ap (λ l. get_or l 15 false) (plus_equal generator (t ++ (false ∷ [])) (sym (length-append t (false ∷ []) ∙ omega arith)) z)
    ∙ get_or_at t false [] false 15 (omega arith))
    tt)

pub moves_zero : (n : ℕ) (r : List Bool) → length r ≡ 16 → moves n r ≡ zeros 16 → r ≡ zeros 16
unfolding moves
moves_zero zero r e z = z
moves_zero (suc n) r e z = moved_zero r e (moves_zero n (moved r) (length_moved r e) z)

-- ---- the powers of x

one : List Bool
one = zeros 15 ++ (true ∷ [])

pub power : ℕ → List Bool
power e = moves e one

moves_add : (m n : ℕ) (r : List Bool) → moves (m + n) r ≡ moves n (moves m r)
unfolding moves
moves_add zero n r = ap (λ z. moves z r) (zero-add n)
moves_add (suc m) n r = ap (λ z. moves z r) (suc-add m n) ∙ moves_add m n (moved r)

same : List Bool → List Bool → Bool
same [] [] = true
same [] (b ∷ q) = false
same (a ∷ p) [] = false
same (a ∷ p) (b ∷ q) = not (a ⊕ b) && same p q

same_eq : (p q : List Bool) → T (same p q) → p ≡ q
unfolding same
same_eq [] [] t = refl
same_eq [] (b ∷ q) t = absurd t
same_eq (a ∷ p) [] t = absurd t
same_eq (a ∷ p) (b ∷ q) t =
    ap₂ (λ x y. x ∷ y) (⊕-eq a b (not-true (a ⊕ b) (and_l (not (a ⊕ b)) (same p q) t))) (same_eq p q (and_r (not (a ⊕ b)) (same p q) t))

same_self : (p : List Bool) → T (same p p)
unfolding same
same_self [] = tt
same_self (true ∷ p) = same_self p
same_self (false ∷ p) = same_self p

-- whether none of the next n moves of r is 1
apart : ℕ → List Bool → Bool
apart zero r = true
apart (suc n) r = not (same r one) && apart n (moved r)

order : T (apart 4095 (moved one))
unfolding apart same one remainder plus
order = tt

apart_at : (n : ℕ) (r : List Bool) → T (apart n r) → (d : ℕ) → d < n → same (moves d r) one ≡ false
unfolding apart moves
apart_at zero r t d h = absurd (not-suc-le-zero h)
apart_at (suc n) r t zero h = not-true (same r one) (and_l (not (same r one)) (apart n (moved r)) t)
apart_at (suc n) r t (suc d) h = apart_at n (moved r) (and_r (not (same r one)) (apart n (moved r)) t) d (omega arith)

-- ---- one coefficient alone

low : ℕ → Bool
low i = same (coefficients 16 (λ k. eqb k i)) (power (15 - i))

pub single : (n i : ℕ) → i < n + 16 → remainder n (coefficients (n + 16) (λ k. eqb k i)) ≡ power (n + 15 - i)
unfolding remainder coefficients plus low power one moves same
single zero i h = same_eq (coefficients 16 (λ k. eqb k i)) (power (15 - i)) (below_at 16 low tt i h)
single (suc n) zero h =
    ap (λ z. remainder (suc n) (coefficients z (λ k. eqb k 0))) more
    ∙ ap (remainder (suc n))
    (coefficients_append 16 (suc n) (λ k. eqb k 0)
    ∙ ap (λ l. (true ∷ zeros 15) ++ l)
    (coefficients_same (suc n) (λ k. eqb (16 + k) 0) (λ k. false) (λ k l. ne_eqb (16 + k) 0 (λ e. omega arith))
    ∙ coefficients_zeros (suc n)))
    ∙ moves_divide (suc n) (true ∷ zeros 15) refl
    ∙ sym (moves_add 15 (suc n) one)
    ∙ ap power places
  where
    more : suc n + 16 ≡ 16 + suc n
    more = omega arith

    places : 15 + suc n ≡ suc n + 15 - 0
    places = omega arith
single (suc n) (suc i) h =
    ap (λ z. remainder (suc n) (coefficients z (λ k. eqb k (suc i)))) (suc-add n 16)
    ∙ ap (remainder (suc n))
    (ap₂ (λ a l. a ∷ l) (ne_eqb 0 (suc i) (λ e. omega arith))
    (coefficients_same (n + 16) (λ k. eqb (suc k) (suc i)) (λ k. eqb k i)
    (λ k l. eqb_iff (suc k) (suc i) k i (λ e. omega arith) (λ e. omega arith))))
    ∙ single n i (omega arith)
    ∙ ap power places
  where
    places : n + 15 - i ≡ suc n + 15 - suc i
    places = omega arith

-- ---- what is left of a burst, and of two coefficients

-- coefficients that lie within 16 places and are divided to zero are all zero
pub burst : (n : ℕ) (e : Word) (a : ℕ) → ((k : ℕ) → k < a → e k ≡ false) → ((k : ℕ) → a + 16 ≤ k → e k ≡ false)
    → remainder n (coefficients (n + 16) e) ≡ zeros 16 → (k : ℕ) → k < n + 16 → e k ≡ false
unfolding remainder coefficients
burst zero e a before behind z k h = sym (coefficient 16 e k h) ∙ ap (λ l. get_or l k false) z ∙ get_or-replicate 16 k false false h
burst (suc n) e zero before behind z k h = ⊎_elim past within (le-or-lt 16 k)
  where
    past : 16 ≤ k → e k ≡ false
    past l = behind k (omega arith)

    more : suc n + 16 ≡ 16 + suc n
    more = omega arith

    split : coefficients (suc n + 16) e ≡ coefficients 16 e ++ zeros (suc n)
    split =
        ap (λ m. coefficients m e) more ∙ coefficients_append 16 (suc n) e
        ∙ ap (λ l. coefficients 16 e ++ l) (coefficients_same (suc n) (λ i. e (16 + i)) (λ i. false)
        (λ i l. behind (16 + i) (omega arith)) ∙ coefficients_zeros (suc n))

    none : coefficients 16 e ≡ zeros 16
    none =
        moves_zero (suc n) (coefficients 16 e) (length_coefficients 16 e)
        (sym (moves_divide (suc n) (coefficients 16 e) (length_coefficients 16 e)) ∙ ap (remainder (suc n)) (sym split) ∙ z)

    within : k < 16 → e k ≡ false
    within l = sym (coefficient 16 e k l) ∙ ap (λ p. get_or p k false) none ∙ get_or-replicate 16 k false false l
burst (suc n) e (suc a) before behind z k h =
    at (burst n (λ i. e (suc i)) a (λ i l. before (suc i) (omega arith)) (λ i l. behind (suc i) (omega arith))
    (ap (remainder (suc n)) (sym split) ∙ z)) k h
  where
    head : e 0 ≡ false
    head = before 0 (omega arith)

    split : coefficients (suc n + 16) e ≡ false ∷ coefficients (n + 16) (λ i. e (suc i))
    split = ap (λ m. coefficients m e) (suc-add n 16) ∙ ap (λ b. b ∷ coefficients (n + 16) (λ i. e (suc i))) head

    at : ((j : ℕ) → j < n + 16 → e (suc j) ≡ false) → (j : ℕ) → j < suc n + 16 → e j ≡ false
    at rest zero l = head
    at rest (suc j) l = rest j (omega arith)

-- two places of 4,096 or fewer are never divided to zero
pub two : (n i j : ℕ) → n + 16 ≤ 4096 → i < j → j < n + 16 → remainder n (coefficients (n + 16) (λ k. eqb k i ⊕ eqb k j)) ≡ zeros 16 → ⊥
unfolding power one moves
two n i j small h l z = absurd (subst T (apart_at 4095 (moved one) order (d - 1) (omega arith))
    (subst (λ r. T (same r one)) (sym back ∙ ap power first) (same_self one)))
  where
    d : ℕ
    d = j - i

    e : ℕ
    e = n + 15 - j

    apartness : n + 15 - i ≡ d + e
    apartness = omega arith

    first : d ≡ suc (d - 1)
    first = omega arith

    sum : plus (power (d + e)) (power e) ≡ zeros 16
    sum =
        ap₂ plus (ap power (sym apartness) ∙ sym (single n i (omega arith))) (sym (single n j l))
        ∙ sym (remainder_plus n (coefficients (n + 16) (λ k. eqb k i)) (coefficients (n + 16) (λ k. eqb k j))
        (omega (arith, length_coefficients (n + 16) (λ k. eqb k i))) (omega (arith, length_coefficients (n + 16) (λ k. eqb k j))))
        ∙ ap (remainder n) (sym (coefficients_plus (n + 16) (λ k. eqb k i) (λ k. eqb k j)))
        ∙ z

    long : length (power d) ≡ 16
    long = length_moves d one refl

    moved_back : moves e (plus (power d) one) ≡ zeros 16
    moved_back = moves_plus e (power d) one long refl ∙ ap (λ r. plus r (power e)) (sym (moves_add d e one)) ∙ sum

    none : plus (power d) one ≡ zeros 16
    none = moves_zero e (plus (power d) one) (plus_longer (power d) one (omega (arith, long))) moved_back

    back : power d ≡ one
    back = plus_equal (power d) one long (none ∙ ap zeros (sym long))
