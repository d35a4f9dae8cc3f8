-- The second sequence comes again after 131,071 bits, and after no fewer: from its rule, by powers of x.
use mathlib.Core.Path.{◌≡◌, refl, sym, ap, ap₂, ◌∙◌, subst}
use mathlib.Core.Bool.{Bool, true, false, not, ◌&&◌}
use mathlib.Core.List.{List, [], ◌∷◌}
use Prim.Native.Nat.{ℕ, zero, suc, ◌+◌, ◌-◌, ◌*◌, ◌/◌, ◌%◌, ◌≤◌, ◌<◌}
use native.Mathlib.Nat.{suc-add, add_assoc, lt_of_not-le, div-add-mod', mod-lt, suc-mul, zero-mul}
use native.Mathlib.Nat.{mul_comm, mul-le-mul, mul-mod_left}
use borrow.Author.Tests.{eqb-false}
use native.Mathlib.Decide.{dec_lt}
use native.Mathlib.Omega.{arith}
use lib.Dec.{T, eqb}
use lib.ListN.{get_or, take}
use Rattle.bits.specs.Bits.{Word, below, ◌⊕◌}
use Rattle.bits.proofs.Sums.{⊕-assoc, ⊕-comm, ⊕-self, ⊕-false, and_l, and_r, not-true, below_at}
use Rattle.randomiser.specs.Randomiser.{register, sequence}
use Rattle.telemetry.specs.sequences.Telemetry.{second}
use Rattle.telemetry.proofs.sequences.Second.{second_next}

-- ---- sums of bits of a sequence, by coefficients from the bit at n on

abbrev times : Bool → Bool → Bool
times true x = x
times false x = false

abbrev eval : Word → List Bool → ℕ → Bool
eval s [] n = false
eval s (b ∷ bs) n = times b (s n) ⊕ eval s bs (suc n)

-- coefficients added; the second are as many or fewer
abbrev plus : List Bool → List Bool → List Bool
plus [] b = b
plus (x ∷ a) [] = x ∷ a
plus (x ∷ a) (y ∷ b) = (x ⊕ y) ∷ plus a b

abbrev scale : Bool → List Bool → List Bool
scale true a = a
scale false a = []

times_plus : (x y z : Bool) → times (x ⊕ y) z ≡ times x z ⊕ times y z
times_plus true true z = sym (⊕-self z)
times_plus true false z = sym (⊕-false z)
times_plus false y z = refl

swap : (a b c d : Bool) → (a ⊕ b) ⊕ (c ⊕ d) ≡ (a ⊕ c) ⊕ (b ⊕ d)
swap a b c d =
    ⊕-assoc a b (c ⊕ d) ∙ ap (λ z. a ⊕ z) (sym (⊕-assoc b c d) ∙ ap (λ z. z ⊕ d) (⊕-comm b c) ∙ ⊕-assoc c b d) ∙ sym (⊕-assoc a c (b ⊕ d))

module _ (s : Word) where
  eval_plus : (a b : List Bool) (n : ℕ) → eval s (plus a b) n ≡ eval s a n ⊕ eval s b n
  eval_plus [] b n = refl
  eval_plus (x ∷ a) [] n = sym (⊕-false (times x (s n) ⊕ eval s a (suc n)))
  eval_plus (x ∷ a) (y ∷ b) n =
      ap₂ (λ p q. p ⊕ q) (times_plus x y (s n)) (eval_plus a b (suc n))
      ∙ swap (times x (s n)) (times y (s n)) (eval s a (suc n)) (eval s b (suc n))

  eval_scale : (x : Bool) (a : List Bool) (n : ℕ) → eval s (scale x a) n ≡ times x (eval s a n)
  eval_scale true a n = refl
  eval_scale false a n = refl

-- the same coefficients, but for zeros at the end
abbrev alike : List Bool → List Bool → Bool
alike [] [] = true
alike [] (y ∷ b) = not y && alike [] b
alike (x ∷ a) [] = not x && alike a []
alike (x ∷ a) (y ∷ b) = not (x ⊕ y) && alike a b

-- a product
abbrev mul : List Bool → List Bool → List Bool
mul [] a = []
mul (b ∷ bs) a = plus (scale b a) (false ∷ mul bs a)

zero_times : (x z : Bool) → T (not x) → times x z ≡ false
zero_times true z t = absurd t
zero_times false z t = refl

equal : (x y : Bool) → T (not (x ⊕ y)) → x ≡ y
equal true true t = refl
equal true false t = absurd t
equal false true t = absurd t
equal false false t = refl

module _ (s : Word) where
  eval_alike : (a b : List Bool) → T (alike a b) → (n : ℕ) → eval s a n ≡ eval s b n
  eval_alike [] [] t n = refl
  eval_alike [] (y ∷ b) t n =
      sym (ap₂ (λ p q. p ⊕ q) (zero_times y (s n) (and_l (not y) (alike [] b) t))
      (sym (eval_alike [] b (and_r (not y) (alike [] b) t) (suc n))))
  eval_alike (x ∷ a) [] t n = ap₂ (λ p q. p ⊕ q) (zero_times x (s n) (and_l (not x) (alike a []) t))
      (eval_alike a [] (and_r (not x) (alike a []) t) (suc n))
  eval_alike (x ∷ a) (y ∷ b) t n =
      ap₂ (λ p q. times p (s n) ⊕ q) (equal x y (and_l (not (x ⊕ y)) (alike a b) t))
      (eval_alike a b (and_r (not (x ⊕ y)) (alike a b) t) (suc n))

  eval_mul : (b a : List Bool) (n : ℕ) → eval s (mul b a) n ≡ eval (eval s a) b n
  eval_mul [] a n = refl
  eval_mul (b ∷ bs) a n =
      eval_plus s (scale b a) (false ∷ mul bs a) n ∙ ap₂ (λ p q. p ⊕ q) (eval_scale s b a n) (eval_mul bs a (suc n))

  eval_same : (f : Word) → ((n : ℕ) → s n ≡ f n) → (a : List Bool) (n : ℕ) → eval s a n ≡ eval f a n
  eval_same f h [] n = refl
  eval_same f h (x ∷ a) n = ap₂ (λ p q. times x p ⊕ q) (h n) (eval_same f h a (suc n))

-- a sum of zeros
times_none : (x : Bool) → times x false ≡ false
times_none true = refl
times_none false = refl

eval_none : (a : List Bool) (n : ℕ) → eval (λ _. false) a n ≡ false
eval_none [] n = refl
eval_none (x ∷ a) n = ap₂ (λ p q. p ⊕ q) (times_none x) (eval_none a (suc n))

-- a sum of bits e places on
eval_shift : (s : Word) (a : List Bool) (n e : ℕ) → eval s a (n + e) ≡ eval (λ m. s (m + e)) a n
eval_shift s [] n e = refl
eval_shift s (x ∷ a) n e =
    ap (λ z. times x (s (n + e)) ⊕ z) (ap (eval s a) (sym (suc-add n e)) ∙ eval_shift s a (suc n) e)

-- ---- powers of x modulo the rule

-- x^17 + x^14 + 1
abbrev rule : List Bool
rule =
    true ∷ false ∷ false ∷ false ∷ false ∷ false ∷ false ∷ false ∷ false ∷ false ∷ false ∷ false ∷ false ∷ false ∷ true ∷ false ∷ false
    ∷ true ∷ []

-- Division by it, found by trial: what comes of it is tested, so nobody has to believe it.
pub record Divided : Type 0 where
  pub quotient : List Bool
  pub rest : List Bool

abbrev subtracted : Bool → List Bool → List Bool → Divided
subtracted true q r = record { quotient = true ∷ q; rest = take 17 (plus rule r) }
subtracted false q r = record { quotient = false ∷ q; rest = take 17 r }

abbrev divided : List Bool → Divided
divided [] = record { quotient = []; rest = [] }
divided (b ∷ a) = let d = divided a in subtracted (get_or (b ∷ d.rest) 17 false) d.quotient (b ∷ d.rest)

-- the square, divided
abbrev squared : List Bool → Divided
squared a = divided (mul a a)

abbrev tested : ℕ → List Bool → Bool
tested zero a = alike a (false ∷ true ∷ [])
tested (suc k) a = let d = squared a in alike (mul a a) (plus d.rest (mul d.quotient rule)) && tested k d.rest

-- x squared 17 times is x
squares : T (tested 17 (false ∷ true ∷ []))
squares = tt

-- the bit e places on is the sum of those that the coefficients name
Moves : Word → ℕ → List Bool → Type 0
Moves s e a = (n : ℕ) → s (n + e) ≡ eval s a n

module _ (s : Word) (lags : (n : ℕ) → s (n + 17) ≡ s (n + 14) ⊕ s n) where
  rule_none : (n : ℕ) → eval s rule n ≡ false
  rule_none n =
      let e : suc (suc (suc (suc (suc (suc (suc (suc (suc (suc (suc (suc (suc (suc n))))))))))))) ≡ n + 14 = omega arith in
      let e' : suc (suc (suc (suc (suc (suc (suc (suc (suc (suc (suc (suc (suc (suc (suc (suc (suc n))))))))))))))))
      ≡ n + 17 = omega arith in
      ap₂ (λ p q. s n ⊕ (s p ⊕ (s q ⊕ false))) e e'
      ∙ ap (λ z. s n ⊕ (s (n + 14) ⊕ (z ⊕ false))) (lags n)
      ∙ go (s n) (s (n + 14))
    where
      go : (a b : Bool) → a ⊕ (b ⊕ ((b ⊕ a) ⊕ false)) ≡ false
      go true true = refl
      go true false = refl
      go false true = refl
      go false false = refl

  multiple_none : (q : List Bool) (n : ℕ) → eval s (mul q rule) n ≡ false
  multiple_none q n = eval_mul s q rule n ∙ eval_same (eval s rule) (λ _. false) rule_none q n ∙ eval_none q n

  -- twice as far: the square
  moves_twice : (e : ℕ) (a q r : List Bool) → T (alike (mul a a) (plus r (mul q rule))) → Moves s e a → Moves s (e + e) r
  unfolding Moves
  moves_twice e a q r t h n =
      ap s (sym (add_assoc n e e)) ∙ h (n + e) ∙ eval_shift s a n e ∙ eval_same (λ m. s (m + e)) (eval s a) h a n
      ∙ sym (eval_mul s a a n) ∙ eval_alike s (mul a a) (plus r (mul q rule)) t n
      ∙ eval_plus s r (mul q rule) n ∙ ap (λ z. eval s r n ⊕ z) (multiple_none q n) ∙ ⊕-false (eval s r n)

  abbrev doubles : ℕ → ℕ → ℕ
  doubles zero e = e
  doubles (suc k) e = doubles k (e + e)

  moves_on : (k e : ℕ) (a : List Bool) → T (tested k a) → Moves s e a → (n : ℕ) → s (n + doubles k e) ≡ s (n + 1)
  unfolding Moves
  moves_on zero e a t h n =
      let q : suc n ≡ n + 1 = omega arith in
      h n ∙ eval_alike s a (false ∷ true ∷ []) t n ∙ ⊕-false (s (suc n)) ∙ ap s q
  moves_on (suc k) e a t h n =
      let d = squared a in
      let t1 = alike (mul a a) (plus d.rest (mul d.quotient rule)) in
      moves_on k (e + e) d.rest (and_r t1 (tested k d.rest) t) (moves_twice e a d.quotient d.rest
      (and_l t1 (tested k d.rest) t) h) n

  one : Moves s 1 (false ∷ true ∷ [])
  unfolding Moves
  one n = let q : n + 1 ≡ suc n = omega arith in ap s q ∙ sym (⊕-false (s (suc n)))

  far : (n : ℕ) → s (n + 131072) ≡ s (n + 1)
  far = moves_on 17 1 (false ∷ true ∷ []) squares one

  later : (n : ℕ) → s (n + 1 + 131071) ≡ s (n + 1)
  later n = let q : n + 1 + 131071 ≡ n + 131072 = omega arith in ap s q ∙ far n

  back : (n : ℕ) → s n ≡ s (n + 17) ⊕ s (n + 14)
  back n = sym (ap (λ z. z ⊕ s (n + 14)) (lags n) ∙ go (s (n + 14)) (s n))
    where
      go : (a b : Bool) → (a ⊕ b) ⊕ a ≡ b
      go true true = refl
      go true false = refl
      go false true = refl
      go false false = refl

  comes : (n : ℕ) → s (n + 131071) ≡ s n
  comes n =
      let e1 : n + 131071 + 17 ≡ n + 16 + 1 + 131071 = omega arith in
      let e2 : n + 16 + 1 ≡ n + 17 = omega arith in
      let e3 : n + 131071 + 14 ≡ n + 13 + 1 + 131071 = omega arith in
      let e4 : n + 13 + 1 ≡ n + 14 = omega arith in
      back (n + 131071) ∙ ap₂ (λ a b. a ⊕ b) (ap s e1 ∙ later (n + 16) ∙ ap s e2) (ap s e3 ∙ later (n + 13) ∙ ap s e4) ∙ sym (back n)

-- it comes again after 131,071 bits
pub second_period : (n : ℕ) → sequence second (n + 131071) ≡ sequence second n
second_period = comes (sequence second) second_next

-- ---- and after no fewer, since 131,071 is prime

-- no number from 2 to 362 divides it
undivided : T (below 361 (λ k. not (eqb (131071 % (k + 2)) 0)))
undivided = tt

small_factor : (p q : ℕ) → 2 ≤ p → p ≤ 362 → q * p ≡ 131071 → ⊥
small_factor p q two few e =
    let i = p - 2 in
    let w : i + 2 ≡ p = omega arith in
    let d : 131071 % p ≡ 0 = ap (λ z. z % p) (sym e) ∙ mul-mod_left q p in
    eqb-false (131071 % (i + 2)) 0 (not-true (eqb (131071 % (i + 2)) 0)
    (below_at 361 (λ k. not (eqb (131071 % (k + 2)) 0)) undivided i (omega arith)))
    (ap (λ z. 131071 % z) w ∙ d)

no_factor : (p q : ℕ) → 2 ≤ p → 2 ≤ q → q * p ≡ 131071 → ⊥
no_factor p q two two' e = go (dec_lt p 363) (dec_lt q 363)
  where
    go : Dec (p < 363) → Dec (q < 363) → ⊥
    go (yes h) d = small_factor p q two (omega arith) e
    go (no h) (yes h') = small_factor q p two' (omega arith) (mul_comm p q ∙ e)
    go (no h) (no h') =
        let a : 363 ≤ q = omega (arith, lt_of_not-le h') in
        let b : 363 ≤ p = omega (arith, lt_of_not-le h) in
        let m : 131769 ≤ q * p = mul-le-mul a b in absurd (omega (arith, e))

two_or_more : (q p : ℕ) → p < 131071 → q * p ≡ 131071 → 2 ≤ q
two_or_more zero p few e = absurd (omega (arith, zero-mul p, e))
two_or_more (suc zero) p few e = absurd (omega (arith, suc-mul 0 p, zero-mul p, e))
two_or_more (suc (suc q)) p few e = omega arith

module _ (s : Word) where
  Period : ℕ → Type 0
  Period p = (n : ℕ) → s (n + p) ≡ s n

  period_less : (p r k : ℕ) → Period p → Period (r + k * p) → Period r
  unfolding Period
  period_less p r zero h h' n = let e : n + r ≡ n + (r + zero * p) = omega arith in ap s e ∙ h' n
  period_less p r (suc k) h h' m =
      period_less p r k h (λ n.
      let e : n + (r + k * p) + p ≡ n + (r + suc k * p) = omega (arith, suc-mul k p) in
      sym (h (n + (r + k * p))) ∙ ap s e ∙ h' n) m

  least : (b p : ℕ) → p ≤ b → 0 < p → p < 131071 → Period 131071 → Period p → (Period 1 → ⊥) → ⊥
  unfolding Period
  least zero p h some few whole is not-one = absurd (omega arith)
  least (suc b) p h some few whole is not-one =
      let r = 131071 % p in
      let q = 131071 / p in
      let split : r + q * p ≡ 131071 = omega (arith, div-add-mod' 131071 p) in
      let small : r < p = mod-lt 131071 some in
      go split (dec_lt 0 r) (dec_lt 1 p) (λ l. least b r (omega arith) l (omega arith) whole
      (period_less p r q is (λ n. ap (λ z. s (n + z)) split ∙ whole n)) not-one)
    where
      go : 131071 % p + 131071 / p * p ≡ 131071 → Dec (0 < 131071 % p) → Dec (1 < p) → (0 < 131071 % p → ⊥) → ⊥
      go split (yes l) d again = again l
      go split (no l) (yes l') again =
          let none : 131071 % p ≡ 0 = omega (arith, lt_of_not-le l) in
          let e : 131071 / p * p ≡ 131071 = omega (arith, split, none) in
          no_factor p (131071 / p) l' (two_or_more (131071 / p) p few e) e
      go split (no l) (no l') again =
          let e : p ≡ 1 = omega (arith, lt_of_not-le l') in
          not-one (λ n. ap (λ z. s (n + z)) (sym e) ∙ is n)

pub second_least : (p : ℕ) → 0 < p → p < 131071 → ((n : ℕ) → sequence second (n + p) ≡ sequence second n) → ⊥
unfolding Period register second
second_least p some few is = least (sequence second) p p (omega arith) some few second_period is (λ one. subst T (one 2) tt)
