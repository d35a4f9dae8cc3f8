-- Sums modulo 2: what the linearity of the checks comes from.
use mathlib.Core.Path.{◌≡◌, refl, sym, ap, ap₂, ◌∙◌, fun_ext, subst}
use mathlib.Core.Bool.{Bool, true, false, not, ◌&&◌, and-false, and-true}
use mathlib.Core.List.{List, [], ◌∷◌}
use Prim.Native.Nat.{ℕ, zero, suc, ◌+◌, ◌%◌, ◌<◌, suc-le-suc}
use native.Mathlib.Nat.{not-suc-le-zero, lt-suc_self, le_step, add-zero, zero-add, add-suc, suc-add, mod-eq_of_lt, mod_self, mod-add-mod}
use native.Mathlib.Numerals.{add-one}
use native.Mathlib.Omega.{arith}
use native.Mathlib.Decide.{ℕ_discrete}
use lib.Dec.{T, eqb}
use lib.ListN.{get_or, length}
use borrow.Author.Tests.{eq-eqb, ne_eqb}
use Rattle.bits.specs.Bits.{◌⊕◌, sum, over, blocks, below}

-- ---- the field of two elements

pub ⊕-false : (a : Bool) → a ⊕ false ≡ a
⊕-false true = refl
⊕-false false = refl

pub ⊕-self : (a : Bool) → a ⊕ a ≡ false
⊕-self true = refl
⊕-self false = refl

pub ⊕-eq : (a b : Bool) → a ⊕ b ≡ false → a ≡ b
⊕-eq true true e = refl
⊕-eq true false e = e
⊕-eq false true e = sym e
⊕-eq false false e = refl

not-⊕ : (a b : Bool) → not a ⊕ b ≡ not (a ⊕ b)
not-⊕ true true = refl
not-⊕ true false = refl
not-⊕ false b = refl

pub ⊕-assoc : (a b c : Bool) → a ⊕ b ⊕ c ≡ a ⊕ (b ⊕ c)
⊕-assoc true b c = not-⊕ b c
⊕-assoc false b c = refl

pub ⊕-comm : (a b : Bool) → a ⊕ b ≡ b ⊕ a
⊕-comm true true = refl
⊕-comm true false = refl
⊕-comm false true = refl
⊕-comm false false = refl

pub ⊕-mid : (a b c d : Bool) → a ⊕ b ⊕ (c ⊕ d) ≡ a ⊕ c ⊕ (b ⊕ d)
⊕-mid a b c d = ⊕-assoc a b (c ⊕ d) ∙ ap (λ x. a ⊕ x) (sym (⊕-assoc b c d) ∙ ap (λ x. x ⊕ d) (⊕-comm b c) ∙ ⊕-assoc c b d)
    ∙ sym (⊕-assoc a c (b ⊕ d))

pub and-⊕ : (a b c : Bool) → (a && (b ⊕ c)) ≡ (a && b) ⊕ (a && c)
and-⊕ true b c = refl
and-⊕ false b c = refl

-- ---- linear forms: `sum n`, `over S` and `blocks P b` are three

pub record Linear {A : Type 0} (L : (A → Bool) → Bool) : Type 0 where
  pub none : L (λ a. false) ≡ false
  pub plus : (f g : A → Bool) → L (λ a. f a ⊕ g a) ≡ L f ⊕ L g

module _ {A : Type 0} (L : (A → Bool) → Bool) (lin : Linear L) where
  -- a linear form goes into a product
  pub into : (u : Bool) (f : A → Bool) → L (λ a. u && f a) ≡ (u && L f)
  into true f = refl
  into false f = lin.none

  -- a linear form and a sum change places
  pub swap : (n : ℕ) (f : A → ℕ → Bool) → L (λ a. sum n (f a)) ≡ sum n (λ i. L (λ a. f a i))
  unfolding sum
  swap zero f = lin.none
  swap (suc n) f = lin.plus (λ a. sum n (f a)) (λ a. f a n) ∙ ap (λ x. x ⊕ L (λ a. f a n)) (swap n f)

pub sum_linear : (n : ℕ) → Linear (sum n)
unfolding sum
sum_linear zero = record { none = refl; plus = λ f g. refl }
sum_linear (suc n) = record {
  none = ap (λ x. x ⊕ false) (sum_linear n).none;
  plus = λ f g. ap (λ x. x ⊕ (f n ⊕ g n)) ((sum_linear n).plus f g) ∙ ⊕-mid (sum n f) (sum n g) (f n) (g n);
}

pub over_linear : (S : List ℕ) → Linear (over S)
over_linear [] = record { none = refl; plus = λ f g. refl }
over_linear (s ∷ S) = record {
  none = (over_linear S).none;
  plus = λ f g. ap (λ x. f s ⊕ g s ⊕ x) ((over_linear S).plus f g) ∙ ⊕-mid (f s) (g s) (over S f) (over S g);
}

abbrev pub blocks' : List (List ℕ) → ℕ → (ℕ × ℕ → Bool) → Bool
blocks' P b f = blocks P b (λ c s. f (c, s))

pub blocks_linear : (P : List (List ℕ)) (b : ℕ) → Linear (blocks' P b)
blocks_linear [] b = record { none = refl; plus = λ f g. refl }
blocks_linear (S ∷ P) b = record {
  none = ap (λ x. x ⊕ blocks' P (suc b) (λ a. false)) (over_linear S).none ∙ (blocks_linear P (suc b)).none;
  plus = λ f g. ap₂ (λ x y. x ⊕ y) ((over_linear S).plus (λ s. f (b, s)) (λ s. g (b, s))) ((blocks_linear P (suc b)).plus f g)
      ∙ ⊕-mid (over S (λ s. f (b, s))) (over S (λ s. g (b, s))) (blocks' P (suc b) f) (blocks' P (suc b) g);
}

-- ---- sums below a bound

pub sum_same : (n : ℕ) (f g : ℕ → Bool) → ((i : ℕ) → i < n → f i ≡ g i) → sum n f ≡ sum n g
unfolding sum
sum_same zero f g h = refl
sum_same (suc n) f g h = ap₂ (λ x y. x ⊕ y) (sum_same n f g (λ i l. h i (le_step l))) (h n (lt-suc_self n))

pub sum_none : (n : ℕ) (f : ℕ → Bool) → ((i : ℕ) → i < n → f i ≡ false) → sum n f ≡ false
sum_none n f h = sum_same n f (λ i. false) h ∙ (sum_linear n).none

pub sum_front : (n : ℕ) (f : ℕ → Bool) → sum (suc n) f ≡ f 0 ⊕ sum n (λ i. f (suc i))
unfolding sum
sum_front zero f = sym (⊕-false (f 0))
sum_front (suc n) f = ap (λ x. x ⊕ f (suc n)) (sum_front n f) ∙ ⊕-assoc (f 0) (sum n (λ i. f (suc i))) (f (suc n))

-- ---- one term

pub eqb_iff : (a b c d : ℕ) → (a ≡ b → c ≡ d) → (c ≡ d → a ≡ b) → eqb a b ≡ eqb c d
eqb_iff a b c d f g = go (ℕ_discrete a b)
  where
    go : Dec (a ≡ b) → eqb a b ≡ eqb c d
    go (yes e) = eq-eqb a b e ∙ sym (eq-eqb c d (f e))
    go (no h) = ne_eqb a b h ∙ sym (ne_eqb c d (λ e. h (g e)))

pub pick : (n x : ℕ) (f : ℕ → Bool) → x < n → sum n (λ t. f t && eqb t x) ≡ f x
unfolding sum
pick zero x f h = absurd (not-suc-le-zero h)
pick (suc n) x f h = go (ℕ_discrete n x) (pick n x f)
  where
    go : Dec (n ≡ x) → (x < n → sum n (λ t. f t && eqb t x) ≡ f x) → sum n (λ t. f t && eqb t x) ⊕ (f n && eqb n x) ≡ f x
    go (yes e) ih =
        ap₂ (λ a b. a ⊕ b)
        (sum_none n (λ t. f t && eqb t x) (λ i l. ap (λ z. f i && z) (ne_eqb i x (λ q. omega arith)) ∙ and-false (f i)))
        (ap (λ z. f n && z) (eq-eqb n x e) ∙ and-true (f n))
        ∙ ap f e
    go (no d) ih =
        ap₂ (λ a b. a ⊕ b) (ih (omega arith)) (ap (λ z. f n && z) (ne_eqb n x d) ∙ and-false (f n))
        ∙ ⊕-false (f x)

-- ---- a sum around the cycle may start anywhere

turn_one : (m : ℕ) (f : ℕ → Bool) → sum (suc m) (λ i. f ((i + 1) % suc m)) ≡ sum (suc m) f
unfolding sum
turn_one m f =
    ap₂ (λ a b. a ⊕ b)
    (sum_same m (λ i. f ((i + 1) % suc m)) (λ i. f (suc i)) (λ i l. ap f (ap (λ x. x % suc m) (add-one i) ∙ mod-eq_of_lt (suc-le-suc l))))
    (ap f (ap (λ x. x % suc m) (add-one m) ∙ mod_self (suc m)))
    ∙ ⊕-comm (sum m (λ i. f (suc i))) (f 0) ∙ sym (sum_front m f)

pub turn : (m s : ℕ) (f : ℕ → Bool) → sum (suc m) (λ i. f ((i + s) % suc m)) ≡ sum (suc m) f
turn m zero f = sum_same (suc m) (λ i. f ((i + 0) % suc m)) f (λ i l. ap f (ap (λ x. x % suc m) (add-zero i) ∙ mod-eq_of_lt l))
turn m (suc s) f =
    ap (sum (suc m)) (fun_ext (λ i. ap f (ap (λ x. x % suc m) (omega arith) ∙ sym (mod-add-mod (i + 1) (suc m) s))))
    ∙ turn_one m (λ i. f ((i + s) % suc m)) ∙ turn m s f

-- ---- blocks by their numbers

pub blocks_sum : (P : List (List ℕ)) (b : ℕ) (f : ℕ → ℕ → Bool) → blocks P b f ≡ sum (length P) (λ c. over (get_or P c []) (f (b + c)))
unfolding sum
blocks_sum [] b f = refl
blocks_sum (S ∷ P) b f =
    ap₂ (λ x y. x ⊕ y) (ap (λ z. over S (f z)) (sym (add-zero b)))
    (blocks_sum P (suc b) f ∙ ap (sum (length P)) (fun_ext (λ c. ap (λ z. over (get_or P c []) (f z)) (suc-add b c ∙ sym (add-suc b c)))))
    ∙ sym (sum_front (length P) (λ c. over (get_or (S ∷ P) c []) (f (b + c))))

pub blocks_same : (P : List (List ℕ)) (f g : ℕ → ℕ → Bool) → ((c s : ℕ) → c < length P → f c s ≡ g c s) → blocks P 0 f ≡ blocks P 0 g
blocks_same P f g h =
    blocks_sum P 0 f
    ∙ sum_same (length P) (λ c. over (get_or P c []) (f (0 + c))) (λ c. over (get_or P c []) (g (0 + c)))
    (λ c l. ap (over (get_or P c [])) (fun_ext (λ s. h (0 + c) s (subst (λ z. z < length P) (sym (zero-add c)) l))))
    ∙ sym (blocks_sum P 0 g)

pub blocks_from : (P : List (List ℕ)) (j b : ℕ) (f : ℕ → ℕ → Bool) → blocks P (j + b) f ≡ blocks P b (λ c. f (j + c))
blocks_from [] j b f = refl
blocks_from (S ∷ P) j b f =
    ap (λ x. over S (f (j + b)) ⊕ x) (ap (λ z. blocks P z f) (sym (add-suc j b)) ∙ blocks_from P j (suc b) f)

-- ---- the tests

pub and_l : (a b : Bool) → T (a && b) → T a
and_l true b t = tt
and_l false b t = t

pub and_r : (a b : Bool) → T (a && b) → T b
and_r true b t = t
and_r false b t = absurd t

pub below_at : (n : ℕ) (f : ℕ → Bool) → T (below n f) → (i : ℕ) → i < n → T (f i)
below_at zero f t i h = absurd (not-suc-le-zero h)
below_at (suc n) f t i h = go (ℕ_discrete n i) (below_at n f (and_r (f n) (below n f) t) i)
  where
    go : Dec (n ≡ i) → (i < n → T (f i)) → T (f i)
    go (yes e) ih = subst (λ x. T (f x)) e (and_l (f n) (below n f) t)
    go (no d) ih = ih (omega arith)

pub not-true : (b : Bool) → T (not b) → b ≡ false
not-true true t = absurd t
not-true false t = refl
