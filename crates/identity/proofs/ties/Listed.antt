-- The things of a flat table, listed by `pieces`.
use mathlib.Core.Path.{◌≡◌, refl, sym, ap, ap₂, ◌∙◌}
use mathlib.Core.Bool.{Bool, true, false, not, ◌&&◌, beq}
use mathlib.Core.List.{List, [], ◌∷◌}
use Prim.Native.Nat.{ℕ, zero, suc, ◌+◌, ◌-◌, ◌*◌, ◌≤◌, ◌<◌}
use native.Mathlib.Nat.{suc-mul, mul-le-mul_right}
use native.Mathlib.Omega.{arith}
use borrow.Author.Tests.{not-true, not-false}
use lib.ListN.{length, get_or, drop}
use Rattle.bits.specs.Bits.{◌⊕◌, over, blocks, below}
use Rattle.identity.specs.ties.Flat.{pieces}
use Rattle.identity.proofs.ties.Sums.{xor_is, ⊕-assoc}

-- The room that another one of a size needs.
pub more_fits : {p n : ℕ} (size : ℕ) → p < n → p * size + size ≤ n * size
more_fits {p} {n} size h = omega (arith, suc-mul p size, mul-le-mul_right size h)

module _ {A : Type 0} (f : ℕ → A) (step : ℕ) where
  pub pieces_length : (at n : ℕ) → length (pieces f step at n) ≡ n
  unfolding pieces
  pieces_length at zero = refl
  pieces_length at (suc n) = ap suc (pieces_length (at + step) n)

  pub pieces_drop : (k at n : ℕ) → k ≤ n → drop k (pieces f step at n) ≡ pieces f step (at + k * step) (n - k)
  unfolding pieces
  pieces_drop zero at n h =
      let e : at ≡ at + 0 * step = omega arith in
      let l : n ≡ n - 0 = omega arith in
      ap₂ (λ (x y : ℕ). pieces f step x y) e l
  pieces_drop (suc k) at zero h = absurd (omega arith)
  pieces_drop (suc k) at (suc n) h =
      let e : at + step + k * step ≡ at + suc k * step = omega (arith, suc-mul k step) in
      let l : n - k ≡ suc n - suc k = omega arith in
      pieces_drop k (at + step) n (omega arith) ∙ ap₂ (λ (x y : ℕ). pieces f step x y) e l

  pub pieces_at : (i at n : ℕ) (d : A) → i < n → get_or (pieces f step at n) i d ≡ f (at + i * step)
  unfolding pieces
  pieces_at i at zero d h = absurd (omega arith)
  pieces_at zero at (suc n) d h = ap f (omega arith)
  pieces_at (suc i) at (suc n) d h = pieces_at i (at + step) n d (omega arith) ∙ ap f (omega (arith, suc-mul i step))

  -- One more in front, where some are left.
  pub pieces_more : (at n : ℕ) → 0 < n → pieces f step at n ≡ f at ∷ pieces f step (at + step) (n - 1)
  unfolding pieces
  pieces_more at zero h = absurd (omega arith)
  pieces_more at (suc n) h =
      let e : n ≡ suc n - 1 = omega arith in
      ap (λ (x : ℕ). f at ∷ pieces f step (at + step) x) e

  -- The k-th and those behind it: it stands at p, the next at q.
  pub pieces_next : (k n p q : ℕ) → k < n → q ≡ p + step → pieces f step p (n - k) ≡ f p ∷ pieces f step q (n - (k + 1))
  pieces_next k n p q h e =
      let l : n - k - 1 ≡ n - (k + 1) = omega arith in
      pieces_more p (n - k) (omega arith) ∙ ap₂ (λ (x y : ℕ). f p ∷ pieces f step x y) (sym e) l

  pub pieces_start : (at n p : ℕ) → p ≡ at → pieces f step at n ≡ pieces f step p (n - 0)
  pieces_start at n p e =
      let l : n ≡ n - 0 = omega arith in
      ap₂ (λ (x y : ℕ). pieces f step x y) (sym e) l

  pub pieces_none : (at n : ℕ) → n ≤ 0 → pieces f step at n ≡ []
  unfolding pieces
  pieces_none at zero h = refl
  pieces_none at (suc n) h = absurd (omega arith)

-- The sum over blocks that are listed so: one block more.
pub blocks_step : (B : ℕ → List ℕ) (step at n p : ℕ) (f : ℕ → ℕ → Bool) (sum : Bool) {b : Bool} → 0 < n → b ≡ over (B at) (f p)
    → not (beq sum b) ⊕ blocks (pieces B step (at + step) (n - 1)) (suc p) f ≡ sum ⊕ blocks (pieces B step at n) p f
blocks_step B step at n p f sum {b} h e =
    let rest = blocks (pieces B step (at + step) (n - 1)) (suc p) f in
    ap (λ (x : Bool). x ⊕ rest) (xor_is sum b ∙ ap (λ (x : Bool). sum ⊕ x) e)
    ∙ ⊕-assoc sum (over (B at) (f p)) rest
    ∙ ap (λ (l : List (List ℕ)). sum ⊕ blocks l p f) (sym (pieces_more B step at n h))

-- Loops that leave at the first failure: what is to be decided is one test and the rest, and the rest is what is left.
module _ {whole now test r : Bool} (next : Bool) (inv : whole ≡ now) (step : now ≡ (test && next)) (e : r ≡ test) where
  pub stops : not r ≡ true → false ≡ whole
  stops h = sym (inv ∙ step ∙ ap (λ (x : Bool). x && next) (sym e ∙ not-true r h))

  pub goes_on : not r ≡ false → whole ≡ next
  goes_on h = inv ∙ step ∙ ap (λ (x : Bool). x && next) (sym e ∙ not-false r h)

pub below_step : (n : ℕ) (f : ℕ → Bool) → 0 < n → below n f ≡ (f (n - 1) && below (n - 1) f)
below_step zero f h = absurd (omega arith)
below_step (suc n) f h =
    let e : n ≡ suc n - 1 = omega arith in
    ap (λ (x : ℕ). f x && below x f) e

pub below_none : (n : ℕ) (f : ℕ → Bool) → n ≤ 0 → true ≡ below n f
below_none zero f h = refl
below_none (suc n) f h = absurd (omega arith)
