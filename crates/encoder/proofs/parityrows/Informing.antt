-- The information, block after block: what it adds to the rows, and which of its blocks are odd. Assumes nothing.
use mathlib.Core.Path.{◌≡◌, refl, sym, ap, ap₂, ◌∙◌, fun_ext}
use mathlib.Core.Bool.{Bool, true, false, ◌&&◌, and-false}
use mathlib.Core.Logic.{⊎_elim}
use mathlib.Core.List.{List}
use Prim.Native.Nat.{ℕ, zero, suc, ◌+◌, ◌-◌, ◌*◌, ◌≤◌, ◌<◌}
use native.Mathlib.Nat.{mul-le-mul_right}
use native.Mathlib.Omega.{arith}
use lib.Dec.{ltb}
use Rattle.bits.specs.Bits.{Word, tally, number, sum, over, ◌⊕◌, when◌then◌else◌}
use Rattle.bits.proofs.Orders.{le-or-lt}
use Rattle.bits.proofs.Sums.{⊕-false, sum_none, over_linear}
use Rattle.rules.specs.Codes.{code, offered}
use Rattle.rules.specs.Tables.{parity511}
use Rattle.vectors.specs.Vectors.{up_to, from, twice}
use Rattle.layout.specs.declared.Shape.{Shape}
use Rattle.layout.specs.Lent.{shifts_of, laid}
use Rattle.catalogue.specs.offer.Offers.{offer_of}
use Rattle.catalogue.specs.tables.Flat.{Lends, flat16, pairs}
use Rattle.catalogue.proofs.tables.Lending.{by_size_lem}
use Rattle.word.specs.ownparity.Odd.{odd_block}
use Rattle.syndromes.specs.Rows.{rowed, within, wide, spread, doubled, turned, summed}
use Rattle.syndromes.proofs.Bounds.{wide_some}
use Rattle.syndromes.proofs.Laid.{laid_summed}
use Rattle.syndromes.proofs.Trimming.{within_rowed}
use Rattle.encoder.specs.parityrows.Rows.{wide_shape}

-- what is false from k on adds nothing there
sum_short : (k n : ℕ) (f : ℕ → Bool) → k ≤ n → ((b : ℕ) → k ≤ b → f b ≡ false) → sum k f ≡ sum n f
unfolding sum
sum_short zero zero f h none = refl
sum_short (suc k) zero f h none = absurd (omega arith)
sum_short k (suc n) f h none = ⊎_elim
    (λ (l : k ≤ n). sum_short k n f l none ∙ sym (⊕-false (sum n f)) ∙ ap (λ z. sum n f ⊕ z) (sym (none n l)))
    (λ (l : n < k). same k (omega arith))
    (le-or-lt k n)
  where
    same : (k : ℕ) → k ≡ suc n → sum k f ≡ sum (suc n) f
    same k e = ap (λ z. sum z f) e

-- zeros twice over
zeros_twice : (M : ℕ) (y : Word) (i : ℕ) → ((n : ℕ) → y n ≡ false) → twice M (up_to M y) i ≡ false
zeros_twice M y i none = go (ltb i M)
  where
    cut : (n : ℕ) → up_to M y n ≡ false
    cut n = ap (λ z. ltb n M && z) (none n) ∙ and-false (ltb n M)

    go : (b : Bool) → (when b then up_to M y i else up_to M y (i - M)) ≡ false
    go true = cut i
    go false = cut (i - M)

module _ (sh : Shape) (h : List ℕ) (x : Word) (J : ℕ) (none : (i : ℕ) → J * sh.size ≤ i → x i ≡ false) where
  -- blocks of zeros add nothing
  nothing : (b r i : ℕ) → J ≤ b → spread sh h b (turned (doubled sh.size x b)) r i ≡ false
  nothing b r i l =
      ap (over (shifts_of sh h r b)) (fun_ext (λ s. zeros_twice sh.size (from (b * sh.size) x) (s + i)
      (λ n. none (b * sh.size + n) (omega (arith, mul-le-mul_right {m = J} {n = b} sh.size l)))))
      ∙ (over_linear (shifts_of sh h r b)).none

  pub summed_short : J ≤ sh.blocks → summed sh h x J ≡ summed sh h x sh.blocks
  summed_short l = fun_ext (λ r. fun_ext (λ i.
      sum_short J sh.blocks (λ b. spread sh h b (turned (doubled sh.size x b)) r i) l (λ b. nothing b r i)))

-- the parity blocks are zeros, which is even
pub odd_all : (x : Word) → ((i : ℕ) → 7154 ≤ i → x i ≡ false) → 4 * number 14 (odd_block x) ≡ number 16 (odd_block x)
unfolding number
odd_all x none =
    let even : (j : ℕ) → 14 ≤ j → odd_block x j ≡ false = λ j h. sum_none 511 (λ k. x (j * 511 + k)) (λ k l.
    none (j * 511 + k) (omega arith)) in
    let four : 4 * number 14 (odd_block x) ≡ 2 * (2 * number 14 (odd_block x) + 0) + 0 = omega arith in
    four
    ∙ ap₂ (λ a b. 2 * (2 * number 14 (odd_block x) + tally a) + tally b) (sym (even 14 (omega arith))) (sym (even 15 (omega arith)))

-- ---- the checks, by the information blocks alone

pub laid_informed : (n : ℕ) (sh : Shape) (h : List ℕ) (J : ℕ) (x : Word) → Lends n h sh → J ≤ sh.blocks
    → ((i : ℕ) → J * sh.size ≤ i → x i ≡ false)
    → within (wide sh) sh.size sh.rows (rowed (wide sh) sh.rows (summed sh h x J)) ≡ laid (code n) sh x
laid_informed n sh h J x lends l none =
    ap (λ f. within (wide sh) sh.size sh.rows (rowed (wide sh) sh.rows f)) (summed_short sh h x J none l)
    ∙ within_rowed (wide sh) sh.size sh.rows (wide_some h sh lends.fit) (summed sh h x sh.blocks)
    ∙ laid_summed h sh lends.fit (code n) lends.lent x

-- the near-Earth table, as it is lent
pub wide_lends : (n : ℕ) (h : List ℕ) → h ≡ flat16 (pairs parity511) → offered n ≡ true → wide_shape ≡ (offer_of n).shape
    → Lends n h wide_shape
wide_lends n h e off is = (by_size_lem 511 h wide_shape (record {
  small = λ z. absurd (omega arith);
  middle = λ z. absurd (omega arith);
  large = λ z. absurd (omega arith);
  near = λ z. (e, refl);
}) n off (ap (λ z. z.size) is)).1
