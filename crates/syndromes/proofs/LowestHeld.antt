-- The first bit of a syndrome that is set is its lowest broken check. Assumes nothing.
use mathlib.Core.Path.{◌≡◌, refl, sym, ap, ◌∙◌, subst}
use mathlib.Core.Bool.{Bool, true, false}
use mathlib.Core.Logic.{⊎_elim}
use mathlib.Core.List.{List}
use Prim.Native.Nat.{ℕ, ◌+◌, ◌*◌, ◌/◌, ◌%◌, ◌≤◌, ◌<◌}
use native.Mathlib.Nat.{mod-lt, div-add-mod', mul-le-mul_right}
use native.Mathlib.Omega.{arith}
use lib.Arith.{digits_lt}
use lib.Dec.{T, ltb, ltb→lt}
use Rattle.bits.specs.Bits.{Word, least}
use Rattle.bits.proofs.Sums.{and_l, and_r}
use Rattle.bits.proofs.Orders.{le-or-lt}
use Rattle.bits.proofs.Leasts.{least_found, least_none, least_holds, least_below}
use Rattle.rules.specs.Codes.{Code, checks}
use Rattle.rules.specs.Checks.{check, lowest}
use Rattle.layout.specs.declared.Shape.{Shape}
use Rattle.layout.specs.Lent.{Fit, Lent, laid}
use Rattle.layout.proofs.Laying.{laid_at}
use Rattle.syndromes.specs.Rows.{wide}

module _ (h : List ℕ) (sh : Shape) (fit : Fit h sh) (c : Code) (lent : Lent c h sh) (x : Word) where
  abbrev place : ℕ
  place = least 1024 (laid c sh x)

  -- check k, where it is held
  held_at : (k : ℕ) → k / sh.size < sh.rows → check c x k ≡ laid c sh x (64 * (k / sh.size * sh.words) + k % sh.size)
  held_at k l =
      ap (check c x) (sym (div-add-mod' k sh.size))
      ∙ sym (laid_at c sh x (k / sh.size) (k % sh.size) l (mod-lt k fit.some) fit.held)

  -- no check is broken that is held before the first bit
  not-before : (k : ℕ) → k / sh.size < sh.rows → 64 * (k / sh.size * sh.words) + k % sh.size < place → check c x k ≡ false
  not-before k l e = held_at k l ∙ least_below 1024 (laid c sh x) _ e

  pub lowest_none : 1024 ≤ place → sh.rows * sh.size ≡ lowest c x
  unfolding lowest
  lowest_none e =
      sym lent.checks_are
      ∙ sym (least_none (checks c) (check c x) (λ k l.
      let r : k / sh.size < sh.rows = below_rows k (omega (arith, lent.checks_are)) in
      not-before k r (omega (
        arith,
        fit.room,
        fit.held,
        mod-lt k fit.some,
        mul-le-mul_right {m = k / sh.size + 1} {n = sh.rows}
            sh.words (omega arith),
      ))))
    where
      below_rows : (k : ℕ) → k < sh.rows * sh.size → k / sh.size < sh.rows
      below_rows k l =
          ⊎_elim
          (λ (g : sh.rows ≤ k / sh.size). absurd
          (omega (arith, div-add-mod' k sh.size, mul-le-mul_right {m = sh.rows} {n = k / sh.size} sh.size g)))
          (λ (g : k / sh.size < sh.rows). g)
          (le-or-lt sh.rows (k / sh.size))

  module _ (inside : place < 1024) where
    abbrev row : ℕ
    row = place / wide sh

    abbrev column : ℕ
    column = place % wide sh

    is_set : T (laid c sh x place)
    is_set = subst T (sym (least_holds 1024 (laid c sh x) inside)) tt

    in_row : row < sh.rows
    unfolding laid
    in_row = ltb→lt row sh.rows (and_l (ltb row sh.rows) _ is_set)

    in_column : column < sh.size
    unfolding laid
    in_column = ltb→lt column sh.size (and_l (ltb column sh.size) _ (and_r (ltb row sh.rows) _ is_set))

    is_broken : check c x (row * sh.size + column) ≡ true
    unfolding laid
    is_broken = so (check c x (row * sh.size + column)) (and_r (ltb column sh.size) _ (and_r (ltb row sh.rows) _ is_set))
      where
        so : (b : Bool) → T b → b ≡ true
        so true t = refl
        so false t = absurd t

    before : (k : ℕ) → k < row * sh.size + column → check c x k ≡ false
    before k l =
        not-before k (omega (arith, up, in_row))
        (⊎_elim
        (λ (g : row ≤ k / sh.size).
        let e : k / sh.size ≡ row = omega (arith, up) in
        omega (arith, ap (λ z. z * sh.size) e, ap (λ z. z * sh.words) e, div-add-mod' k sh.size, div-add-mod' place (wide sh)))
        (λ (g : k / sh.size < row).
        omega (
          arith,
          fit.held,
          mod-lt k fit.some,
          div-add-mod' place (wide sh),
          mul-le-mul_right {m = k / sh.size + 1} {n = row}
              sh.words (omega (arith, g)),
        ))
        (le-or-lt row (k / sh.size)))
      where
        up : k / sh.size ≤ row
        up =
            ⊎_elim
            (λ (g : row + 1 ≤ k / sh.size).
            absurd (omega (arith, in_column, div-add-mod' k sh.size, mul-le-mul_right {m = row + 1} {n = k / sh.size} sh.size g)))
            (λ (g : k / sh.size < row + 1). omega arith)
            (le-or-lt (row + 1) (k / sh.size))

    pub lowest_found : row * sh.size + column ≡ lowest c x
    unfolding lowest
    lowest_found =
        sym (least_found (checks c) (check c x) (row * sh.size + column) (omega (arith, lent.checks_are, digits_lt in_row in_column))
        is_broken before)
