-- A group of checks is what its places add; and the lowest broken check by the groups. Assumes nothing.
use mathlib.Core.Path.{◌≡◌, refl, sym, ap, ap₂, ◌∙◌, subst}
use mathlib.Core.Bool.{Bool, true, false, ◌&&◌, true≢false}
use mathlib.Core.Logic.{⊎_elim}
use mathlib.Core.List.{List}
use Prim.Native.Nat.{ℕ, zero, suc, ◌+◌, ◌-◌, ◌*◌, ◌/◌, ◌%◌, ◌≤◌, ◌<◌}
use native.Mathlib.Nat.{mod-lt}
use native.Mathlib.Omega.{arith}
use lib.ListN.{get_or}
use lib.Arith.{digits_lt}
use borrow.Author.Tests.{lt-ltb, le-ltb}
use Rattle.bits.specs.Bits.{Word, digit, ◌⊕◌, sum, over}
use Rattle.bits.proofs.Orders.{le-or-lt}
use Rattle.bits.proofs.Octets.{digit_zero}
use Rattle.bits.proofs.Leasts.{least_found, least_none}
use Rattle.rules.specs.Codes.{Code, checks}
use Rattle.rules.specs.Checks.{check, lowest}
use Rattle.layout.specs.declared.Shape.{Shape}
use Rattle.layout.specs.Lent.{Lent, place_of, shifts_of}
use Rattle.syndromes.proofs.Shifts.{over_entries}
use Rattle.vectors.specs.Vectors.{Holds, up_to, from, twice}
use Rattle.vectors.proofs.Spans.{up_to_below, up_to_above, twice_turned}
use Rattle.vectors.proofs.Firsts.{First}
use Rattle.quick.specs.groups.Groups.{Has, reached, placed, group}

-- ---- one place

-- a number that is no shift adds nothing
pub reached_none : (m : ℕ) (x : Word) (p s i : ℕ) → m ≤ s → digit 64 0 i ≡ reached m x p s i
reached_none m x p s i l = digit_zero 64 i ∙ sym (ap (λ (b : Bool). b && x (p + (i + s) % m)) (le-ltb s m l))

pub reached_shift : (m : ℕ) (x : Word) (p s i : ℕ) → s < m → reached m x p s i ≡ x (p + (i + s) % m)
reached_shift m x p s i l = ap (λ (b : Bool). b && x (p + (i + s) % m)) (lt-ltb s m l)

-- a block twice over, read from bit s on
pub reached_twice : (m : ℕ) (x : Word) (p s i : ℕ) → s < m → i < m → twice m (up_to m (from p x)) (s + i) ≡ reached m x p s i
reached_twice m x p s i hs hi =
    twice_turned m s i (up_to m (from p x)) hs hi
    ∙ up_to_below m ((i + s) % m) (from p x) (mod-lt (i + s) (omega arith))
    ∙ sym (reached_shift m x p s i hs)

module _ (sh : Shape) (h : List ℕ) (x : Word) (r b : ℕ) where
  -- the two places of block b
  pub placed_first : placed sh h x r (2 * b) ≡ reached sh.size x (b * sh.size) (get_or h (place_of sh r b) sh.size)
  placed_first =
      let e : 2 * b / 2 ≡ b = omega arith in
      let f : 2 * (r * sh.blocks) + 2 * b ≡ place_of sh r b = omega arith in
      ap₂ (λ p q. reached sh.size x (p * sh.size) (get_or h q sh.size)) e f

  pub placed_second : placed sh h x r (1 + 2 * b) ≡ reached sh.size x (b * sh.size) (get_or h (place_of sh r b + 1) sh.size)
  placed_second =
      let e : (1 + 2 * b) / 2 ≡ b = omega arith in
      let f : 2 * (r * sh.blocks) + (1 + 2 * b) ≡ place_of sh r b + 1 = omega arith in
      ap₂ (λ p q. reached sh.size x (p * sh.size) (get_or h q sh.size)) e f

-- ---- the places so far

module _ (sh : Shape) (h : List ℕ) (x : Word) (r : ℕ) where
  pub group_none : (i : ℕ) → digit 64 0 i ≡ group sh h x r 0 i
  unfolding sum
  group_none i = digit_zero 64 i

  pub group_more : (k i : ℕ) → group sh h x r k i ⊕ placed sh h x r k i ≡ group sh h x r (k + 1) i
  unfolding sum
  group_more k i =
      let e : suc k ≡ k + 1 = omega arith in
      ap (λ z. group sh h x r z i) e

  xor_assoc : (a b d : Bool) → (a ⊕ b) ⊕ d ≡ a ⊕ (b ⊕ d)
  xor_assoc true true true = refl
  xor_assoc true true false = refl
  xor_assoc true false d = refl
  xor_assoc false b d = refl

  pub group_block : (b i : ℕ)
      → group sh h x r (2 * b) i ⊕ (placed sh h x r (2 * b) i ⊕ placed sh h x r (1 + 2 * b) i) ≡ group sh h x r (2 * (b + 1)) i
  group_block b i =
      let e : 1 + 2 * b ≡ 2 * b + 1 = omega arith in
      let f : 2 * b + 1 + 1 ≡ 2 * (b + 1) = omega arith in
      sym (xor_assoc (group sh h x r (2 * b) i) (placed sh h x r (2 * b) i) (placed sh h x r (1 + 2 * b) i))
      ∙ ap₂ ◌⊕◌ (group_more (2 * b) i) (ap (λ z. placed sh h x r z i) e)
      ∙ group_more (2 * b + 1) i
      ∙ ap (λ z. group sh h x r z i) f

  -- by blocks
  group_over : (i b : ℕ) → group sh h x r (2 * b) i ≡ sum b (λ b. over (shifts_of sh h r b) (λ s. x (b * sh.size + (i + s) % sh.size)))
  unfolding sum
  group_over i zero = refl
  group_over i (suc b) =
      let e : 2 * suc b ≡ 2 * (b + 1) = omega arith in
      ap (λ z. group sh h x r z i) e
      ∙ sym (group_block b i)
      ∙ ap₂ ◌⊕◌ (group_over i b)
      (ap₂ ◌⊕◌ (ap (λ (w : Word). w i) (placed_first sh h x r b)) (ap (λ (w : Word). w i) (placed_second sh h x r b))
      ∙ sym (over_entries sh.size h (place_of sh r b) (λ s. x (b * sh.size + (i + s) % sh.size))))

  -- all places of a row are its checks
  pub group_check : (c : Code) → Lent c h sh → r < sh.rows → (i : ℕ) → i < sh.size
      → group sh h x r (2 * sh.blocks) i ≡ check c x (r * sh.size + i)
  group_check c lent hr i hi = group_over i sh.blocks ∙ sym (lent.check_by x r i hr hi)

-- ---- the lowest broken check

module _ (sh : Shape) (h : List ℕ) (x : Word) (c : Code) (lent : Lent c h sh) (r : ℕ) (hr : r < sh.rows) where
  -- no check before row r is broken
  abbrev Met : ℕ → Type 0
  Met k = (j : ℕ) → j < k → check c x j ≡ false

  -- the first bit of a group that is set, among the first m
  pub group_found : (m v l : ℕ) → m ≤ sh.size → Has m v (group sh h x r (2 * sh.blocks))
      → l < m → digit 64 v l ≡ true → ((q : ℕ) → q < l → digit 64 v q ≡ false)
      → Met (r * sh.size) → r * sh.size + l ≡ lowest c x
  unfolding lowest
  group_found m v l hm has hl here clear met =
      sym (least_found (checks c) (check c x) (r * sh.size + l)
      (subst (λ k. r * sh.size + l < k) (sym lent.checks_are) (digits_lt hr (omega (arith, hm, hl))))
      (sym (has l hl ∙ group_check sh h x r c lent hr l (omega (arith, hm, hl))) ∙ here)
      (λ j g. ⊎_elim
      (λ (k : r * sh.size ≤ j).
      let d : j ≡ r * sh.size + (j - r * sh.size) = omega arith in
      ap (check c x) d
      ∙ sym (has (j - r * sh.size) (omega arith) ∙ group_check sh h x r c lent hr (j - r * sh.size) (omega arith))
      ∙ clear (j - r * sh.size) (omega arith))
      (λ (k : j < r * sh.size). met j k)
      (le-or-lt (r * sh.size) j)))

  -- a row without one
  pub row_met : (v : ℕ) → Has sh.size v (group sh h x r (2 * sh.blocks)) → ((q : ℕ) → q < sh.size → digit 64 v q ≡ false)
      → Met (r * sh.size) → Met ((r + 1) * sh.size)
  row_met v has clear met j g =
      let n : (r + 1) * sh.size ≡ r * sh.size + sh.size = omega arith in
      ⊎_elim
      (λ (k : r * sh.size ≤ j).
      let d : j ≡ r * sh.size + (j - r * sh.size) = omega arith in
      ap (check c x) d
      ∙ sym (has (j - r * sh.size) (omega (arith, n, g, k)) ∙ group_check sh h x r c lent hr (j - r * sh.size) (omega (arith, n, g, k)))
      ∙ clear (j - r * sh.size) (omega (arith, n, g, k)))
      (λ (k : j < r * sh.size). met j k)
      (le-or-lt (r * sh.size) j)

-- all rows without one
pub rows_met : (sh : Shape) (h : List ℕ) (x : Word) (c : Code) → Lent c h sh
    → ((j : ℕ) → j < sh.rows * sh.size → check c x j ≡ false) → sh.rows * sh.size ≡ lowest c x
unfolding lowest
rows_met sh h x c lent met =
    sym lent.checks_are ∙ sym (least_none (checks c) (check c x) (λ j g. met j (subst (λ k. j < k) lent.checks_are g)))

-- the first bit that is set of the first m bits
pub front_first : (m g v : ℕ) {l : ℕ} → m ≤ 64 → Holds v (up_to m (digit 64 g)) → First 64 v l
    → (l < m) × (digit 64 g l ≡ true) × ((q : ℕ) → q < l → digit 64 g q ≡ false)
front_first m g v {l} hm hv f =
    let inside : l < m = ⊎_elim
    (λ (k : m ≤ l). absurd (true≢false (sym f.here ∙ hv l f.inside ∙ up_to_above m l (digit 64 g) k)))
    (λ (k : l < m). k)
    (le-or-lt m l) in (
      inside,
      sym (hv l f.inside ∙ up_to_below m l (digit 64 g) inside) ∙ f.here,
      λ q hq. sym (hv q (omega (arith, f.inside, hq)) ∙ up_to_below m q (digit 64 g) (omega (arith, inside, hq))) ∙ f.clear q hq,
    )
