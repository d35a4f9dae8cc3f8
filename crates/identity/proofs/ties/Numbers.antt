-- The bits of a number of several words.
use mathlib.Core.Path.{◌≡◌, sym, ap, ◌∙◌}
use mathlib.Core.Logic.{⊎_elim}
use mathlib.Core.List.{List}
use Prim.Native.Nat.{ℕ, zero, suc, ◌+◌, ◌-◌, ◌*◌, ◌/◌, ◌%◌, ◌^◌, ◌≤◌, ◌<◌}
use native.Mathlib.Nat.{mul_assoc, add_comm, add-mul-div_right, mul-add-mod_self_right, pow-suc, div-eq_of_lt, div-lt_iff_lt-mul, zero-mul}
use native.Mathlib.Nat.{zero-add, add-zero}
use native.Mathlib.Omega.{arith}
use lib.Pow.{pow_pos, pow-add, shr-shr, high}
use lib.Dec.{eqb, ltb}
use lib.ListN.{get_or}
use borrow.Author.Tests.{eq-eqb, ne_eqb, lt-ltb, le-ltb}
use Rattle.bits.proofs.Orders.{le-or-lt}
use Rattle.identity.specs.ties.Flat.{joined}

-- The places of the last word do not see the words in front of it; the others do not see the last word.
last_word : (x y k : ℕ) → k < 64 → (x * 2 ^ 64 + y) / 2 ^ k % 2 ≡ y / 2 ^ k % 2
last_word x y k h =
    let j = 63 - k in
    let whole : 64 ≡ suc j + k = omega arith in
    let e : 2 ^ 64 ≡ 2 ^ j * 2 * 2 ^ k =
    ap (λ (n : ℕ). 2 ^ n) whole ∙ pow-add 2 (suc j) k ∙ ap (λ (n : ℕ). n * 2 ^ k) (pow-suc 2 j) in
    ap (λ (n : ℕ). (x * n + y) / 2 ^ k % 2) e
    ∙ ap (λ (n : ℕ). n / 2 ^ k % 2) (ap (λ (n : ℕ). n + y) (sym (mul_assoc x (2 ^ j * 2) (2 ^ k))) ∙ add_comm (x * (2 ^ j * 2) * 2 ^ k) y)
    ∙ ap (λ (n : ℕ). n % 2) (add-mul-div_right y (x * (2 ^ j * 2)) (pow_pos k) ∙ add_comm (y / 2 ^ k) (x * (2 ^ j * 2)))
    ∙ ap (λ (n : ℕ). (n + y / 2 ^ k) % 2) (sym (mul_assoc x (2 ^ j) 2))
    ∙ mul-add-mod_self_right (x * 2 ^ j) 2 (y / 2 ^ k)

front_words : (x y k : ℕ) → y < 2 ^ 64 → 64 ≤ k → (x * 2 ^ 64 + y) / 2 ^ k ≡ x / 2 ^ (k - 64)
front_words x y k hy h =
    let e : k ≡ 64 + (k - 64) = omega arith in
    ap (λ (n : ℕ). (x * 2 ^ 64 + y) / 2 ^ n) e
    ∙ sym (shr-shr (x * 2 ^ 64 + y) 64 (k - 64))
    ∙ ap (λ (n : ℕ). n / 2 ^ (k - 64)) (high x 64 hy)

module _ (words : List ℕ) (at : ℕ) (small : (i : ℕ) → get_or words i 0 < 2 ^ 64) where
  -- Place k, counted from the least significant, is in the word that stands k / 64 words before the last.
  pub joined_place : (w k : ℕ) → k / 64 < w → joined w words at / 2 ^ k % 2 ≡ get_or words (at + (w - 1) - k / 64) 0 / 2 ^ (k % 64) % 2
  unfolding joined
  joined_place zero k h = absurd (omega arith)
  joined_place (suc w) k h = ⊎_elim (front (joined_place w (k - 64))) last (le-or-lt 64 k)
    where
      y : ℕ
      y = get_or words (at + w) 0

      last : k < 64 → (joined w words at * 2 ^ 64 + y) / 2 ^ k % 2 ≡ get_or words (at + (suc w - 1) - k / 64) 0 / 2 ^ (k % 64) % 2
      last l =
          let e : at + w ≡ at + (suc w - 1) - k / 64 = omega arith in
          let r : k ≡ k % 64 = omega arith in
          last_word (joined w words at) y k l ∙ ap (λ (n : ℕ). get_or words n 0 / 2 ^ k % 2) e
          ∙ ap (λ (n : ℕ). get_or words (at + (suc w - 1) - k / 64) 0 / 2 ^ n % 2) r

      front : ((k - 64) / 64 < w
          → joined w words at / 2 ^ (k - 64) % 2 ≡ get_or words (at + (w - 1) - (k - 64) / 64) 0 / 2 ^ ((k - 64) % 64)
          % 2)
          → 64 ≤ k → (joined w words at * 2 ^ 64 + y) / 2 ^ k % 2 ≡ get_or words (at + (suc w - 1) - k / 64) 0 / 2 ^ (k % 64) % 2
      front before l =
          let e : at + (w - 1) - (k - 64) / 64 ≡ at + (suc w - 1) - k / 64 = omega arith in
          let r : (k - 64) % 64 ≡ k % 64 = omega arith in
          ap (λ (n : ℕ). n % 2) (front_words (joined w words at) y k (small (at + w)) l)
          ∙ before (omega arith)
          ∙ ap (λ (n : ℕ). get_or words n 0 / 2 ^ ((k - 64) % 64) % 2) e
          ∙ ap (λ (n : ℕ). get_or words (at + (suc w - 1) - k / 64) 0 / 2 ^ n % 2) r

  -- What is in front of place k, where that place is in the first word.
  pub joined_front : (w k : ℕ) → w * 64 ≤ k → joined (suc w) words at / 2 ^ k ≡ get_or words at 0 / 2 ^ (k - w * 64)
  unfolding joined
  joined_front zero k h =
      let e : k ≡ k - 0 * 64 = omega arith in
      ap (λ (n : ℕ). n / 2 ^ k) (ap (λ (n : ℕ). n + get_or words (at + 0) 0) (zero-mul (2 ^ 64)) ∙ zero-add (get_or words (at + 0) 0))
      ∙ ap (λ (n : ℕ). get_or words n 0 / 2 ^ k) (add-zero at)
      ∙ ap (λ (n : ℕ). get_or words at 0 / 2 ^ n) e
  joined_front (suc w) k h =
      let e : k - 64 - w * 64 ≡ k - suc w * 64 = omega arith in
      front_words (joined (suc w) words at) (get_or words (at + suc w) 0) k (small (at + suc w)) (omega arith)
      ∙ joined_front w (k - 64) (omega arith)
      ∙ ap (λ (n : ℕ). get_or words at 0 / 2 ^ n) e

-- Below a power of two: nothing is in front of its place.
pub below_power : (x k : ℕ) → eqb (x / 2 ^ k) 0 ≡ ltb x (2 ^ k)
below_power x k = ⊎_elim above under (le-or-lt (2 ^ k) x)
  where
    under : x < 2 ^ k → eqb (x / 2 ^ k) 0 ≡ ltb x (2 ^ k)
    under h = eq-eqb (x / 2 ^ k) 0 (div-eq_of_lt h) ∙ sym (lt-ltb x (2 ^ k) h)

    above : 2 ^ k ≤ x → eqb (x / 2 ^ k) 0 ≡ ltb x (2 ^ k)
    above h =
        ne_eqb (x / 2 ^ k) 0 (λ e. let l : x / 2 ^ k < 1 = omega arith in omega (arith, (div-lt_iff_lt-mul (pow_pos k)).0 l))
        ∙ sym (le-ltb x (2 ^ k) h)
