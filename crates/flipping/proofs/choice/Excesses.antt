-- The bit of greatest score is the bit that the flipping run chooses. For any code that is lent.
-- Assumes nothing.
use mathlib.Core.Path.{◌≡◌, refl, sym, ap, ap₂, ◌∙◌, subst}
use mathlib.Core.Bool.{Bool, true, false, cond}
use mathlib.Core.List.{List}
use Prim.Native.Nat.{ℕ, zero, suc, ◌+◌, ◌-◌, ◌*◌, ◌/◌, ◌%◌, ◌≤◌, ◌<◌}
use native.Mathlib.Nat.{mod-lt, div-add-mod', div-lt_iff_lt-mul, lt_of_not-le}
use native.Mathlib.Decide.{dec_lt}
use native.Mathlib.Omega.{arith}
use borrow.Author.Tests.{lt-ltb, le-ltb}
use lib.Dec.{ltb}
use lib.IntN.{pos, negsuc, sub_ℕ}
use lib.Signed.{lt_z}
use Rattle.bits.specs.Bits.{Word, when◌then◌else◌}
use Rattle.rules.specs.Codes.{Code, bits}
use Rattle.rules.specs.Checks.{broken, excess, broken_of, degree_of, met_of}
use Rattle.rules.specs.Flipping.{flip, stuck, greatest_sent, by_excess}
use Rattle.rules.proofs.Flips.{broken_met, excess_is}
use Rattle.rules.proofs.Choosing.{flip_next, stuck_next}
use Rattle.planes.specs.Ranges.{Top}
use Rattle.planes.proofs.Ranges.{top_ends}
use Rattle.planes.proofs.Choice.{top_greatest, top_excess, top_above}
use Rattle.layout.specs.declared.Shape.{Shape}
use Rattle.layout.specs.Lent.{Lent, score}

-- A difference does not change where both numbers grow alike.
same_difference : (a b a' b' : ℕ) → a + b' ≡ a' + b → sub_ℕ a b ≡ sub_ℕ a' b'
same_difference a b a' b' e = go (dec_lt a b)
  where
    go : Dec (a < b) → sub_ℕ a b ≡ sub_ℕ a' b'
    go (yes l) =
        let u : b - suc a ≡ b' - suc a' = omega arith in
        ap (λ t. cond t (negsuc (b - suc a)) (pos (a - b))) (lt-ltb a b l)
        ∙ ap negsuc u
        ∙ sym (ap (λ t. cond t (negsuc (b' - suc a')) (pos (a' - b'))) (lt-ltb a' b' (omega arith)))
    go (no d) =
        let l : b ≤ a = omega (arith, lt_of_not-le d) in
        let u : a - b ≡ a' - b' = omega arith in
        ap (λ t. cond t (negsuc (b - suc a)) (pos (a - b))) (le-ltb a b l)
        ∙ ap pos u
        ∙ sym (ap (λ t. cond t (negsuc (b' - suc a')) (pos (a' - b'))) (le-ltb a' b' (omega arith)))

module _ {c : Code} {h : List ℕ} {sh : Shape} (lent : Lent c h sh) (x : Word) where
  -- No bit has more than 7 checks.
  pub degree_le : (n : ℕ) → n < bits c → degree_of c n ≤ 7
  degree_le n l = go sh.size refl
    where
      under : n < sh.blocks * sh.size
      under = subst (λ k. n < k) lent.bits_are l

      go : (m : ℕ) → sh.size ≡ m → degree_of c n ≤ 7
      go zero e = absurd (omega (arith, under, ap (λ k. sh.blocks * k) e))
      go (suc m) e =
          let some : 0 < sh.size = omega arith in
          let b = n / sh.size in
          let hb : b < sh.blocks = (div-lt_iff_lt-mul some).1 under in
          omega (arith, ap (degree_of c) (div-add-mod' n sh.size), lent.degree_by b (n % sh.size) hb (mod-lt n some), lent.few b hb)

  pub score_excess : (n : ℕ) → n < bits c → excess c x n ≡ sub_ℕ (score c x n) 8
  unfolding score
  score_excess n l =
      excess_is c x n
      ∙ same_difference (broken_of c x n) (met_of c x n) (2 * broken_of c x n + 8 - degree_of c n) 8
      (omega (arith, degree_le n l, broken_met c x n))

  module _ {bit top : ℕ} (t : Top (score c x) c.unsent (bits c) bit top) where
    -- all bits from the first sent one on
    all : bits c ≡ c.unsent + (bits c - c.unsent)
    all = omega (arith, t.above, t.under)

    raised : (n : ℕ) → n < c.unsent + (bits c - c.unsent) → excess c x n ≡ sub_ℕ (score c x n) 8
    raised n l = score_excess n (omega (arith, l, all))

    ranged : Top (score c x) c.unsent (c.unsent + (bits c - c.unsent)) bit top
    ranged = top_ends refl all t

    pub best_greatest : greatest_sent c x ≡ bit
    unfolding greatest_sent
    best_greatest = top_greatest (excess c x) (score c x) 8 c.unsent (bits c - c.unsent) bit top raised ranged

    pub best_excess : excess c x bit ≡ sub_ℕ top 8
    unfolding greatest_sent
    best_excess = ap (excess c x) (sym best_greatest)
        ∙ top_excess (excess c x) (score c x) 8 c.unsent (bits c - c.unsent) bit top raised ranged

    pub best_above : lt_z (pos 0) (excess c x bit) ≡ ltb 8 top
    best_above = top_above (excess c x) (score c x) 8 c.unsent (bits c - c.unsent) bit top raised ranged

    -- What comes next for a word that has a broken check.
    pub best_next : (broken c x ≡ 0 → ⊥) → by_excess c x ≡ (when ltb 8 top then flip bit (sub_ℕ top 8) else stuck bit (sub_ℕ top 8))
    best_next some = go (ltb 8 top) refl
      where
        chosen : (b : Bool) → ltb 8 top ≡ b → lt_z (pos 0) (excess c x (greatest_sent c x)) ≡ b
        chosen b e = ap (λ n. lt_z (pos 0) (excess c x n)) best_greatest ∙ best_above ∙ e

        go : (b : Bool) → ltb 8 top ≡ b → by_excess c x ≡ (when b then flip bit (sub_ℕ top 8) else stuck bit (sub_ℕ top 8))
        go true e = flip_next c x some (chosen true e) ∙ ap₂ flip best_greatest (ap (excess c x) best_greatest ∙ best_excess)
        go false e = stuck_next c x some (chosen false e) ∙ ap₂ stuck best_greatest (ap (excess c x) best_greatest ∙ best_excess)
