-- What comes next by sizes, from the greatest score and the bit of that score that is ahead of all others.
use mathlib.Core.Path.{◌≡◌, refl, sym, ap, ◌∙◌, subst}
use mathlib.Core.Bool.{Bool, true}
use mathlib.Core.List.{List}
use mathlib.Core.Logic.{inl, inr}
use Prim.Native.Nat.{ℕ, ◌+◌, ◌-◌, ◌*◌, ◌≤◌, ◌<◌, zero-le}
use native.Mathlib.Nat.{lt_of_not-le, zero-add}
use native.Mathlib.Decide.{dec_lt}
use native.Mathlib.Omega.{arith}
use lib.Dec.{leb}
use lib.IntN.{sub_ℕ}
use lib.ListN.{length}
use borrow.Author.Tests.{le-leb, leb-true, leb-false}
use Rattle.bits.specs.Bits.{Word, flipped, least}
use Rattle.bits.proofs.Leasts.{least_below, least_holds}
use Rattle.rules.specs.Codes.{Code, bits}
use Rattle.rules.specs.Checks.{broken}
use Rattle.rules.specs.Flipping.{stuck, flip}
use Rattle.layout.specs.declared.Shape.{Shape}
use Rattle.layout.specs.Lent.{Lent, score}
use Rattle.planes.specs.Ranges.{Top}
use Rattle.planes.proofs.Ranges.{top_ends}
use Rattle.flipping.proofs.runs.Passing.{next_stuck}
use Rattle.flipping.proofs.runs.Sizes.{score_left, sized_next}
use Rattle.magnitudes.specs.Patterns.{smaller}
use Rattle.magnitudes.specs.Sizes.{smallest, instead, smallest_sent, by_size}
use Rattle.magnitudes.proofs.Patterns.{ordered}
use Rattle.magnitudes.proofs.Smallest.{Ordered, Is, smallest_one}
use Rattle.samples.specs.smallest.Settling.{Leads}
use Rattle.samples.proofs.raising.Orders.{ahead_both, Over, smallest_over}

module _ (samples : List ℕ) {c : Code} {h : List ℕ} {sh : Shape} (lent : Lent c h sh) (all : c.unsent ≡ 0) (x : Word) where
  abbrev end : ℕ
  end = sh.blocks * sh.size

  module _ (r top : ℕ) (inside : r < end) (long : length samples ≡ end) (most : (i : ℕ) → i < end → score c x i ≤ top)
      (leads : Leads samples (score c x) top end r) where
    -- the bits of the greatest score, and the lowest of them
    abbrev high : ℕ → Bool
    high k = leb top (score c x k)

    abbrev low : ℕ
    low = least end high

    here : r < length samples
    here = omega (arith, long)

    r_high : high r ≡ true
    r_high = le-leb top (score c x r) (omega (arith, leads.is here))

    low_le : low ≤ r
    low_le = go (dec_lt r low)
      where
        go : Dec (r < low) → low ≤ r
        go (yes l) = absurd (omega (arith, leads.is here, leb-false top (score c x r) (least_below end high r l)))
        go (no u) = omega (arith, lt_of_not-le u)

    lowest : Top (score c x) 0 end low top
    lowest =
        let at = leb-true top (score c x low) (least_holds end high (omega (arith, low_le))) in
        record {
          above = zero-le;
          under = omega (arith, low_le);
          is = omega (arith, at, most low (omega (arith, low_le)));
          most = λ i a l. most i l;
          first = λ i a l. leb-false top (score c x i) (least_below end high i l);
        }

    all_bits : Top (score c x) 0 (bits c) low top
    all_bits = top_ends refl (sym lent.bits_are) lowest

    pub sized_stuck : (broken c x ≡ 0 → ⊥) → top ≤ 8 → by_size (smaller samples) c x ≡ stuck low (sub_ℕ top 8)
    unfolding by_size
    sized_stuck d l = ap (instead (smallest_sent (smaller samples) c x)) (next_stuck lent x all_bits all d l)

    -- the smallest of these is the one that is ahead of all
    is_smallest : r ≡ smallest (smaller samples) high low 0 end
    is_smallest = ahead_both (smaller samples) (length samples) order r z (leads.ahead here z (z_inside one) (z_high one))
        (over.all r zero-le (omega (arith, zero-add end)) r_high)
      where
        order : Ordered (smaller samples) (length samples)
        order = ordered samples (length samples)

        z : ℕ
        z = smallest (smaller samples) high low 0 end

        under : (k : ℕ) → 0 ≤ k → k < 0 + end → high k ≡ true → k < length samples
        under k a l e = omega (arith, long, zero-add end)

        before : (k : ℕ) → 0 ≤ k → k < 0 + end → high k ≡ true → low ≤ k
        before k a l e = go (dec_lt k low)
          where
            go : Dec (k < low) → low ≤ k
            go (yes v) = absurd (omega (arith, leb-true top (score c x k) e, leb-false top (score c x k) (least_below end high k v)))
            go (no u) = omega (arith, lt_of_not-le u)

        over : Over (smaller samples) (length samples) order high low 0 end z
        over = smallest_over (smaller samples) (length samples) order high low 0 end (omega (arith, low_le, long)) before under

        one : Is (smaller samples) high low 0 z end
        one = smallest_one (smaller samples) high low 0 end

        z_inside : Is (smaller samples) high low 0 z end → z < end
        z_inside (inl e) = omega (arith, e, low_le)
        z_inside (inr p) = omega (arith, p.2, zero-add end)

        z_high : Is (smaller samples) high low 0 z end → top ≤ score c x z
        z_high (inl e) = subst (λ k. top ≤ score c x k) (sym e) (omega (arith, lowest.is))
        z_high (inr p) = leb-true top (score c x z) p.0

    pub sized_flip : (broken c x ≡ 0 → ⊥) → 8 < top → by_size (smaller samples) c x ≡ flip r (sub_ℕ top 8)
    sized_flip d l =
        let none : bits c - 0 ≡ end = omega (arith, lent.bits_are) in
        sized_next (smaller samples) lent x all_bits all d l
        ∙ ap (λ n. flip n (sub_ℕ top 8)) (ap (smallest (smaller samples) high low 0) none ∙ sym is_smallest)

    -- what a flip takes from the broken checks
    pub sized_left : 8 < top → broken c (flipped x r) + (top - 8) ≡ broken c x
    sized_left = score_left c x r top (omega (arith, lent.bits_are)) (leads.is here)
