-- The bits of a block that have none of their four checks met, 64 at a time.
use mathlib.Core.Path.{◌≡◌, refl, sym, ap, ap₂, ◌∙◌, subst}
use mathlib.Core.Bool.{Bool, true, false, ◌&&◌}
use mathlib.Core.List.{List}
use Prim.Native.Nat.{ℕ, ◌+◌, ◌*◌, ◌≤◌, ◌<◌, zero-le}
use native.Mathlib.Omega.{arith}
use borrow.Author.Tests.{le-leb, lt-leb}
use lib.Dec.{leb, ltb}
use lib.ListN.{length, get_or}
use Rattle.bits.specs.Bits.{Word, digit, count, tally}
use Rattle.bits.proofs.Counting.{tally_le}
use Rattle.vectors.specs.Vectors.{Holds, up_to, from as bits_from}
use Rattle.vectors.proofs.Places.{and_none}
use Rattle.flipping.specs.bounds.Reading.{light}
use Rattle.samples.specs.raising.Knowing.{Within}
use Rattle.samples.specs.smallest.Settling.{all_set}
use Rattle.samples.proofs.smallest.Masks.{no_digit}

all_four : (f : Word) → (((f 0 && f 1) && f 2) && f 3) ≡ leb 4 (count 4 f + 0)
unfolding count
all_four f = go (f 0) (f 1) (f 2) (f 3)
  where
    go : (a b c e : Bool) → (((a && b) && c) && e) ≡ leb 4 (0 + tally a + tally b + tally c + tally e + 0)
    go true true true true = refl
    go true true true false = refl
    go true true false e = sym (lt-leb 4 (0 + 1 + 1 + 0 + tally e + 0) (omega (arith, tally_le e)))
    go true false c e = sym (lt-leb 4 (0 + 1 + 0 + tally c + tally e + 0) (omega (arith, tally_le c, tally_le e)))
    go false b c e =
        sym (lt-leb 4 (0 + 0 + tally b + tally c + tally e + 0) (omega (arith, tally_le b, tally_le c, tally_le e)))

-- No bit of a block of m bits lies too far behind one of its four starts.
abbrev pub Near : List ℕ → List ℕ → ℕ → ℕ → Type 0
Near starts d from m =
    let near : ℕ → Type 0 = λ p. 64 + (get_or starts p 0 + m) ≤ 64 * length d in
    (length d ≤ 65) × near from × near (from + 1) × near (from + 2) × near (from + 3)

pub four_near : (starts d : List ℕ) (from m : ℕ) → Within starts d from 4 m → Near starts d from m
four_near starts d from m w =
    let e : from + 0 ≡ from = omega arith in (
      w.d_long,
      subst (λ p. 64 + (get_or starts p 0 + m) ≤ 64 * length d) e (w.near 0 (omega arith)),
      w.near 1 (omega arith),
      w.near 2 (omega arith),
      w.near 3 (omega arith),
    )

module _ (d : Word) (starts : List ℕ) (from at m v : ℕ)
    (sees : Holds v (all_set d (get_or starts from 0 + at) (get_or starts (from + 1) 0 + at) (get_or starts (from + 2) 0 + at)
    (get_or starts (from + 3) 0 + at))) where
  -- bit i by start e, as it is read and as it is counted
  one_on : (e p i : ℕ) → p ≡ from + e → d (get_or starts p 0 + at + i) ≡ d (get_or starts (from + e) 0 + (at + i))
  one_on e p i q =
      let on : get_or starts p 0 + at + i ≡ get_or starts p 0 + (at + i) = omega arith in
      ap d on ∙ ap (λ j. d (get_or starts j 0 + (at + i))) q

  light_four : (i : ℕ) → i < 64 → (ltb (at + i) m && digit 64 v i) ≡ light d starts from 4 0 0 m (at + i)
  light_four i l =
      ap₂ (λ a b. (a && ltb (at + i) m) && b) (sym (le-leb 0 (at + i) zero-le))
      (sees i l
      ∙ ap₂ ◌&&◌ (ap₂ ◌&&◌ (ap₂ ◌&&◌ (one_on 0 from i (omega arith)) (one_on 1 (from + 1) i refl)) (one_on 2 (from + 2) i refl))
      (one_on 3 (from + 3) i refl)
      ∙ all_four (λ e. d (get_or starts (from + e) 0 + (at + i))))

  -- those of them that the block has
  pub none_cut : (t mask : ℕ) → ((i : ℕ) → i < 64 → ltb i t ≡ ltb (at + i) m) → Holds mask (up_to t (digit 64 v))
      → Holds mask (bits_from at (light d starts from 4 0 0 m))
  none_cut t mask ends cut i l = cut i l ∙ ap (λ b. b && digit 64 v i) (ends i l) ∙ light_four i l

  -- or there is none
  pub none_clear : v ≡ 0 → Holds v (bits_from at (light d starts from 4 0 0 m))
  none_clear e i l =
      let clear = no_digit v i e in
      clear ∙ sym (and_none (ltb (at + i) m)) ∙ ap (λ b. ltb (at + i) m && b) (sym clear) ∙ light_four i l
