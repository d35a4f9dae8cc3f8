-- The rows of the syndrome, each twice over at a place of its own.
-- Assumes nothing.
use mathlib.Core.Path.{◌≡◌, refl, sym, ap, ap₂, ◌∙◌}
use mathlib.Core.List.{List, [], ◌∷◌, ◌++◌}
use Prim.Native.Nat.{ℕ, ◌+◌, ◌-◌, ◌*◌, ◌/◌, ◌%◌, ◌≤◌, ◌<◌}
use native.Mathlib.Nat.{mod-lt}
use native.Mathlib.Decide.{ℕ_discrete}
use native.Mathlib.Omega.{arith}
use lib.ListN.{get_or, length, take, set, length-set, get_or-append}
use lib.Seq.{length-take-le, get_or-append-add, get_or-take}
use Rattle.bits.specs.Bits.{Word, digit}
use Rattle.vectors.specs.Vectors.{wbit, Holds, up_to, from, joined, twice}
use Rattle.vectors.proofs.Cells.{joined_below, joined_above}
use Rattle.vectors.proofs.Filling.{Filled, filled_from, filled_more, word_at}
use Rattle.vectors.proofs.Spans.{up_to_below, twice_mod}
use Rattle.layout.specs.declared.Shape.{Shape}
use Rattle.flipping.specs.bounds.Reading.{Twice, Placed}

-- The first m bits, and then all from the first on again: bit n is bit n modulo m.
front_mod : (m : ℕ) (x : Word) (n : ℕ) → n < 2 * m → twice m (up_to m x) n ≡ x (n % m)
front_mod m x n h = twice_mod m n (up_to m x) h ∙ up_to_below m (n % m) x (mod-lt n (omega arith))

-- A part of d from word `to` on is p.
module _ (d p rest : List ℕ) (to : ℕ) (inside : to ≤ length d) where
  before_part : (n : ℕ) → n < 64 * to → wbit (take to d ++ (p ++ rest)) n ≡ wbit d n
  unfolding wbit
  before_part n h =
      ap (λ k. digit 64 k (n % 64))
      (get_or-append (take to d) (p ++ rest) 0 (n / 64) (omega (arith, length-take-le to d inside))
      ∙ get_or-take to d (n / 64) 0 (omega arith))

  in_part : (n : ℕ) → n < 64 * length p → wbit (take to d ++ (p ++ rest)) (64 * to + n) ≡ wbit p n
  unfolding wbit
  in_part n h =
      let q : (64 * to + n) / 64 ≡ length (take to d) + n / 64 = omega (arith, length-take-le to d inside) in
      let r : (64 * to + n) % 64 ≡ n % 64 = omega arith in
      ap₂ (λ q r. digit 64 (get_or (take to d ++ (p ++ rest)) q 0) r) q r
      ∙ ap (λ k. digit 64 k (n % 64)) (get_or-append-add (take to d) (p ++ rest) (n / 64) 0
      ∙ get_or-append p rest 0 (n / 64) (omega arith))

  pub placed : (z : Word) (start m : ℕ) → 2 * m ≤ 64 * length p → wbit p ≡ twice m (up_to m (from start z))
      → Placed z start m (wbit d) (64 * to) (wbit (take to d ++ (p ++ rest)))
  placed z start m fits e = record {
    before = before_part;
    here = λ n h. in_part n (omega arith) ∙ ap (λ x. x n) e ∙ front_mod m (from start z) n h;
  }

-- The first m bits of one number, twice over in two words from word `to` on.
module _ (d : List ℕ) (v m to a b : ℕ) (small : m ≤ 64) (inside : to + 2 ≤ length d)
    (e : wbit (a ∷ b ∷ []) ≡ twice m (up_to m (digit 64 v))) where
  abbrev two : Word
  two = wbit (a ∷ b ∷ [])

  abbrev x : Word
  x = joined (64 * to) (wbit d) (λ n. two (n - 64 * to))

  in_two : (n k : ℕ) → n ≡ 64 * to + k → x n ≡ two k
  in_two n k l =
      let back : n - 64 * to ≡ k = omega arith in
      joined_above (64 * to) n (wbit d) (λ i. two (i - 64 * to)) (omega arith) ∙ ap two back

  filled : Filled d x (set (set d to a) (to + 1) b) (to + 1 + 1)
  filled =
      let start = filled_from d x to (λ n h. sym (joined_below (64 * to) n (wbit d) (λ i. two (i - 64 * to)) h)) in
      let one = filled_more d x d to start a (omega arith)
      (λ i hi. sym (in_two (64 * to + i) i refl ∙ word_at (a ∷ b ∷ []) i 0 i hi (omega arith))) in
      filled_more d x (set d to a) (to + 1) one b (omega (arith, length-set d to a))
      (λ i hi. sym (in_two (64 * (to + 1) + i) (64 + i) (omega arith) ∙ word_at (a ∷ b ∷ []) (64 + i) 1 i hi (omega arith)))

  pub placed_number : (z : Word) (start : ℕ) → 1 ≤ m → Holds v (from start z)
      → Placed z start m (wbit d) (64 * to) (wbit (set (set d to a) (to + 1) b))
  placed_number z start some hv = record {
    before = λ n h.
        ap (λ (y : Word). y n) filled.bits ∙ joined_below (64 * (to + 1 + 1)) n x (wbit d) (omega arith)
        ∙ joined_below (64 * to) n (wbit d) (λ i. two (i - 64 * to)) h;
    here = λ n h.
        ap (λ (y : Word). y (64 * to + n)) filled.bits ∙ joined_below (64 * (to + 1 + 1)) (64 * to + n) x (wbit d) (omega arith)
        ∙ in_two (64 * to + n) n refl ∙ ap (λ (y : Word). y n) e ∙ front_mod m (digit 64 v) n h ∙ hv (n % m) (omega (arith, mod-lt n some));
  }

-- A row more.
pub twice_more : (sh : Shape) (z d d' : Word) (r : ℕ) → 2 * sh.size ≤ 1024 → Twice sh r z d
    → Placed z (64 * (r * sh.words)) sh.size d (64 * (16 * r)) d' → Twice sh (r + 1) z d'
twice_more sh z d d' r fits was new q n hq hn = go (ℕ_discrete q r)
  where
    go : Dec (q ≡ r) → d' (1024 * q + n) ≡ z (64 * (q * sh.words) + n % sh.size)
    go (yes e) =
        let at : 1024 * q + n ≡ 64 * (16 * r) + n = omega arith in
        ap d' at ∙ new.here n hn ∙ ap (λ k. z (64 * (k * sh.words) + n % sh.size)) (sym e)
    go (no u) = new.before (1024 * q + n) (omega arith) ∙ was q n (omega arith) hn
