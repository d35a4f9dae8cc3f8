-- The way of choosing by sizes: it takes a bit of greatest excess, whatever the sizes; with equal sizes it is the flipping run's.
use mathlib.Core.Path.{◌≡◌, refl, sym, ap, ◌∙◌, subst, fun_ext}
use mathlib.Core.Bool.{Bool, true, false, true≢false, not}
use mathlib.Core.Logic.{inl, inr}
use Prim.Native.Nat.{ℕ, ◌-◌, ◌≤◌, ◌<◌}
use native.Mathlib.Nat.{lt_of_not-le}
use native.Mathlib.Decide.{dec_lt}
use native.Mathlib.Omega.{arith}
use lib.Dec.{T, leb→le, nltb→le}
use lib.IntN.{ℤ, pos, negsuc}
use lib.Signed.{lt_z, le_z}
use borrow.Author.Tests.{ltb-true, lt-ltb}
use Rattle.bits.specs.Bits.{Word}
use Rattle.bits.proofs.Sums.{not-true}
use Rattle.rules.specs.Codes.{Code, bits}
use Rattle.rules.specs.Checks.{excess, broken_of, met_of}
use Rattle.rules.specs.Flipping.{Next, quiet, stuck, flip, by_excess}
use Rattle.rules.proofs.Ways.{Chosen, Chooses, TakesGreatest, above_is}
use Rattle.rules.proofs.Choosing.{by_excess_lem, by_greatest, chosen, chosen_greatest, next_flip}
use Rattle.magnitudes.specs.Sizes.{reaching, instead, smallest_sent, by_size}
use Rattle.magnitudes.proofs.Smallest.{Is, smallest_one, smallest_stays, smallest_alike, Ordered, Smallest, smallest_has}

-- a bit of smaller excess is not looked at
pub smaller_left_out : (c : Code) (x : Word) (e : ℤ) (n : ℕ) → lt_z (excess c x n) e ≡ true → reaching c x e n ≡ false
smaller_left_out c x e n h = ap not h

-- what is not above and not below is equal
level : (a b : ℤ) → T (le_z a b) → lt_z a b ≡ false → b ≡ a
level (pos a) (pos b) h e = ap pos (omega (arith, leb→le a b h, nltb→le a b (subst (λ t. T (not t)) (sym e) tt)))
level (pos a) (negsuc b) h e = absurd h
level (negsuc a) (pos b) h e = absurd (true≢false e)
level (negsuc a) (negsuc b) h e = ap negsuc (omega (arith, leb→le b a h, nltb→le b a (subst (λ t. T (not t)) (sym e) tt)))

-- what comes next by size tells what comes next by excess
module _ (less : ℕ → ℕ → Bool) (c : Code) (x : Word) where
  -- the bit that is flipped in place of n
  abbrev pub best : ℕ → ℤ → ℕ
  best = smallest_sent less c x

  pub size_quiet : by_size less c x ≡ quiet → by_excess c x ≡ quiet
  unfolding by_size
  size_quiet q = go (by_excess c x) refl
    where
      go : (nx : Next) → by_excess c x ≡ nx → by_excess c x ≡ quiet
      go quiet e = e
      go (stuck n ex) e = let w = sym (ap (instead best) e) ∙ q in let z : ◌≡◌ {A = ℕ} 0 1 = cc in absurd (omega arith)
      go (flip n ex) e = let w = sym (ap (instead best) e) ∙ q in let z : ◌≡◌ {A = ℕ} 0 1 = cc in absurd (omega arith)

  pub size_stuck : (n : ℕ) (ex : ℤ) → by_size less c x ≡ stuck n ex → by_excess c x ≡ stuck n ex
  unfolding by_size
  size_stuck n ex q = go (by_excess c x) refl
    where
      go : (nx : Next) → by_excess c x ≡ nx → by_excess c x ≡ stuck n ex
      go quiet e = let w = sym (ap (instead best) e) ∙ q in let z : ◌≡◌ {A = ℕ} 0 1 = cc in absurd (omega arith)
      go (stuck n' ex') e = e ∙ (sym (ap (instead best) e) ∙ q)
      go (flip n' ex') e = let w = sym (ap (instead best) e) ∙ q in let z : ◌≡◌ {A = ℕ} 0 1 = cc in absurd (omega arith)

  -- a flip by size is one by excess, with the smallest of the bits that reach that excess
  pub record Instead (n : ℕ) (ex : ℤ) : Type 0 where
    pub first : ℕ
    pub is : by_excess c x ≡ flip first ex
    pub bit : n ≡ best first ex

  pub size_flip : (n : ℕ) (ex : ℤ) → by_size less c x ≡ flip n ex → Instead n ex
  unfolding by_size
  size_flip n ex q = go (by_excess c x) refl
    where
      go : (nx : Next) → by_excess c x ≡ nx → Instead n ex
      go quiet e = let w = sym (ap (instead best) e) ∙ q in let z : ◌≡◌ {A = ℕ} 0 1 = cc in absurd (omega arith)
      go (stuck n' ex') e = let w = sym (ap (instead best) e) ∙ q in let z : ◌≡◌ {A = ℕ} 0 1 = cc in absurd (omega arith)
      go (flip n' ex') e =
          let w : flip (best n' ex') ex' ≡ flip n ex = sym (ap (instead best) e) ∙ q in
          let same : ex' ≡ ex = cc in
          let at : best n' ex' ≡ n = cc in
          record { first = n'; is = e ∙ ap (flip n') same; bit = sym at ∙ ap (best n') same }

-- a bit that reaches the excess of the bit that the flipping run flips
module _ (c : Code) (some : c.unsent < bits c) (x : Word) (first : ℕ) (ex : ℤ) (e : by_excess c x ≡ flip first ex) where
  abbrev f : Chosen c x first ex
  f = (by_excess_lem c some).flips x first ex e

  -- has that excess, and may be flipped too
  pub reaches : (n : ℕ) → reaching c x ex n ≡ true → c.unsent ≤ n → n < bits c → Chosen c x n ex
  reaches n r sent under =
      let is : ex ≡ excess c x n = level (excess c x n) ex high (not-true (lt_z (excess c x n) ex) (subst T (sym r) tt)) in
      record {
        sent = sent;
        under = under;
        value = is;
        above = ltb-true (met_of c x n) (broken_of c x n) (sym (above_is c x n) ∙ ap (lt_z (pos 0)) (sym is ∙ f.value) ∙ above_is c x first
            ∙ lt-ltb (met_of c x first) (broken_of c x first) f.above);
      }
    where
      high : T (le_z (excess c x n) ex)
      high =
          let g = next_flip c x first ex e in
          subst (λ z. T (le_z (excess c x n) z)) (sym (g.value ∙ ap (excess c x) g.bit))
          ((chosen_greatest c some x).most n sent (omega arith)).le

  -- none that comes before it has
  pub reached_first : (n : ℕ) → c.unsent ≤ n → reaching c x ex n ≡ true → first ≤ n
  reached_first n sent r = go (dec_lt n first)
    where
      go : Dec (n < first) → first ≤ n
      go (no d) = omega (arith, lt_of_not-le d)
      go (yes l) =
          let g = next_flip c x first ex e in
          let low = (chosen_greatest c some x).lowest n sent (omega (arith, g.bit)) in
          let is : ex ≡ excess c x (chosen c x) = g.value ∙ ap (excess c x) g.bit in
          absurd (subst T (not-true (lt_z (excess c x n) ex) (subst T (sym r) tt))
          (subst (λ z. T (lt_z (excess c x n) z)) (sym is) low.lt))

  pub best_chosen : (less : ℕ → ℕ → Bool) → Chosen c x (best less c x first ex) ex
  unfolding smallest_sent
  best_chosen less = go (smallest_one less (reaching c x ex) first c.unsent (bits c - c.unsent))
    where
      go : Is less (reaching c x ex) first c.unsent (best less c x first ex) (bits c - c.unsent)
          → Chosen c x (best less c x first ex) ex
      go (inl is) = subst (λ n. Chosen c x n ex) (sym is) f
      go (inr p) = reaches (best less c x first ex) p.0 p.1 (omega (arith, p.2))

-- so the way is one of those that the laws are over
module _ (less : ℕ → ℕ → Bool) (c : Code) (some : c.unsent < bits c) where
  pub by_size_lem : Chooses c (by_size less c)
  unfolding by_size
  by_size_lem = record {
    met_quiet = λ x m. ap (instead (best less c x)) ((by_excess_lem c some).met_quiet x m);
    quiet_met = λ x q. (by_excess_lem c some).quiet_met x (size_quiet less c x q);
    flips = λ x n ex q.
        let i = size_flip less c x n ex q in
        subst (λ k. Chosen c x k ex) (sym i.bit) (best_chosen c some x i.first ex i.is less);
  }

  pub size_greatest : TakesGreatest c (by_size less c)
  size_greatest = record {
    most = λ x n ex q m sent under.
        let i = size_flip less c x n ex q in
        ap (λ z. lt_z z (excess c x m)) (sym (by_size_lem.flips x n ex q).value ∙ ((by_excess_lem c some).flips x i.first ex i.is).value)
        ∙ (by_greatest c some).most x i.first ex i.is m sent under;
    sticks = λ x n ex q. (by_greatest c some).sticks x n ex (size_stuck less c x n ex q);
  }

-- where no bit is smaller than another it is the flipping run's
pub equal_sizes : (less : ℕ → ℕ → Bool) → ((n k : ℕ) → less n k ≡ false) → (c : Code) → by_size less c ≡ by_excess c
unfolding by_size smallest_sent
equal_sizes less none c = fun_ext (λ x. go x (by_excess c x))
  where
    go : (x : Word) (nx : Next) → instead (best less c x) nx ≡ nx
    go x quiet = refl
    go x (stuck n e) = refl
    go x (flip n e) = ap (λ k. flip k e) (smallest_stays less (reaching c x e) n c.unsent (bits c - c.unsent) (λ k f l m. none k n))

-- two orders of the bits that a code sends give one way, if they are alike
pub same_order : (less less' : ℕ → ℕ → Bool) (c : Code) → c.unsent < bits c
    → ((a b : ℕ) → a < bits c → b < bits c → less a b ≡ less' a b) → by_size less c ≡ by_size less' c
unfolding by_size smallest_sent
same_order less less' c some alike = fun_ext (λ x. go x (by_excess c x) refl)
  where
    go : (x : Word) (nx : Next) → by_excess c x ≡ nx → instead (best less c x) nx ≡ instead (best less' c x) nx
    go x quiet e = refl
    go x (stuck n ex) e = refl
    go x (flip n ex) e =
        ap (λ k. flip k ex) (smallest_alike less less' (bits c) alike (reaching c x ex) n c.unsent (bits c - c.unsent)
        ((by_excess_lem c some).flips x n ex e).under (omega arith))

-- where the order is one: of the bits of greatest excess none is smaller than the one that is flipped, and those before it are greater
pub size_smallest : (less : ℕ → ℕ → Bool) (c : Code) → c.unsent < bits c → Ordered less (bits c) → (x : Word) (n : ℕ) (ex : ℤ)
    → by_size less c x ≡ flip n ex
    → Smallest less (reaching c x ex) c.unsent (bits c - c.unsent) n
unfolding smallest_sent
size_smallest less c some ordered x n ex q =
    let i = size_flip less c x n ex q in
    let f = (by_excess_lem c some).flips x i.first ex i.is in
    subst (Smallest less (reaching c x ex) c.unsent (bits c - c.unsent)) (sym i.bit)
    (smallest_has less (reaching c x ex) i.first c.unsent (bits c) ordered f.under (reached_first c some x i.first ex i.is)
    (bits c - c.unsent) (omega arith))
