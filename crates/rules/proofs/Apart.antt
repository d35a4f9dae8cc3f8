-- Three wrong bits, where every bit has at least four checks and no two bits share two: if no check covers the first and just one of the
-- others, all three are mended, under any way that flips a bit of greatest excess.
use mathlib.Core.Path.{◌≡◌, refl, sym, ap, ap₂, ◌∙◌, subst}
use mathlib.Core.Bool.{Bool, true, false, true≢false, not, ◌&&◌}
use Prim.Native.Nat.{ℕ, zero, suc, ◌+◌, ◌*◌, ◌≤◌, ◌<◌, zero-le, suc-le-suc}
use native.Mathlib.Decide.{ℕ_discrete}
use native.Mathlib.Omega.{arith}
use lib.Signed.{lt_z}
use borrow.Author.Tests.{lt-ltb}
use Rattle.bits.specs.Bits.{Word, ◌⊕◌, count, flipped}
use Rattle.rules.specs.Codes.{Code, bits, checks}
use Rattle.rules.specs.Checks.{covers, check, broken, excess, broken_of, met_of, degree_of}
use Rattle.rules.specs.Flipping.{Way, run, after}
use Rattle.bits.proofs.Sums.{⊕-assoc, and-⊕}
use Rattle.bits.proofs.Counting.{count_same, count_xor, count_split, none_counted}
use Rattle.rules.proofs.Flips.{broken_met, excess_order, check_flip, flip_back}
use Rattle.rules.proofs.Runs.{run_flip}
use Rattle.rules.proofs.Ways.{Chosen, Chooses, TakesGreatest, FlipsOne, flips_one, Girth, shared, broken_own}
use Rattle.rules.proofs.Two.{Mends, flip_swap, two_mended}

and_own : (p q : Bool) → (p && (p ⊕ q)) ≡ (p && not q)
and_own true true = refl
and_own true false = refl
and_own false q = refl

-- the checks that cover a and just one of b and d
unfoldable pub with_one : Code → ℕ → ℕ → ℕ → ℕ
with_one c a b d = count (checks c) (λ k. covers c k a && (covers c k b ⊕ covers c k d))

module _ (c : Code) (a b d : ℕ) where
  with_one_lem : with_one c a b d + 2 * count (checks c) (λ k. (covers c k a && covers c k d) && (covers c k a && covers c k b))
      ≡ shared c a b + shared c a d
  unfolding with_one shared
  with_one_lem =
      ap (λ z. z + 2 * count (checks c) (λ k. (covers c k a && covers c k d) && (covers c k a && covers c k b)))
      (count_same (checks c) _ (λ k. (covers c k a && covers c k b) ⊕ (covers c k a && covers c k d))
      (λ k l. and-⊕ (covers c k a) (covers c k b) (covers c k d)))
      ∙ count_xor (checks c) (λ k. covers c k a && covers c k b) (λ k. covers c k a && covers c k d)

  -- there are none where it shares no check with either
  pub none_shared : shared c a b ≡ 0 → shared c a d ≡ 0 → with_one c a b d ≡ 0
  none_shared e f = omega (arith, with_one_lem)

  -- nor where all three lie in one check, and no two share two
  pub all_shared : Girth c → a < bits c → b < bits c → d < bits c → (a ≡ b → ⊥) → (a ≡ d → ⊥) → (k : ℕ) → k < checks c
      → covers c k a ≡ true → covers c k b ≡ true → covers c k d ≡ true → with_one c a b d ≡ 0
  all_shared girth ha hb hd ab ad k l ea eb ed =
      omega (arith, with_one_lem, girth.few a b ha hb ab, girth.few a d ha hd ad, some (ℕ_discrete all 0))
    where
      all : ℕ
      all = count (checks c) (λ k. (covers c k a && covers c k d) && (covers c k a && covers c k b))

      positive : (n : ℕ) → (n ≡ 0 → ⊥) → 1 ≤ n
      positive zero e = absurd (e refl)
      positive (suc n) e = suc-le-suc zero-le

      some : Dec (count (checks c) (λ k. (covers c k a && covers c k d) && (covers c k a && covers c k b)) ≡ 0)
          → 1 ≤ count (checks c) (λ k. (covers c k a && covers c k d) && (covers c k a && covers c k b))
      some (yes e) =
          absurd (true≢false (sym (ap₂ (λ p q. p && q) (ap₂ (λ p q. p && q) ea ed) (ap₂ (λ p q. p && q) ea eb))
          ∙ none_counted (checks c) (λ k. (covers c k a && covers c k d) && (covers c k a && covers c k b)) e k l))
      some (no e) = positive (count (checks c) (λ k. (covers c k a && covers c k d) && (covers c k a && covers c k b))) e

module _ (c : Code) (girth : Girth c) (four : (n : ℕ) → n < bits c → 4 ≤ degree_of c n) (x : Word) (met : broken c x ≡ 0)
    (a b d : ℕ) (ha : a < bits c) (hb : b < bits c) (hd : d < bits c) (ab : a ≡ b → ⊥) (ad : a ≡ d → ⊥) (bd : b ≡ d → ⊥)
    (free : with_one c a b d ≡ 0) where
  abbrev all : Word
  all = flipped (flipped (flipped x a) b) d

  -- a check is broken where it covers one of the three, or all
  check_all : (k : ℕ) → k < checks c → check c all k ≡ covers c k a ⊕ (covers c k b ⊕ covers c k d)
  check_all k l =
      check_flip c (flipped (flipped x a) b) d hd k
      ∙ ap (λ z. z ⊕ covers c k d) (check_flip c (flipped x a) b hb k
      ∙ ap (λ z. z ⊕ covers c k b) (broken_own c girth x met a ha k l))
      ∙ ⊕-assoc (covers c k a) (covers c k b) (covers c k d)

  -- all checks of the first are broken
  own : broken_of c all a ≡ degree_of c a
  unfolding broken_of degree_of with_one
  own =
      count_same (checks c) _ _ (λ k l. ap (λ z. covers c k a && z) (check_all k l) ∙ and_own (covers c k a) (covers c k b ⊕ covers c k d))
      ∙ rest (count (checks c) (λ k. covers c k a && (covers c k b ⊕ covers c k d)))
      (count (checks c) (λ k. covers c k a && not (covers c k b ⊕ covers c k d))) (count (checks c) (λ k. covers c k a)) free
      (count_split (checks c) (λ k. covers c k b ⊕ covers c k d) (λ k. covers c k a))
    where
      rest : (p q r : ℕ) → p ≡ 0 → p + q ≡ r → q ≡ r
      rest p q r e f = omega arith

  -- of any bit, at most those that it shares with any
  others : (n : ℕ) → broken_of c all n ≤ shared c n a + shared c n b + shared c n d
  unfolding shared broken_of
  others n =
      let one : count (checks c) (λ k. covers c k n && check c all k) ≡ count (checks c)
      (λ k. (covers c k n && covers c k a) ⊕ (covers c k n && (covers c k b ⊕ covers c k d))) =
      count_same (checks c) _ _ (λ k l. ap (λ z. covers c k n && z) (check_all k l)
      ∙ and-⊕ (covers c k n) (covers c k a) (covers c k b ⊕ covers c k d)) in
      let two : count (checks c) (λ k. covers c k n && (covers c k b ⊕ covers c k d)) ≡ count (checks c)
      (λ k. (covers c k n && covers c k b) ⊕ (covers c k n && covers c k d)) =
      count_same (checks c) _ _ (λ k l. and-⊕ (covers c k n) (covers c k b) (covers c k d)) in
      omega (
        arith,
        one,
        two,
        count_xor (checks c) (λ k. covers c k n && covers c k a) (λ k. covers c k n && (covers c k b ⊕ covers c k d)),
        count_xor (checks c) (λ k. covers c k n && covers c k b) (λ k. covers c k n && covers c k d),
      )

  above : met_of c all a < broken_of c all a
  above = omega (arith, own, four a ha, broken_met c all a)

  -- so any bit but the three is less
  less : (n : ℕ) → n < bits c → (n ≡ a → ⊥) → (n ≡ b → ⊥) → (n ≡ d → ⊥) → lt_z (excess c all n) (excess c all a) ≡ true
  less n h na nb nd =
      excess_order c all n a
      ∙ lt-ltb (broken_of c all n + met_of c all a) (broken_of c all a + met_of c all n)
      (omega (
        arith,
        own,
        others n,
        girth.few n a h ha na,
        girth.few n b h hb nb,
        girth.few n d h hd nd,
        four a ha,
        four n h,
        broken_met c all a,
        broken_met c all n,
      ))

  module _ {way : Way} (ch : Chooses c way) (takes : TakesGreatest c way) (sa : c.unsent ≤ a) (sb : c.unsent ≤ b) (sd : c.unsent ≤ d)
    where
      -- one of the three is flipped, and then the others
      pub three_mended : (limit : ℕ) → Mends x 3 (run way (suc (suc (suc limit))) all)
      three_mended limit = go (flips_one ch takes all a sa ha above)
        where
          go : FlipsOne ch takes all a sa ha above → Mends x 3 (run way (suc (suc (suc limit))) all)
          go f = by (ℕ_discrete f.bit a) (ℕ_discrete f.bit b) (ℕ_discrete f.bit d)
            where
              chosen : Chosen c all f.bit f.value
              chosen = ch.flips all f.bit f.value f.is

              -- what is left are two wrong bits
              then : (p q : ℕ) (hp : p < bits c) (hq : q < bits c) → (p ≡ q → ⊥) → c.unsent ≤ p → c.unsent ≤ q
                  → flipped all f.bit ≡ flipped (flipped x p) q → Mends x 3 (run way (suc (suc (suc limit))) all)
              then p q hp hq pq sp sq left =
                  let m : Mends x 2 (run way (suc (suc limit)) (flipped (flipped x p) q)) =
                  two_mended c girth x met p q hp hq pq ch takes sp sq (λ n ex e np nq t. omega (arith, four p hp, t.of_a)) limit in
                  subst (Mends x 3)
                  (sym (run_flip way (suc (suc limit)) all f.bit f.value f.is
                  ∙ ap (λ y. after f.bit f.value (run way (suc (suc limit)) y)) left))
                  (record { number = m.number; word = m.word; flips = ap suc m.flips })

              by : Dec (f.bit ≡ a) → Dec (f.bit ≡ b) → Dec (f.bit ≡ d) → Mends x 3 (run way (suc (suc (suc limit))) all)
              by (yes e) q r =
                  then b d hb hd bd sb sd (ap (flipped all) e ∙ flip_swap (flipped (flipped x a) b) d a
                  ∙ ap (λ y. flipped y d) (flip_swap (flipped x a) b a ∙ ap (λ y. flipped y b) (flip_back x a)))
              by (no p) (yes e) r =
                  then a d ha hd ad sa sd (ap (flipped all) e ∙ flip_swap (flipped (flipped x a) b) d b
                  ∙ ap (λ y. flipped y d) (flip_back (flipped x a) b))
              by (no p) (no q) (yes e) = then a b ha hb ab sa sb (ap (flipped all) e ∙ flip_back (flipped (flipped x a) b) d)
              by (no p) (no q) (no r) = absurd (true≢false (sym (less f.bit chosen.under p q r) ∙ f.low))
