-- Two wrong bits: both are mended, under any way that flips a bit of greatest excess, unless a third bit has that excess too; and when it
-- has.
use mathlib.Core.Path.{◌≡◌, refl, sym, ap, ap₂, ◌∙◌, fun_ext, subst}
use mathlib.Core.Bool.{Bool, true, false, not, ◌&&◌, and_comm}
use Prim.Native.Nat.{ℕ, suc, ◌+◌, ◌*◌, ◌≤◌, ◌<◌}
use native.Mathlib.Decide.{ℕ_discrete}
use native.Mathlib.Omega.{arith}
use lib.Dec.{eqb}
use lib.IntN.{ℤ}
use lib.ListN.{length}
use lib.Signed.{lt_z}
use borrow.Author.Tests.{ltb-false, le-ltb}
use Rattle.bits.specs.Bits.{Word, ◌⊕◌, count, flipped}
use Rattle.rules.specs.Codes.{Code, bits, checks}
use Rattle.rules.specs.Checks.{covers, check, broken, excess, broken_of, met_of, degree_of}
use Rattle.rules.specs.Flipping.{Way, Run, flip, run, after}
use Rattle.bits.proofs.Sums.{⊕-assoc, ⊕-comm, and-⊕}
use Rattle.bits.proofs.Counting.{count_same, count_xor, count_split}
use Rattle.rules.proofs.Flips.{broken_met, excess_order, check_flip, flip_back}
use Rattle.rules.proofs.Runs.{run_flip}
use Rattle.rules.proofs.Ways.{Chosen, Chooses, TakesGreatest, FlipsOne, flips_one, Girth, shared, broken_own, one_mended}

-- two flips may change places
pub flip_swap : (x : Word) (a b : ℕ) → flipped (flipped x a) b ≡ flipped (flipped x b) a
flip_swap x a b = fun_ext (λ i. ⊕-assoc (x i) (eqb i a) (eqb i b) ∙ ap (λ z. x i ⊕ z) (⊕-comm (eqb i a) (eqb i b))
    ∙ sym (⊕-assoc (x i) (eqb i b) (eqb i a)))

and_own : (p q : Bool) → (p && (p ⊕ q)) ≡ (p && not q)
and_own true true = refl
and_own true false = refl
and_own false q = refl

-- A run that ends quiet at x after k flips.
pub record Mends (x : Word) (k : ℕ) (r : Run) : Type 0 where
  pub number : r.number ≡ 0
  pub word : r.word ≡ x
  pub flips : length r.flips ≡ k

-- the checks that three bits share
unfoldable pub thrice : Code → ℕ → ℕ → ℕ → ℕ
thrice c n a b = count (checks c) (λ k. (covers c k n && covers c k b) && (covers c k n && covers c k a))

-- Three bits of three checks each, of which each two share a check, and no check covers all three.
pub record Tied (c : Code) (a b n : ℕ) : Type 0 where
  pub of_a : degree_of c a ≡ 3
  pub of_b : degree_of c b ≡ 3
  pub of_n : degree_of c n ≡ 3
  pub ab : shared c a b ≡ 1
  pub na : shared c n a ≡ 1
  pub nb : shared c n b ≡ 1
  pub none : thrice c n a b ≡ 0

module _ (c : Code) (girth : Girth c) (x : Word) (met : broken c x ≡ 0)
    (a b : ℕ) (ha : a < bits c) (hb : b < bits c) (apart : a ≡ b → ⊥) where
  abbrev both : Word
  both = flipped (flipped x a) b

  -- a check is broken where it covers just one of the two
  check_both : (k : ℕ) → k < checks c → check c both k ≡ covers c k a ⊕ covers c k b
  check_both k l = check_flip c (flipped x a) b hb k ∙ ap (λ z. z ⊕ covers c k b) (broken_own c girth x met a ha k l)

  -- all checks of the first are broken but what it shares with the second
  own : shared c a b + broken_of c both a ≡ degree_of c a
  unfolding shared broken_of degree_of
  own =
      ap (λ z. count (checks c) (λ k. covers c k a && covers c k b) + z)
      (count_same (checks c) _ _ (λ k l. ap (λ z. covers c k a && z) (check_both k l) ∙ and_own (covers c k a) (covers c k b)))
      ∙ count_split (checks c) (λ k. covers c k b) (λ k. covers c k a)

  -- and of the second
  own_second : shared c a b + broken_of c both b ≡ degree_of c b
  unfolding shared broken_of degree_of
  own_second =
      ap₂ ◌+◌ (count_same (checks c) _ _ (λ k l. and_comm (covers c k a) (covers c k b)))
      (count_same (checks c) _ _ (λ k l. ap (λ z. covers c k b && z) (check_both k l ∙ ⊕-comm (covers c k a) (covers c k b))
      ∙ and_own (covers c k b) (covers c k a)))
      ∙ count_split (checks c) (λ k. covers c k a) (λ k. covers c k b)

  -- of any bit, those that it shares with just one of the two
  others : (n : ℕ) → broken_of c both n + 2 * thrice c n a b ≡ shared c n a + shared c n b
  unfolding shared broken_of thrice
  others n =
      ap (λ z. z + 2 * count (checks c) (λ k. (covers c k n && covers c k b) && (covers c k n && covers c k a)))
      (count_same (checks c) _ (λ k. (covers c k n && covers c k a) ⊕ (covers c k n && covers c k b))
      (λ k l. ap (λ z. covers c k n && z) (check_both k l) ∙ and-⊕ (covers c k n) (covers c k a) (covers c k b)))
      ∙ count_xor (checks c) (λ k. covers c k n && covers c k a) (λ k. covers c k n && covers c k b)

  above : met_of c both a < broken_of c both a
  above = omega (arith, own, girth.few a b ha hb apart, girth.many a ha, broken_met c both a)

  -- so a third bit that is less than neither has three checks, as they have, and shares one with each
  pub tied : (n : ℕ) → n < bits c → (n ≡ a → ⊥) → (n ≡ b → ⊥) → lt_z (excess c both n) (excess c both a) ≡ false
      → lt_z (excess c both n) (excess c both b) ≡ false → Tied c a b n
  tied n h da db la lb =
      let s = girth.few a b ha hb apart in
      let sa = girth.few n a h ha da in
      let sb = girth.few n b h hb db in
      let ma = girth.many a ha in
      let mb = girth.many b hb in
      let mn = girth.many n h in
      let ea = broken_met c both a in
      let eb = broken_met c both b in
      let en = broken_met c both n in
      let fa = ltb-false (broken_of c both n + met_of c both a) (broken_of c both a + met_of c both n)
      (sym (excess_order c both n a) ∙ la) in
      let fb = ltb-false (broken_of c both n + met_of c both b) (broken_of c both b + met_of c both n)
      (sym (excess_order c both n b) ∙ lb) in
      record {
        of_a = omega (arith, own, others n, s, sa, sb, ma, mn, ea, en, fa);
        of_b = omega (arith, own_second, others n, s, sa, sb, mb, mn, eb, en, fb);
        of_n = omega (arith, own, others n, s, sa, sb, ma, mn, ea, en, fa);
        ab = omega (arith, own, others n, s, sa, sb, ma, mn, ea, en, fa);
        na = omega (arith, own, others n, s, sa, sb, ma, mn, ea, en, fa);
        nb = omega (arith, own, others n, s, sa, sb, ma, mn, ea, en, fa);
        none = omega (arith, own, others n, s, sa, sb, ma, mn, ea, en, fa);
      }

  -- then the three are equal: neither of the two is less
  pub tied_first : (n : ℕ) → Tied c a b n → lt_z (excess c both a) (excess c both n) ≡ false
  tied_first n t =
      excess_order c both a n
      ∙ le-ltb (broken_of c both a + met_of c both n) (broken_of c both n + met_of c both a)
      (omega (arith, own, others n, t.of_a, t.of_n, t.ab, t.na, t.nb, t.none, broken_met c both a, broken_met c both n))

  pub tied_second : (n : ℕ) → Tied c a b n → lt_z (excess c both b) (excess c both n) ≡ false
  tied_second n t =
      excess_order c both b n
      ∙ le-ltb (broken_of c both b + met_of c both n) (broken_of c both n + met_of c both b)
      (omega (arith, own_second, others n, t.of_b, t.of_n, t.ab, t.na, t.nb, t.none, broken_met c both b, broken_met c both n))

  module _ {way : Way} (ch : Chooses c way) (takes : TakesGreatest c way) (sa : c.unsent ≤ a) (sb : c.unsent ≤ b)
      (only : (n : ℕ) (ex : ℤ) → way both ≡ flip n ex → (n ≡ a → ⊥) → (n ≡ b → ⊥) → Tied c a b n → ⊥) where
    -- one of the two is flipped, and then the other
    pub two_mended : (limit : ℕ) → Mends x 2 (run way (suc (suc limit)) both)
    two_mended limit = go (flips_one ch takes both a sa ha above)
      where
        go : FlipsOne ch takes both a sa ha above → Mends x 2 (run way (suc (suc limit)) both)
        go f = by (ℕ_discrete f.bit a) (ℕ_discrete f.bit b)
          where
            chosen : Chosen c both f.bit f.value
            chosen = ch.flips both f.bit f.value f.is

            -- what is left is one wrong bit
            then : (m : ℕ) (hm : m < bits c) → c.unsent ≤ m → flipped both f.bit ≡ flipped x m
                → Mends x 2 (run way (suc (suc limit)) both)
            then m hm sm left =
                subst (Mends x 2)
                (sym (run_flip way (suc limit) both f.bit f.value f.is
                ∙ ap (λ y. after f.bit f.value (run way (suc limit) y)) left
                ∙ ap (after f.bit f.value) (one_mended c girth x met m hm ch takes sm limit)))
                (record { number = refl; word = refl; flips = refl })

            by : Dec (f.bit ≡ a) → Dec (f.bit ≡ b) → Mends x 2 (run way (suc (suc limit)) both)
            by (yes e) q = then b hb sb (ap (flipped both) e ∙ ap (λ y. flipped y a) (flip_swap x a b) ∙ flip_back (flipped x b) a)
            by (no d) (yes e) = then a ha sa (ap (flipped both) e ∙ flip_back (flipped x a) b)
            by (no d) (no e) = absurd (only f.bit f.value f.is d e (tied f.bit chosen.under d e f.low
                (takes.most both f.bit f.value f.is b sb hb)))
