-- What one flip does to the checks, for any code.
use mathlib.Core.Path.{◌≡◌, refl, sym, ap, ap₂, ◌∙◌, fun_ext, subst}
use mathlib.Core.Bool.{Bool, true, false, not, ◌&&◌}
use Prim.Native.Nat.{ℕ, zero, suc, ◌+◌, ◌-◌, ◌≤◌, ◌<◌, zero-le}
use native.Mathlib.Nat.{le_step, lt-suc_self}
use native.Mathlib.Omega.{arith}
use lib.Dec.{T, eqb, ltb, ltb→lt, nltb→le, lit≤}
use lib.IntN.{pos, negsuc, sub_ℕ}
use lib.Signed.{lt_z}
use borrow.Author.Tests.{lt-ltb, le-ltb}
use Rattle.bits.specs.Bits.{Word, ◌⊕◌, sum, count, tally, flipped}
use Rattle.rules.specs.Codes.{Code, bits, checks}
use Rattle.rules.specs.Checks.{covers, check, broken, broken_of, met_of, degree_of, excess}
use Rattle.bits.proofs.Orders.{ltb_iff}
use Rattle.bits.proofs.Sums.{and-⊕, ⊕-assoc, ⊕-self, ⊕-false, sum_linear, pick}
use Rattle.bits.proofs.Counting.{count_same, count_xor, count_split}

-- a flip of a flip is none; two flips may change places
pub flip_back : (x : Word) (n : ℕ) → flipped (flipped x n) n ≡ x
flip_back x n = fun_ext (λ i. ⊕-assoc (x i) (eqb i n) (eqb i n) ∙ ap (λ z. x i ⊕ z) (⊕-self (eqb i n)) ∙ ⊕-false (x i))

module _ (c : Code) (x : Word) (n : ℕ) where
  pub broken_met : broken_of c x n + met_of c x n ≡ degree_of c n
  unfolding broken_of met_of degree_of
  broken_met = count_split (checks c) (check c x) (λ k. covers c k n)

  pub excess_is : excess c x n ≡ sub_ℕ (broken_of c x n) (met_of c x n)
  unfolding excess
  excess_is = refl

  -- the checks that cover the bit are flipped, no others
  pub check_flip : n < bits c → (k : ℕ) → check c (flipped x n) k ≡ check c x k ⊕ covers c k n
  unfolding check
  check_flip h k =
      ap (sum (bits c)) (fun_ext (λ j. and-⊕ (covers c k j) (x j) (eqb j n)))
      ∙ (sum_linear (bits c)).plus (λ j. covers c k j && x j) (λ j. covers c k j && eqb j n)
      ∙ ap (λ z. sum (bits c) (λ j. covers c k j && x j) ⊕ z) (pick (bits c) n (covers c k) h)

  pub broken_flip : n < bits c → broken c (flipped x n) + broken_of c x n ≡ broken c x + met_of c x n
  unfolding broken broken_of met_of degree_of
  broken_flip h =
      let changed : count (checks c) (check c (flipped x n)) ≡ count (checks c) (λ k. check c x k ⊕ covers c k n) =
      count_same (checks c) _ _ (λ k l. check_flip h k) in
      omega (arith, changed, count_xor (checks c) (check c x) (λ k. covers c k n), count_split (checks c) (check c x) (λ k. covers c k n))

-- ---- the met checks of a bit after another was flipped

left_met : (a b p : Bool) → tally (a && not p) ≤ tally (a && not (p ⊕ b)) + tally (b && not p)
left_met true true true = lit≤ tt
left_met true true false = lit≤ tt
left_met true false true = lit≤ tt
left_met true false false = lit≤ tt
left_met false b p = zero-le

count_either : (n : ℕ) (f g h : ℕ → Bool) → ((i : ℕ) → i < n → tally (f i) ≤ tally (g i) + tally (h i)) → count n f ≤ count n g + count n h
unfolding count
count_either zero f g h e = lit≤ tt
count_either (suc n) f g h e = omega (arith, count_either n f g h (λ i l. e i (le_step l)), e n (lt-suc_self n))

-- a flip breaks just the checks of the flipped bit that were met: no bit loses more met checks
pub met_flip : (c : Code) (x : Word) (n m : ℕ) → m < bits c → met_of c x n ≤ met_of c (flipped x m) n + met_of c x m
unfolding met_of
met_flip c x n m h =
    count_either (checks c) _ _ _ (λ k l.
    subst (λ p. tally (covers c k n && not (check c x k)) ≤ tally (covers c k n && not p) + tally (covers c k m && not (check c x k)))
    (sym (check_flip c x m h k)) (left_met (covers c k n) (covers c k m) (check c x k)))

-- ---- the order of excesses

-- a - b is below c - d where a + d is below c + b
pub sub_order : (a b a' b' : ℕ) → lt_z (sub_ℕ a b) (sub_ℕ a' b') ≡ ltb (a + b') (a' + b)
sub_order a b a' b' = go (ltb a b) (ltb a' b') refl refl
  where
    yes_lt : (p q : ℕ) → ltb p q ≡ true → p < q
    yes_lt p q e = ltb→lt p q (subst T (sym e) tt)

    no_lt : (p q : ℕ) → ltb p q ≡ false → q ≤ p
    no_lt p q e = nltb→le p q (subst (λ t. T (not t)) (sym e) tt)

    cases : (s t : Bool) → ltb a b ≡ s → ltb a' b' ≡ t
        → lt_z (mathlib.Core.Bool.cond s (negsuc (b - suc a)) (pos (a - b)))
        (mathlib.Core.Bool.cond t (negsuc (b' - suc a')) (pos (a' - b'))) ≡ ltb (a + b') (a' + b)
    cases true true e f =
        let h = yes_lt a b e in let h' = yes_lt a' b' f in
        ltb_iff (b' - suc a') (b - suc a) (a + b') (a' + b) (λ l. omega arith) (λ l. omega arith)
    cases true false e f =
        let h = yes_lt a b e in let h' = no_lt a' b' f in
        sym (lt-ltb (a + b') (a' + b) (omega arith))
    cases false true e f =
        let h = no_lt a b e in let h' = yes_lt a' b' f in
        sym (le-ltb (a + b') (a' + b) (omega arith))
    cases false false e f =
        let h = no_lt a b e in let h' = no_lt a' b' f in
        ltb_iff (a - b) (a' - b') (a + b') (a' + b) (λ l. omega arith) (λ l. omega arith)

    go : (s t : Bool) → ltb a b ≡ s → ltb a' b' ≡ t → lt_z (sub_ℕ a b) (sub_ℕ a' b') ≡ ltb (a + b') (a' + b)
    go s t e f = ap₂ (λ s t. lt_z (mathlib.Core.Bool.cond s (negsuc (b - suc a)) (pos (a - b)))
        (mathlib.Core.Bool.cond t (negsuc (b' - suc a')) (pos (a' - b')))) e f ∙ cases s t e f

-- one bit's excess is below another's
pub excess_order : (c : Code) (x : Word) (n n' : ℕ) → lt_z (excess c x n) (excess c x n') ≡ ltb (broken_of c x n + met_of c x n')
    (broken_of c x n' + met_of c x n)
excess_order c x n n' = ap₂ lt_z (excess_is c x n) (excess_is c x n')
    ∙ sub_order (broken_of c x n) (met_of c x n) (broken_of c x n') (met_of c x n')
