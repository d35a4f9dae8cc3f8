-- For a near-Earth word that meets every check, the ones of whole blocks decide whether its parity is the encoder's.
use mathlib.Core.Path.{◌≡◌, refl, sym, ap, ap₂, ◌∙◌, subst}
use mathlib.Core.Bool.{Bool, true, false, not, ◌&&◌, and-true}
use mathlib.Core.List.{[]}
use Prim.Native.Nat.{ℕ, zero, suc, ◌+◌, ◌/◌, ◌<◌}
use native.Mathlib.Nat.{zero-lt-suc, div-lt_iff_lt-mul}
use native.Mathlib.Omega.{arith}
use lib.Dec.{T}
use lib.ListN.{get_or}
use Rattle.bits.specs.Bits.{Word, digit, ◌⊕◌, sum, below}
use Rattle.rules.specs.Tables.{parity511, generator511}
use Rattle.rules.specs.Codes.{Code, near_earth}
use Rattle.rules.specs.Checks.{broken}
use Rattle.rules.specs.Encoding.{parity_bit, OwnParity}
use Rattle.bits.proofs.Sums.{⊕-false, ⊕-self, ⊕-assoc, ⊕-eq, sum_same, below_at, not-true}
use Rattle.rules.proofs.Quiet.{drawn}
use Rattle.rules.proofs.Published.{near_inverted, near_inverted_lem}
use Rattle.word.specs.ownparity.Odd.{odd_block, counted, odd_together_of, even_together}
use Rattle.word.proofs.ownparity.Ones.{sum_of_one, odd_pairs, inverted_odd}

-- ---- computed from the generator table

-- whether part b of the printed row of information block j has an odd number of ones
abbrev printed_odd : ℕ → ℕ → Bool
printed_odd j b = sum 511 (drawn 511 512 (get_or (get_or generator511 j []) b 0))

-- whether that is as marked
abbrev marked : ℕ → ℕ → Bool
marked j b = not (digit 16 (get_or counted b 0) j ⊕ printed_odd j b)

rows : T (below 14 (λ j. below 2 (marked j)))
unfolding generator511 sum
rows = tt

-- a block of 511 ones has an odd number of them
whole : sum 511 (λ k. true) ≡ true
unfolding sum
whole = refl

-- ---- from here on by laws

row_marked : (j b : ℕ) → j < 14 → b < 2 → digit 16 (get_or counted b 0) j ≡ printed_odd j b
row_marked j b hj hb =
    ⊕-eq (digit 16 (get_or counted b 0) j) (printed_odd j b)
    (not-true (digit 16 (get_or counted b 0) j ⊕ printed_odd j b)
    (below_at 2 (marked j) (below_at 14 (λ j. below 2 (marked j)) rows j hj) b hb))

-- the information blocks that are counted with a parity block, and then itself alone
split : (x : Word) (b : ℕ) → b < 2
    → odd_together_of x b ≡ sum 14 (λ j. digit 16 (get_or counted b 0) j && odd_block x j) ⊕ odd_block x (14 + b)
unfolding sum
split x zero h = ⊕-false (sum 14 (λ j. digit 16 (get_or counted 0 0) j && odd_block x j) ⊕ odd_block x 14)
split x (suc zero) h = ap (λ z. z ⊕ odd_block x 15) (⊕-false (sum 14 (λ j. digit 16 (get_or counted 1 0) j && odd_block x j)))
split x (suc (suc b)) h = absurd (omega arith)

module _ (octets_of_word octets_of_information unsent : ℕ) where
  abbrev c : Code
  c = near_earth octets_of_word octets_of_information unsent

  -- where the parity differs from the encoder's by whole inverted blocks, the test tells which
  pub together : (x f : Word) → ((p : ℕ) → p < 1022 → x (7154 + p) ≡ parity_bit c x p ⊕ f (p / 511)) → (b : ℕ) → b < 2
      → odd_together_of x b ≡ f b
  unfolding generator511
  together x f h b hb =
      let E = odd_pairs 511 512 generator511 x b in
      split x b hb
      ∙ ap₂ (λ y z. y ⊕ z)
      (sum_same 14 _ (λ j. printed_odd j b && odd_block x j) (λ j l. ap (λ z. z && odd_block x j) (row_marked j b l hb)))
      (inverted_odd octets_of_word octets_of_information unsent 510 parity511 generator511 512 2 x f h b hb)
      ∙ sym (⊕-assoc E E (sum 511 (λ k. f b)))
      ∙ ap (λ z. z ⊕ sum 511 (λ k. f b)) (⊕-self E)
      ∙ sum_of_one 511 (f b) ∙ ap (λ z. f b && z) whole ∙ and-true (f b)

  pub own_even : (x : Word) → OwnParity c x → even_together x ≡ true
  unfolding parity511 generator511
  own_even x own = ap₂ (λ y z. not y && (not z && true)) (none 1 (omega arith)) (none 0 (omega arith))
    where
      none : (b : ℕ) → b < 2 → odd_together_of x b ≡ false
      none = together x (λ b. false) (λ p l. own p l ∙ sym (⊕-false (parity_bit c x p)))

  pub together_inverted : (x : Word) → broken c x ≡ 0 → (b : ℕ) → b < 2
      → odd_together_of x b ≡ near_inverted octets_of_word octets_of_information unsent x b
  unfolding parity511 generator511
  together_inverted x e = together x (near_inverted octets_of_word octets_of_information unsent x)
      (near_inverted_lem octets_of_word octets_of_information unsent x e)

  pub even_own : (x : Word) → broken c x ≡ 0 → even_together x ≡ true → OwnParity c x
  unfolding parity511 generator511
  even_own x e t p l =
      let b = p / 511 in
      let hb : b < 2 = (div-lt_iff_lt-mul (zero-lt-suc 510)).1 l in
      near_inverted_lem octets_of_word octets_of_information unsent x e p l
      ∙ ap (λ z. parity_bit c x p ⊕ z)
      (sym (together_inverted x e b hb)
      ∙ not-true (odd_together_of x b) (below_at 2 (λ b. not (odd_together_of x b)) (subst T (sym t) tt) b hb))
      ∙ ⊕-false (parity_bit c x p)
