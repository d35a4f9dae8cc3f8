-- Codewords of code 1 are the words that break no check; and the checks in one number. Assumes nothing.
use mathlib.Core.Path.{◌≡◌, refl, sym, ap, ap₂, ◌∙◌}
use mathlib.Core.Bool.{Bool, true, false, not, ◌&&◌, and-true, and-false, true≢false}
use mathlib.Core.List.{List}
use Prim.Native.Nat.{ℕ, ◌+◌, ◌*◌, ◌^◌, ◌<◌}
use native.Mathlib.Nat.{add-zero}
use native.Mathlib.Numerals.{add-one}
use native.Mathlib.Omega.{arith}
use lib.Bits.{bit_xor}
use lib.Dec.{T, eqb, ltb, ltb→lt, lit<}
use lib.ListN.{get_or}
use borrow.Author.Tests.{eq-eqb, ne_eqb}
use Rattle.bits.specs.Bits.{Word, digit, ◌⊕◌, sum, below, flipped}
use Rattle.bits.proofs.Sums.{⊕-false, ⊕-eq, ⊕-self, below_at, not-true}
use Rattle.bits.proofs.Counting.{count_none, none_counted}
use Rattle.bits.proofs.Octets.{digit_zero}
use Rattle.rules.specs.Codes.{code, code1, bits, checks}
use Rattle.rules.specs.Tables.{parity16}
use Rattle.rules.specs.Checks.{covers, check, broken}
use Rattle.rules.specs.Encoding.{encoded, lifted, sent, codeword}
use Rattle.rules.proofs.Flips.{check_flip}
use Rattle.rules.proofs.Codewords.{agree_all, own_encoded, sent_bit, codeword_quiet, check_same}
use Rattle.rules.proofs.Numbers.{published, whole, lifted_whole, met_own_telecommand}
use Rattle.vectors.specs.Vectors.{Holds}
use Rattle.vectors.proofs.Places.{digit_xor, same_digits}
use Rattle.nearest.specs.Answers.{column_list, Broken}

-- ---- code 1

pub bits_are : bits (code 1) ≡ 128
unfolding code code1 parity16
bits_are = refl

pub checks_are : checks (code 1) ≡ 64
unfolding code code1 parity16
checks_are = refl

pub octets_are : (code 1).octets_of_word ≡ 16
unfolding code code1
octets_are = refl

pub unsent_are : (code 1).unsent ≡ 0
unfolding code code1
unsent_are = refl

-- ---- codewords

pub met_codeword : (x : Word) → ((k : ℕ) → k < 64 → check (code 1) x k ≡ false) → codeword (code 1) x ≡ true
unfolding codeword broken
met_codeword x met =
    let quiet : broken (code 1) x ≡ 0 = count_none (checks (code 1)) (check (code 1) x) (λ k l. met k (omega (arith, checks_are))) in
    agree_all (8 * (code 1).octets_of_word) x (sent (code 1) (encoded (code 1) (lifted (code 1) x))) (λ i l.
    sym (sent_bit (code 1) (encoded (code 1) (lifted (code 1) x)) i (omega (arith, bits_are, octets_are, unsent_are))
    ∙ ap₂ (encoded (code 1)) (lifted_whole (code 1) (whole 1 tt) x) (ap (λ n. i + n) unsent_are ∙ add-zero i)
    ∙ own_encoded (code 1) x (met_own_telecommand 1 tt x quiet) i (omega (arith, bits_are, octets_are))))

pub codeword_broken : (x : Word) → codeword (code 1) x ≡ true → broken (code 1) x ≡ 0
codeword_broken x is = sym (ap (broken (code 1)) (lifted_whole (code 1) (whole 1 tt) x)) ∙ codeword_quiet (code 1) (published 1 tt) x is

pub codeword_met : (x : Word) → codeword (code 1) x ≡ true → (k : ℕ) → k < 64 → check (code 1) x k ≡ false
unfolding broken
codeword_met x is k l = none_counted (checks (code 1)) (check (code 1) x) (codeword_broken x is) k (omega (arith, checks_are))

-- only its 128 bits tell
pub codeword_same : (x y : Word) → ((i : ℕ) → i < 128 → x i ≡ y i) → codeword (code 1) x ≡ true → codeword (code 1) y ≡ true
codeword_same x y same is =
    met_codeword y (λ k l. sym (check_same (code 1) x y (λ i h. same i (omega (arith, bits_are))) k) ∙ codeword_met x is k l)

-- ---- the columns

column_test : T (below 128 (λ n. below 64 (λ k. not (digit 64 (get_or column_list n 0) k ⊕ covers (code 1) k n))))
unfolding code code1 parity16
column_test = tt

small_test : T (below 128 (λ n. ltb (get_or column_list n 0) (2 ^ 64)))
small_test = tt

pub column_covers : (n k : ℕ) → n < 128 → k < 64 → digit 64 (get_or column_list n 0) k ≡ covers (code 1) k n
column_covers n k hn hk =
    ⊕-eq (digit 64 (get_or column_list n 0) k) (covers (code 1) k n)
    (not-true (digit 64 (get_or column_list n 0) k ⊕ covers (code 1) k n)
    (below_at 64 (λ k. not (digit 64 (get_or column_list n 0) k ⊕ covers (code 1) k n))
    (below_at 128 (λ n. below 64 (λ k. not (digit 64 (get_or column_list n 0) k ⊕ covers (code 1) k n))) column_test n hn) k hk))

column_small : (n : ℕ) → n < 128 → get_or column_list n 0 < 2 ^ 64
column_small n h = ltb→lt (get_or column_list n 0) (2 ^ 64) (below_at 128 (λ n. ltb (get_or column_list n 0) (2 ^ 64)) small_test n h)

-- ---- the broken checks in one number

module _ (z : ℕ) (x : Word) (h : Broken z x) where
  -- a flip adds the bit's column
  pub broken_flipped : (n : ℕ) → n < 128 → Broken (bit_xor z (get_or column_list n 0)) (flipped x n)
  broken_flipped n l k hk =
      digit_xor 64 z (get_or column_list n 0) k ∙ ap₂ (λ a b. a ⊕ b) (h k hk) (column_covers n k l hk)
      ∙ sym (check_flip (code 1) x n (omega (arith, bits_are)) k)

  -- 0 for a codeword
  pub broken_none : z < 2 ^ 64 → eqb z 0 ≡ codeword (code 1) x
  broken_none small = go (codeword (code 1) x) refl
    where
      go : (b : Bool) → codeword (code 1) x ≡ b → eqb z 0 ≡ b
      go true is = eq-eqb z 0 (same_digits 64 z 0 small (lit< tt) (λ k l. h k l ∙ codeword_met x is k l ∙ sym (digit_zero 64 k)))
      go false is = ne_eqb z 0 (λ q.
          true≢false (sym (met_codeword x (λ k l. sym (h k l) ∙ ap (λ w. digit 64 w k) q ∙ digit_zero 64 k)) ∙ is))

  -- the column of the bit whose flip gives a codeword
  pub broken_column : z < 2 ^ 64 → (n : ℕ) → n < 128 → eqb (get_or column_list n 0) z ≡ codeword (code 1) (flipped x n)
  broken_column small n l = go (codeword (code 1) (flipped x n)) refl
    where
      differs : (k : ℕ) → k < 64 → check (code 1) (flipped x n) k ≡ digit 64 z k ⊕ digit 64 (get_or column_list n 0) k
      differs k hk = check_flip (code 1) x n (omega (arith, bits_are)) k ∙ ap₂ (λ a b. a ⊕ b) (sym (h k hk)) (sym (column_covers n k l hk))

      go : (b : Bool) → codeword (code 1) (flipped x n) ≡ b → eqb (get_or column_list n 0) z ≡ b
      go true is =
          eq-eqb (get_or column_list n 0) z (sym (same_digits 64 z (get_or column_list n 0) small (column_small n l) (λ k hk.
          ⊕-eq (digit 64 z k) (digit 64 (get_or column_list n 0) k) (sym (differs k hk) ∙ codeword_met (flipped x n) is k hk))))
      go false is =
          ne_eqb (get_or column_list n 0) z (λ q.
          true≢false (sym (met_codeword (flipped x n) (λ k hk.
          differs k hk ∙ ap (λ w. digit 64 z k ⊕ digit 64 w k) q ∙ ⊕-self (digit 64 z k))) ∙ is))

-- ---- the checks summed over the first bits

abbrev pub Partly : Word → ℕ → Word
Partly x n k = sum n (λ i. covers (code 1) k i && x i)

pub partly_none : (x : Word) → Holds 0 (Partly x 0)
unfolding sum
partly_none x k h = digit_zero 64 k

module _ (x : Word) (n z : ℕ) (h : n < 128) (part : Holds z (Partly x n)) where
  pub partly_set : (cs : List ℕ) → cs ≡ column_list → x n ≡ true → Holds (bit_xor z (get_or cs n 0)) (Partly x (n + 1))
  unfolding sum
  partly_set cs e set k l =
      ap (λ w. digit 64 (bit_xor z (get_or w n 0)) k) e
      ∙ digit_xor 64 z (get_or column_list n 0) k
      ∙ ap₂ (λ a b. a ⊕ b) (part k l)
      (column_covers n k h l ∙ sym (ap (λ b. covers (code 1) k n && b) set ∙ and-true (covers (code 1) k n)))
      ∙ ap (λ m. Partly x m k) (sym (add-one n))

  pub partly_clear : x n ≡ false → Holds z (Partly x (n + 1))
  unfolding sum
  partly_clear clear k l =
      part k l ∙ sym (⊕-false (Partly x n k))
      ∙ ap (λ b. Partly x n k ⊕ b) (sym (ap (λ b. covers (code 1) k n && b) clear ∙ and-false (covers (code 1) k n)))
      ∙ ap (λ m. Partly x m k) (sym (add-one n))

pub partly_all : (x : Word) (n z : ℕ) → n ≡ 128 → Holds z (Partly x n) → Broken z x
unfolding check
partly_all x n z e part k l = part k l ∙ ap (λ m. Partly x m k) (e ∙ sym bits_are)
