-- The words at the start of a run by sizes beside those at its end. Assumes nothing.
use mathlib.Core.Path.{◌≡◌, refl, sym, ap, ◌∙◌}
use mathlib.Core.Bool.{Bool, false}
use mathlib.Core.List.{List}
use Prim.Native.Nat.{ℕ, ◌+◌, ◌-◌, ◌*◌, ◌/◌, ◌%◌, ◌≤◌, ◌<◌}
use native.Mathlib.Nat.{add-zero, mul-le-mul_right}
use native.Mathlib.Omega.{arith}
use borrow.Author.Tests.{ne_eqb}
use lib.ListN.{get_or}
use Rattle.bits.specs.Bits.{Word, digit, count, ◌⊕◌}
use Rattle.bits.proofs.Sums.{⊕-false, ⊕-self}
use Rattle.bits.proofs.Counting.{count_same, count_add, count_none}
use Rattle.rules.specs.Codes.{Code, bits}
use Rattle.rules.specs.Flipping.{run}
use Rattle.rules.proofs.Runs.{every_run}
use Rattle.answers.specs.Calls.{differing}
use Rattle.vectors.specs.Vectors.{wbit}
use Rattle.layout.specs.declared.Shape.{Shape}
use Rattle.layout.specs.Lent.{Fit}
use Rattle.magnitudes.specs.Sizes.{by_size}
use Rattle.magnitudes.proofs.Choosing.{by_size_lem}

-- Blocks that one word holds each have no more than 1024 bits.
pub narrow_few : {h : List ℕ} {n : ℕ} (sh : Shape) → Fit h sh → sh.words ≡ 1 → n ≡ sh.blocks * sh.size → n ≤ 1024
narrow_few sh fit one e =
    omega (arith, e, fit.held, one, mul-le-mul_right {m = sh.blocks} {n = 16} sh.size fit.blocks)

-- Two lists with the same first sixteen words have the same first 1024 bits.
words_same : (xs ys : List ℕ) → ((j : ℕ) → j < 16 → get_or xs j 0 ≡ get_or ys j 0) → (i : ℕ) → i < 1024 → wbit xs i ≡ wbit ys i
unfolding wbit
words_same xs ys same i l = ap (λ v. digit 64 v (i % 64)) (same (i / 64) (omega arith))

-- A run by sizes leaves what stands past the last bit.
pub run_past : (less : ℕ → ℕ → Bool) (c : Code) → c.unsent < bits c → (n : ℕ) → bits c ≤ n → (limit : ℕ) (x : Word)
    → (run (by_size less c) limit x).word n ≡ x n
run_past less c some n past = every_run (by_size less c) (λ limit x r. r.word n ≡ x n) (λ limit x e. refl) (λ limit x k ex e. refl)
    (λ x k ex e. refl)
    (λ limit x k ex e r ih.
    ih ∙ ap (λ b. x n ⊕ b) (ne_eqb n k (λ q. omega (arith, ((by_size_lem less c some).flips x k ex e).under))) ∙ ⊕-false (x n))

-- So the first words, of which there are enough, differ as the words of the code do.
pub differs_words : (less : ℕ → ℕ → Bool) (c : Code) → c.unsent < bits c → (limit k : ℕ) (x y : Word) (xs ys : List ℕ) → bits c ≤ 64 * k
    → k ≤ 16 → ((j : ℕ) → j < 16 → get_or xs j 0 ≡ get_or ys j 0) → x ≡ wbit ys → y ≡ (run (by_size less c) limit x).word
    → count (64 * k) (λ i. wbit xs i ⊕ y i) ≡ differing c x y
differs_words less c some limit k x y xs ys long few kept is to =
    let all : 64 * k ≡ bits c + (64 * k - bits c) = omega arith in
    count_same (64 * k) (λ i. wbit xs i ⊕ y i) (λ i. x i ⊕ y i)
    (λ i l. ap (λ b. b ⊕ y i) (words_same xs ys kept i (omega arith) ∙ ap (λ w. w i) (sym is)))
    ∙ ap (λ n. count n (λ i. x i ⊕ y i)) all ∙ count_add (bits c) (64 * k - bits c) (λ i. x i ⊕ y i)
    ∙ ap (λ n. differing c x y + n) (count_none (64 * k - bits c) (λ i. x (bits c + i) ⊕ y (bits c + i)) same)
    ∙ add-zero (differing c x y)
  where
    same : (i : ℕ) → i < 64 * k - bits c → (x (bits c + i) ⊕ y (bits c + i)) ≡ false
    same i l =
        ap (λ b. x (bits c + i) ⊕ b) (ap (λ w. w (bits c + i)) to ∙ run_past less c some (bits c + i) (omega arith) limit x)
        ∙ ⊕-self (x (bits c + i))
