-- No promise for three: for each code a codeword with three wrong bits that is not mended, whatever the limit. Found by search, and proved:
-- the
-- broken checks are listed, and what comes next is computed from the list.
use mathlib.Core.Path.{◌≡◌, refl, sym, ap, ap₂, ◌∙◌, fun_ext, subst}
use mathlib.Core.Bool.{Bool, true, false, true≢false, not, ◌&&◌, ◌||◌, and-false}
use mathlib.Core.List.{List, [], ◌∷◌}
use Prim.Native.Nat.{ℕ, zero, suc, ◌+◌, ◌*◌, ◌/◌, ◌%◌, ◌≤◌, ◌<◌, zero-le}
use native.Mathlib.Nat.{lt_of_not-le, zero-add}
use native.Mathlib.Decide.{ℕ_discrete, dec_lt}
use native.Mathlib.Omega.{arith}
use lib.Dec.{T, eqb, leb, ltb, ltb→lt, leb→le, lit<}
use lib.IntN.{ℤ, pos}
use lib.ListN.{length, replicate, length-replicate}
use lib.Signed.{lt_z}
use borrow.Author.Tests.{ne_eqb, lt-ltb, le-ltb}
use Rattle.bits.specs.Bits.{Word, digit, bit, count, tally, over, count_of, below, ◌⊕◌, flipped, when◌then◌else◌}
use Rattle.rules.specs.Tables.{parity16, parity32, parity64, parity511, generator16, generator32, generator64}
use Rattle.rules.specs.Codes.{Code, code, code1, code2, code3, code4, code5, bits, checks, offered}
use Rattle.rules.specs.Checks.{covers, check, broken, excess, broken_of, met_of, degree_of}
use Rattle.rules.specs.Encoding.{lifted}
use Rattle.rules.specs.Flipping.{flip, stuck, by_excess, Run, run}
use Rattle.answers.specs.Calls.{judged, ran_correct, correct_answer}
use Rattle.bits.proofs.Sums.{⊕-eq, ⊕-comm, sum_none, and_l, and_r, below_at, not-true}
use Rattle.bits.proofs.Counting.{count_same, count_none, count_pick, count_apart}
use Rattle.bits.proofs.Octets.{zeros_at, digit_zero, length_octets}
use Rattle.rules.proofs.Flips.{broken_met, excess_order, check_flip}
use Rattle.rules.proofs.Runs.{run_stuck, run_limit, run_flip}
use Rattle.rules.proofs.Ways.{above_is, none_broken}
use Rattle.rules.proofs.Blocks.{degree, degree_in}
use Rattle.rules.proofs.Choosing.{chosen, chosen_greatest, chosen_is, flip_next, stuck_next}
use Rattle.rules.proofs.Published.{published1, published2, published3, published4, published5}
use Rattle.answers.proofs.Answers.{correct_taken}
use Rattle.answers.proofs.Corrections.{one_wrong, bit_one_wrong, lifted_flip, judged_other, near_degree}
use Rattle.answers.proofs.Wrong.{two_wrong, three_wrong}

-- ---- a word by the bits that are set in it, and its broken checks by a list

-- whether a number stands in a list
abbrev pub among : ℕ → List ℕ → Bool
among k [] = false
among k (j ∷ js) = eqb k j || among k js

abbrev pub distinct : List ℕ → Bool
distinct [] = true
distinct (j ∷ js) = not (among j js) && distinct js

abbrev pub under : ℕ → List ℕ → Bool
under n [] = true
under n (j ∷ js) = ltb j n && under n js

abbrev pub wrong_bits : List ℕ → Word
wrong_bits [] = λ n. false
wrong_bits (b ∷ bs) = flipped (wrong_bits bs) b

-- what is counted among the numbers of a list
count_among : (n : ℕ) (g : ℕ → Bool) (ks : List ℕ) → T (distinct ks) → T (under n ks) → count n (λ k. g k && among k ks) ≡ count_of ks g
count_among n g [] d u = count_none n _ (λ k l. and-false (g k))
count_among n g (j ∷ js) d u =
    count_apart n (λ k. eqb k j && g k) (λ k. g k && among k js) (λ k. g k && (eqb k j || among k js))
    (λ k l. apart k (ℕ_discrete k j) (g k))
    ∙ ap₂ ◌+◌ (count_pick n j g (ltb→lt j n (and_l (ltb j n) (under n js) u)))
    (count_among n g js (and_r (not (among j js)) (distinct js) d) (and_r (ltb j n) (under n js) u))
  where
    alone : among j js ≡ false
    alone = not-true (among j js) (and_l (not (among j js)) (distinct js) d)

    spell : (a b c : Bool) → (b ≡ true → c ≡ false) → tally (a && (b || c)) ≡ tally (b && a) + tally (a && c)
    spell true true true h = absurd (true≢false (h refl))
    spell true true false h = refl
    spell true false c h = sym (zero-add (tally c))
    spell false true c h = refl
    spell false false c h = refl

    apart : (k : ℕ) → Dec (k ≡ j) → (a : Bool) → tally (a && (eqb k j || among k js)) ≡ tally (eqb k j && a) + tally (a && among k js)
    apart k (yes e) a = spell a (eqb k j) (among k js) (λ q. ap (λ z. among z js) e ∙ alone)
    apart k (no e) a = spell a (eqb k j) (among k js) (λ q. absurd (true≢false (sym q ∙ ne_eqb k j e)))

module _ (c : Code) where
  check_wrong : (bs : List ℕ) → T (under (bits c) bs) → (k : ℕ) → check c (wrong_bits bs) k ≡ over bs (covers c k)
  unfolding check
  check_wrong [] u k = sum_none (bits c) _ (λ n l. and-false (covers c k n))
  check_wrong (b ∷ bs) u k =
      check_flip c (wrong_bits bs) b (ltb→lt b (bits c) (and_l (ltb b (bits c)) (under (bits c) bs) u)) k
      ∙ ap (λ z. z ⊕ covers c k b) (check_wrong bs (and_r (ltb b (bits c)) (under (bits c) bs) u) k)
      ∙ ⊕-comm (over bs (covers c k)) (covers c k b)

  module _ (deg : ℕ → ℕ) (deg_is : (m : ℕ) → m < bits c → degree_of c m ≡ deg m) (some : c.unsent < bits c) (bs ks : List ℕ)
      (inside : T (under (bits c) bs)) (once : T (distinct ks)) (low : T (under (checks c) ks))
      (listed : T (below (checks c) (λ k. not (over bs (covers c k) ⊕ among k ks)))) where
    abbrev x : Word
    x = wrong_bits bs

    -- how many of a bit's checks are broken
    abbrev hits : ℕ → ℕ
    hits m = count_of ks (λ k. covers c k m)

    broken_hits : (m : ℕ) → broken_of c (wrong_bits bs) m ≡ count_of ks (λ k. covers c k m)
    unfolding broken_of
    broken_hits m =
        count_same (checks c) _ (λ k. covers c k m && among k ks) (λ k l. ap (λ z. covers c k m && z)
        (check_wrong bs inside k ∙ ⊕-eq (over bs (covers c k)) (among k ks)
        (not-true (over bs (covers c k) ⊕ among k ks) (below_at (checks c) (λ k. not (over bs (covers c k) ⊕ among k ks)) listed k l))))
        ∙ count_among (checks c) (λ k. covers c k m) ks once low

    all : (m : ℕ) → m < bits c → hits m + met_of c (wrong_bits bs) m ≡ deg m
    all m l = ap (λ z. z + met_of c (wrong_bits bs) m) (sym (broken_hits m)) ∙ broken_met c (wrong_bits bs) m ∙ deg_is m l

    -- a check is broken
    module _ (m₀ : ℕ) (Met-some : T (ltb 0 (count_of ks (λ k. covers c k m₀)))) where
      not_quiet : broken c (wrong_bits bs) ≡ 0 → ⊥
      not_quiet e = omega (arith, ltb→lt 0 (hits m₀) Met-some, broken_hits m₀, none_broken c (wrong_bits bs) e m₀)

      -- the greatest excess, the lowest of several: what is flipped
      pub flips : c.unsent ≤ m₀ → m₀ < bits c → T (ltb (deg m₀) (2 * hits m₀))
          → T (below (bits c) (λ m. when ltb m m₀ then ltb (2 * hits m + deg m₀) (2 * hits m₀ + deg m) else leb (2 * hits m + deg m₀)
          (2 * hits m₀ + deg m)))
          → by_excess c (wrong_bits bs) ≡ flip m₀ (excess c (wrong_bits bs) m₀)
      flips sent h up top =
          let at : chosen c (wrong_bits bs) ≡ m₀ = chosen_is c some (wrong_bits bs) m₀ sent h less more in
          flip_next c (wrong_bits bs) not_quiet
          (ap (λ z. lt_z (pos 0) (excess c (wrong_bits bs) z)) at ∙ above_is c (wrong_bits bs) m₀
          ∙ lt-ltb (met_of c (wrong_bits bs) m₀) (broken_of c (wrong_bits bs) m₀)
          (omega (arith, all m₀ h, broken_hits m₀, ltb→lt (deg m₀) (2 * hits m₀) up)))
          ∙ ap₂ flip at (ap (excess c (wrong_bits bs)) at)
        where
          tested : (m : ℕ) → m < bits c → T (when ltb m m₀ then ltb (2 * hits m + deg m₀) (2 * hits m₀ + deg m) else leb
              (2 * hits m + deg m₀) (2 * hits m₀ + deg m))
          tested = below_at (bits c) (λ m. when ltb m m₀ then ltb (2 * hits m + deg m₀) (2 * hits m₀ + deg m) else leb (2 * hits m + deg m₀)
              (2 * hits m₀ + deg m)) top

          less : (m : ℕ) → m < m₀ → lt_z (excess c (wrong_bits bs) m) (excess c (wrong_bits bs) m₀) ≡ true
          less m l =
              let t = ltb→lt (2 * hits m + deg m₀) (2 * hits m₀ + deg m)
              (subst (λ b. T (when b then ltb (2 * hits m + deg m₀) (2 * hits m₀ + deg m) else leb (2 * hits m + deg m₀)
              (2 * hits m₀ + deg m))) (lt-ltb m m₀ l) (tested m (omega arith))) in
              excess_order c (wrong_bits bs) m m₀
              ∙ lt-ltb (broken_of c (wrong_bits bs) m + met_of c (wrong_bits bs) m₀)
              (broken_of c (wrong_bits bs) m₀ + met_of c (wrong_bits bs) m)
              (omega (arith, t, all m (omega arith), all m₀ h, broken_hits m, broken_hits m₀))

          more : (m : ℕ) → m < bits c → lt_z (excess c (wrong_bits bs) m₀) (excess c (wrong_bits bs) m) ≡ false
          more m l = excess_order c (wrong_bits bs) m₀ m ∙ by (dec_lt m m₀)
            where
              by : Dec (m < m₀) → ltb (broken_of c (wrong_bits bs) m₀ + met_of c (wrong_bits bs) m)
                  (broken_of c (wrong_bits bs) m + met_of c (wrong_bits bs) m₀) ≡ false
              by (yes e) =
                  let t = ltb→lt (2 * hits m + deg m₀) (2 * hits m₀ + deg m)
                  (subst (λ b. T (when b then ltb (2 * hits m + deg m₀) (2 * hits m₀ + deg m) else leb (2 * hits m + deg m₀)
                  (2 * hits m₀ + deg m))) (lt-ltb m m₀ e) (tested m l)) in
                  le-ltb (broken_of c (wrong_bits bs) m₀ + met_of c (wrong_bits bs) m)
                  (broken_of c (wrong_bits bs) m + met_of c (wrong_bits bs) m₀)
                  (omega (arith, t, all m l, all m₀ h, broken_hits m, broken_hits m₀))
              by (no d) =
                  let t = leb→le (2 * hits m + deg m₀) (2 * hits m₀ + deg m)
                  (subst (λ b. T (when b then ltb (2 * hits m + deg m₀) (2 * hits m₀ + deg m) else leb (2 * hits m + deg m₀)
                  (2 * hits m₀ + deg m))) (le-ltb m m₀ (omega (arith, lt_of_not-le d))) (tested m l)) in
                  le-ltb (broken_of c (wrong_bits bs) m₀ + met_of c (wrong_bits bs) m)
                  (broken_of c (wrong_bits bs) m + met_of c (wrong_bits bs) m₀)
                  (omega (arith, t, all m l, all m₀ h, broken_hits m, broken_hits m₀))

      -- no excess above 0: stuck
      pub sticks : T (below (bits c) (λ m. leb (2 * hits m) (deg m)))
          → by_excess c (wrong_bits bs) ≡ stuck (chosen c (wrong_bits bs)) (excess c (wrong_bits bs) (chosen c (wrong_bits bs)))
      sticks none =
          let n = chosen c (wrong_bits bs) in
          let h : n < bits c = omega (arith, (chosen_greatest c some (wrong_bits bs)).under) in
          let t = leb→le (2 * hits n) (deg n) (below_at (bits c) (λ m. leb (2 * hits m) (deg m)) none n h) in
          stuck_next c (wrong_bits bs) not_quiet
          (above_is c (wrong_bits bs) n ∙ le-ltb (met_of c (wrong_bits bs) n) (broken_of c (wrong_bits bs) n)
          (omega (arith, t, all n h, broken_hits n)))

-- ---- runs that do not end quiet

pub stuck_run : (c : Code) (y : Word) (k : ℕ) (ex : ℤ) → by_excess c y ≡ stuck k ex → (limit : ℕ)
    → ((run (by_excess c) limit y).number ≡ 0 → ⊥)
stuck_run c y k ex e limit q = let z : ◌≡◌ {A = ℕ} 5 0 = sym (ap (λ r. r.number) (run_stuck (by_excess c) limit y k ex e))
    ∙ q in omega arith

pub flip_run : (c : Code) (y : Word) (k : ℕ) (ex : ℤ) → by_excess c y ≡ flip k ex
    → ((limit : ℕ) → (run (by_excess c) limit (flipped y k)).number ≡ 0 → ⊥)
    → (limit : ℕ) → ((run (by_excess c) limit y).number ≡ 0 → ⊥)
flip_run c y k ex e later zero q = let z : ◌≡◌ {A = ℕ} 6 0 = sym (ap (λ r. r.number) (run_limit (by_excess c) y k ex e)) ∙ q in omega arith
flip_run c y k ex e later (suc limit) q = later limit (sym (ap (λ r. r.number) (run_flip (by_excess c) limit y k ex e)) ∙ q)

-- ---- the five

pub deg1 : (m : ℕ) → m < bits code1 → degree_of code1 m ≡ degree parity16 (m / 16)
unfolding degree_of code1 parity16 generator16
deg1 m h = degree_in 16 8 0 15 parity16 generator16 16 8 tt m h

run1 : (limit : ℕ) → ((run (by_excess code1) limit (wrong_bits (43 ∷ 27 ∷ 0 ∷ []))).number ≡ 0 → ⊥)
unfolding code1 parity16
run1 =
    flip_run code1 (wrong_bits (43 ∷ 27 ∷ 0 ∷ [])) 106 _
    (flips code1 (λ m. degree parity16 (m / 16)) deg1 published1.some (43 ∷ 27 ∷ 0 ∷ [])
    (0 ∷ 13 ∷ 26 ∷ 28 ∷ 42 ∷ 43 ∷ 48 ∷ 50 ∷ 58 ∷ []) tt tt tt tt 106 tt zero-le (lit< tt) tt tt)
    (stuck_run code1 (wrong_bits (106 ∷ 43 ∷ 27 ∷ 0 ∷ [])) _ _
    (sticks code1 (λ m. degree parity16 (m / 16)) deg1 published1.some (106 ∷ 43 ∷ 27 ∷ 0 ∷ []) (0 ∷ 28 ∷ 42 ∷ 43 ∷ 48 ∷ 50 ∷ []) tt tt
    tt tt 0 tt tt))

deg2 : (m : ℕ) → m < bits code2 → degree_of code2 m ≡ degree parity32 (m / 32)
unfolding degree_of code2 parity32 generator32
deg2 m h = degree_in 32 16 0 31 parity32 generator32 32 8 tt m h

run2 : (limit : ℕ) → ((run (by_excess code2) limit (wrong_bits (188 ∷ 157 ∷ 32 ∷ []))).number ≡ 0 → ⊥)
unfolding code2 parity32
run2 =
    flip_run code2 (wrong_bits (188 ∷ 157 ∷ 32 ∷ [])) 241 _
    (flips code2 (λ m. degree parity32 (m / 32)) deg2 published2.some (188 ∷ 157 ∷ 32 ∷ []) (8 ∷ 17 ∷ 32 ∷ 34 ∷ 61 ∷ 92 ∷ 100 ∷ []) tt
    tt tt tt 241 tt zero-le (lit< tt) tt tt)
    (stuck_run code2 (wrong_bits (241 ∷ 188 ∷ 157 ∷ 32 ∷ [])) _ _
    (sticks code2 (λ m. degree parity32 (m / 32)) deg2 published2.some (241 ∷ 188 ∷ 157 ∷ 32 ∷ []) (8 ∷ 32 ∷ 34 ∷ 100 ∷ []) tt tt tt tt
    32 tt tt))

deg3 : (m : ℕ) → m < bits code3 → degree_of code3 m ≡ degree parity64 (m / 64)
unfolding degree_of code3 parity64 generator64
deg3 m h = degree_in 64 32 0 63 parity64 generator64 64 8 tt m h

run3 : (limit : ℕ) → ((run (by_excess code3) limit (wrong_bits (377 ∷ 325 ∷ 128 ∷ []))).number ≡ 0 → ⊥)
unfolding code3 parity64
run3 =
    flip_run code3 (wrong_bits (377 ∷ 325 ∷ 128 ∷ [])) 25 _
    (flips code3 (λ m. degree parity64 (m / 64)) deg3 published3.some (377 ∷ 325 ∷ 128 ∷ [])
    (26 ∷ 78 ∷ 128 ∷ 133 ∷ 137 ∷ 185 ∷ 246 ∷ []) tt tt tt tt 25 tt zero-le (lit< tt) tt tt)
    (stuck_run code3 (wrong_bits (25 ∷ 377 ∷ 325 ∷ 128 ∷ [])) _ _
    (sticks code3 (λ m. degree parity64 (m / 64)) deg3 published3.some (25 ∷ 377 ∷ 325 ∷ 128 ∷ []) (25 ∷ 78 ∷ 97 ∷ 128 ∷ 133 ∷ 185 ∷ [])
    tt tt tt tt 6 tt tt))

-- three bits of which each two share a check: each has as many checks met as broken
run4 : (limit : ℕ) → ((run (by_excess code4) limit (wrong_bits (1216 ∷ 194 ∷ 18 ∷ []))).number ≡ 0 → ⊥)
unfolding code code4 parity511
run4 =
    stuck_run code4 (wrong_bits (1216 ∷ 194 ∷ 18 ∷ [])) _ _
    (sticks code4 (λ m. 4) (near_degree 4 tt) published4.some (1216 ∷ 194 ∷ 18 ∷ []) (569 ∷ 606 ∷ 745 ∷ 781 ∷ 941 ∷ 1018 ∷ []) tt tt tt
    tt 18 tt tt)

run5 : (limit : ℕ) → ((run (by_excess code5) limit (wrong_bits (1216 ∷ 194 ∷ 18 ∷ []))).number ≡ 0 → ⊥)
unfolding code code5 parity511
run5 =
    stuck_run code5 (wrong_bits (1216 ∷ 194 ∷ 18 ∷ [])) _ _
    (sticks code5 (λ m. 4) (near_degree 5 tt) published5.some (1216 ∷ 194 ∷ 18 ∷ []) (569 ∷ 606 ∷ 745 ∷ 781 ∷ 941 ∷ 1018 ∷ []) tt tt tt
    tt 18 tt tt)

-- ---- the same of correct

module _ (n : ℕ) (off : T (offered n)) (a b d : ℕ) (ha : a < 8 * (code n).octets_of_word) (hb : b < 8 * (code n).octets_of_word)
    (hd : d < 8 * (code n).octets_of_word) where
  zeros : bit (replicate (code n).octets_of_word 0) ≡ wrong_bits []
  zeros = fun_ext (λ i. ap (λ z. digit 8 z (i % 8)) (zeros_at (code n).octets_of_word (i / 8)) ∙ digit_zero 8 (i % 8))

  none : lifted (code n) (wrong_bits []) ≡ wrong_bits []
  unfolding lifted
  none = fun_ext (λ i. and-false (not (ltb i (code n).unsent)))

  lifted_three : lifted (code n) (bit (three_wrong (code n) (replicate (code n).octets_of_word 0) a b d)) ≡ wrong_bits
      ((d + (code n).unsent) ∷ (b + (code n).unsent) ∷ (a + (code n).unsent) ∷ [])
  lifted_three =
      ap (lifted (code n)) (bit_one_wrong (code n) (two_wrong (code n) (replicate (code n).octets_of_word 0) a b) d
      (length_octets (code n).octets_of_word (flipped (bit (one_wrong (code n) (replicate (code n).octets_of_word 0) a)) b)) hd
      ∙ ap (λ y. flipped y d) (bit_one_wrong (code n) (one_wrong (code n) (replicate (code n).octets_of_word 0) a) b
      (length_octets (code n).octets_of_word (flipped (bit (replicate (code n).octets_of_word 0)) a)) hb
      ∙ ap (λ y. flipped y b)
      (bit_one_wrong (code n) (replicate (code n).octets_of_word 0) a (length-replicate (code n).octets_of_word 0) ha
      ∙ ap (λ y. flipped y a) zeros)))
      ∙ lifted_flip (code n) (flipped (flipped (wrong_bits []) a) b) d ∙ ap (λ y. flipped y (d + (code n).unsent))
      (lifted_flip (code n) (flipped (wrong_bits []) a) b
      ∙ ap (λ y. flipped y (b + (code n).unsent)) (lifted_flip (code n) (wrong_bits []) a
      ∙ ap (λ y. flipped y (a + (code n).unsent)) none))

  not-zero : ((limit : ℕ) → (run (by_excess (code n)) limit
      (wrong_bits ((d + (code n).unsent) ∷ (b + (code n).unsent) ∷ (a + (code n).unsent) ∷ []))).number ≡ 0 → ⊥)
      → (limit : ℕ) (out : List ℕ) → length out ≡ (code n).octets_of_word
      → (correct_answer n (three_wrong (code n) (replicate (code n).octets_of_word 0) a b d) limit out).number ≡ 0 → ⊥
  unfolding ran_correct
  not-zero ran limit out lo e =
      let r : Run = run (by_excess (code n)) limit
      (lifted (code n) (bit (three_wrong (code n) (replicate (code n).octets_of_word 0) a b d))) in
      let z : r.number ≡ 0 → ⊥ = λ q. ran limit (ap (λ y. (run (by_excess (code n)) limit y).number) (sym lifted_three) ∙ q) in
      let is : judged (code n) r ≡ 0 =
      sym (ap (λ a. a.number) (correct_taken n (three_wrong (code n) (replicate (code n).octets_of_word 0) a b d) limit out off
      (length_octets (code n).octets_of_word (flipped (bit (two_wrong (code n) (replicate (code n).octets_of_word 0) a b)) d)) lo)) ∙ e in
      z (sym (judged_other (code n) r r.number refl z) ∙ is)

-- For each code the zero word with three wrong bits: correct does not answer 0, whatever the limit.
abbrev pub NotMended : ℕ → ℕ → ℕ → ℕ → Type 0
NotMended n a b d = (limit : ℕ) (out : List ℕ) → length out ≡ (code n).octets_of_word
    → (correct_answer n (three_wrong (code n) (replicate (code n).octets_of_word 0) a b d) limit out).number ≡ 0 → ⊥

pub three_not_mended : NotMended 1 0 27 43 × NotMended 2 32 157 188 × NotMended 3 128 325 377 × NotMended 4 18 194 1216
    × NotMended 5 0 176 1198
unfolding code code1 code2 code3 code4 code5
three_not_mended = (
  not-zero 1 tt 0 27 43 (lit< tt) (lit< tt) (lit< tt) run1,
  not-zero 2 tt 32 157 188 (lit< tt) (lit< tt) (lit< tt) run2,
  not-zero 3 tt 128 325 377 (lit< tt) (lit< tt) (lit< tt) run3,
  not-zero 4 tt 18 194 1216 (lit< tt) (lit< tt) (lit< tt) run4,
  not-zero 5 tt 0 176 1198 (lit< tt) (lit< tt) (lit< tt) run5,
)
