-- The 16 pairs of wrong bits of code 1 that correct does not mend, whatever the limit: two right bits are flipped, and then no bit has an
-- excess above 0. What comes next is computed for each from the list of its broken checks.
use mathlib.Core.Path.{◌≡◌, refl, sym, ap, ap₂, ◌∙◌, fun_ext, subst}
use mathlib.Core.Bool.{Bool, true, not, ◌&&◌}
use mathlib.Core.List.{List, [], ◌∷◌}
use Prim.Native.Nat.{ℕ, ◌+◌, ◌-◌, ◌*◌, ◌/◌, ◌%◌, ◌<◌, zero-le}
use native.Mathlib.Nat.{mod-lt, zero-lt-suc, div-add-mod'}
use native.Mathlib.Omega.{arith}
use lib.Dec.{T, eqb, leb, ltb, ltb→lt, eqb→eq}
use lib.ListN.{length}
use Rattle.bits.specs.Bits.{Word, bit, over, count_of, below, ◌⊕◌, flipped, when◌then◌else◌}
use Rattle.rules.specs.Tables.{parity16}
use Rattle.rules.specs.Codes.{code, code1, bits}
use Rattle.rules.specs.Checks.{covers, excess}
use Rattle.rules.specs.Encoding.{lifted, codeword}
use Rattle.rules.specs.Flipping.{flip, stuck, by_excess, Run, run}
use Rattle.answers.specs.Calls.{judged, ran_correct, correct_answer}
use Rattle.answers.specs.Promises.{further, sixteen}
use Rattle.bits.proofs.Sums.{⊕-assoc, and_l, and_r, below_at}
use Rattle.bits.proofs.Octets.{Octets, length_octets}
use Rattle.rules.proofs.Blocks.{degree}
use Rattle.rules.proofs.Two.{flip_swap}
use Rattle.rules.proofs.Corners.{either_of}
use Rattle.rules.proofs.Alike.{run_alike}
use Rattle.rules.proofs.Choosing.{chosen, next_same}
use Rattle.rules.proofs.Published.{published1}
use Rattle.answers.proofs.Answers.{correct_taken}
use Rattle.answers.proofs.Corrections.{one_wrong, judged_other, met}
use Rattle.answers.proofs.Wrong.{two_wrong, two_lifted}
use Rattle.answers.proofs.Three.{among, distinct, under, wrong_bits, flips, sticks, stuck_run, flip_run, deg1}

-- ---- the tests of a word by its bits and its broken checks

abbrev hits : List ℕ → ℕ → ℕ
hits ks m = count_of ks (λ k. covers code1 k m)

abbrev deg : ℕ → ℕ
deg m = degree parity16 (m / 16)

-- the list is that of the broken checks, and one of them covers bit m₀
abbrev lists : List ℕ → List ℕ → ℕ → Bool
lists bs ks m₀ =
    under 128 bs && (distinct ks && (under 64 ks && (below 64 (λ k. not (over bs (covers code1 k) ⊕ among k ks)) && ltb 0 (hits ks m₀))))

-- bit m₀ has the greatest excess, and that is above 0
abbrev greatest_at : List ℕ → ℕ → Bool
greatest_at ks m₀ =
    ltb m₀ 128 && (ltb (deg m₀) (2 * hits ks m₀) && below 128 (λ m. when ltb m m₀ then ltb (2 * hits ks m + deg m₀) (2 * hits ks m₀ + deg m)
    else leb (2 * hits ks m + deg m₀) (2 * hits ks m₀ + deg m)))

abbrev none_above : List ℕ → Bool
none_above ks = below 128 (λ m. leb (2 * hits ks m) (deg m))

module _ (bs ks : List ℕ) (m₀ : ℕ) where
  abbrev within : Bool
  within = below 64 (λ k. not (over bs (covers code1 k) ⊕ among k ks))

  flips_at : T (lists bs ks m₀ && greatest_at ks m₀) → by_excess code1 (wrong_bits bs) ≡ flip m₀ (excess code1 (wrong_bits bs) m₀)
  unfolding code1 parity16
  flips_at t =
      let l = and_l (lists bs ks m₀) (greatest_at ks m₀) t in
      let g = and_r (lists bs ks m₀) (greatest_at ks m₀) t in
      let l₁ = and_r (under 128 bs) _ l in
      let l₂ = and_r (distinct ks) _ l₁ in
      let l₃ = and_r (under 64 ks) _ l₂ in
      let g₁ = and_r (ltb m₀ 128) _ g in
      flips code1 deg deg1 published1.some bs ks (and_l (under 128 bs) _ l) (and_l (distinct ks) _ l₁) (and_l (under 64 ks) _ l₂)
      (and_l within _ l₃) m₀ (and_r within _ l₃) zero-le (ltb→lt m₀ 128 (and_l (ltb m₀ 128) _ g))
      (and_l (ltb (deg m₀) (2 * hits ks m₀)) _ g₁) (and_r (ltb (deg m₀) (2 * hits ks m₀)) _ g₁)

  sticks_at : T (lists bs ks m₀ && none_above ks)
      → by_excess code1 (wrong_bits bs) ≡ stuck (chosen code1 (wrong_bits bs)) (excess code1 (wrong_bits bs) (chosen code1 (wrong_bits bs)))
  unfolding code1 parity16
  sticks_at t =
      let l = and_l (lists bs ks m₀) (none_above ks) t in
      let l₁ = and_r (under 128 bs) _ l in
      let l₂ = and_r (distinct ks) _ l₁ in
      let l₃ = and_r (under 64 ks) _ l₂ in
      sticks code1 deg deg1 published1.some bs ks (and_l (under 128 bs) _ l) (and_l (distinct ks) _ l₁) (and_l (under 64 ks) _ l₂)
      (and_l within _ l₃) m₀ (and_r within _ l₃) (and_r (lists bs ks m₀) (none_above ks) t)

-- ---- the run

-- place j of a block or a block row that begins at n, turned round
abbrev at : ℕ → ℕ → ℕ
at n j = n + j % 16

-- the wrong bits, and the right bits that are flipped: the lower of 75 and 77, turned round, and then the other
abbrev pair : ℕ → List ℕ
pair j = at 96 (j + 13) ∷ (80 + j) ∷ []

abbrev before : ℕ → Bool
before j = ltb (at 64 (j + 11)) (at 64 (j + 13))

abbrev low : ℕ → ℕ
low j = when before j then at 64 (j + 11) else at 64 (j + 13)

abbrev high : ℕ → ℕ
high j = when before j then at 64 (j + 13) else at 64 (j + 11)

-- the broken checks, before each flip and at the end
abbrev four : ℕ → List ℕ
four j = at 16 (j + 13) ∷ at 32 j ∷ at 48 (j + 13) ∷ at 48 (j + 15) ∷ []

abbrev three : ℕ → List ℕ
three j =
    when before j then at 16 (j + 11) ∷ at 16 (j + 13) ∷ at 48 (j + 15) ∷ []
    else at 32 j ∷ at 32 (j + 2) ∷ at 48 (j + 13) ∷ []

abbrev two : ℕ → List ℕ
two j = at 16 (j + 11) ∷ at 32 (j + 2) ∷ []

first_flips : T (below 16 (λ j. lists (pair j) (four j) (low j) && greatest_at (four j) (low j)))
unfolding code1 parity16
first_flips = tt

second_flips : T (below 16 (λ j. lists (low j ∷ pair j) (three j) (high j) && greatest_at (three j) (high j)))
unfolding code1 parity16
second_flips = tt

then_stuck : T (below 16 (λ j. lists (high j ∷ low j ∷ pair j) (two j) (low j) && none_above (two j)))
unfolding code1 parity16
then_stuck = tt

pair_run : (j : ℕ) → j < 16 → (limit : ℕ) → (run (by_excess code1) limit (wrong_bits (pair j))).number ≡ 0 → ⊥
pair_run j h =
    flip_run code1 (wrong_bits (pair j)) (low j) _ (flips_at (pair j) (four j) (low j)
    (below_at 16 (λ j. lists (pair j) (four j) (low j) && greatest_at (four j) (low j)) first_flips j h))
    (flip_run code1 (wrong_bits (low j ∷ pair j)) (high j) _ (flips_at (low j ∷ pair j) (three j) (high j)
    (below_at 16 (λ j. lists (low j ∷ pair j) (three j) (high j) && greatest_at (three j) (high j)) second_flips j h))
    (stuck_run code1 (wrong_bits (high j ∷ low j ∷ pair j)) _ _ (sticks_at (high j ∷ low j ∷ pair j) (two j) (low j)
    (below_at 16 (λ j. lists (high j ∷ low j ∷ pair j) (two j) (low j) && none_above (two j)) then_stuck j h))))

-- ---- the same of correct, whatever codeword was sent

module _ (word out : List ℕ) (lw : length word ≡ (code 1).octets_of_word) (lo : length out ≡ (code 1).octets_of_word) (oct : Octets word)
    (is : codeword (code 1) (bit word) ≡ true) where
  abbrev x : Word
  x = lifted (code 1) (bit word)

  run_from : (j : ℕ) → j < 16 → (limit : ℕ) → (run (by_excess (code 1)) limit
      (flipped (flipped (lifted (code 1) (bit word)) (80 + j)) (at 96 (j + 13)))).number ≡ 0 → ⊥
  unfolding code
  run_from j h limit q =
      pair_run j h limit (sym (ap (λ r. r.number) (ap (run (by_excess (code 1)) limit)
      (fun_ext (λ i. ⊕-assoc (x i) (eqb i (80 + j)) (eqb i (at 96 (j + 13)))))
      ∙ run_alike (code 1) x (met 1 tt word out lw lo oct is) (by_excess (code 1)) (next_same (code 1)) limit (wrong_bits (pair j)))) ∙ q)

  from_further : (b d : ℕ) → T (further 5 6 13 b d) → (limit : ℕ) → (run (by_excess (code 1)) limit
      (flipped (flipped (lifted (code 1) (bit word)) b) d)).number ≡ 0 → ⊥
  from_further b d t =
      let u = and_r (eqb (b / 16) 5) (eqb (d / 16) 6 && eqb (d % 16) ((b % 16 + 13) % 16)) t in
      let p = eqb→eq (b / 16) 5 (and_l (eqb (b / 16) 5) (eqb (d / 16) 6 && eqb (d % 16) ((b % 16 + 13) % 16)) t) in
      let q = eqb→eq (d / 16) 6 (and_l (eqb (d / 16) 6) (eqb (d % 16) ((b % 16 + 13) % 16)) u) in
      let r = eqb→eq (d % 16) ((b % 16 + 13) % 16) (and_r (eqb (d / 16) 6) (eqb (d % 16) ((b % 16 + 13) % 16)) u) in
      let eb : b ≡ 80 + b % 16 = omega (arith, div-add-mod' b 16) in
      let ed : d ≡ at 96 (b % 16 + 13) = omega (arith, div-add-mod' d 16) in
      λ limit. subst (λ y. (run (by_excess (code 1)) limit y).number ≡ 0 → ⊥)
      (sym (ap₂ (λ i k. flipped (flipped (lifted (code 1) (bit word)) i) k) eb ed)) (run_from (b % 16) (mod-lt b (zero-lt-suc 15)) limit)

  from_sixteen : (b d : ℕ) → T (sixteen b d) → (limit : ℕ) → (run (by_excess (code 1)) limit
      (flipped (flipped (lifted (code 1) (bit word)) b) d)).number ≡ 0 → ⊥
  from_sixteen b d t limit =
      either_of (further 5 6 13 b d) (further 5 6 13 d b) t (λ u. from_further b d u limit)
      (λ u. subst (λ y. (run (by_excess (code 1)) limit y).number ≡ 0 → ⊥) (flip_swap (lifted (code 1) (bit word)) d b)
      (from_further d b u limit))

  -- a codeword of code 1 with two wrong bits of these: correct does not answer 0, whatever the limit
  pub not_mended : (limit b d : ℕ) → b < bits (code 1) - (code 1).unsent → d < bits (code 1) - (code 1).unsent → T (sixteen b d)
      → (correct_answer 1 (two_wrong (code 1) word b d) limit out).number ≡ 0 → ⊥
  unfolding ran_correct
  not_mended limit b d hb hd t e =
      let r : Run = run (by_excess (code 1)) limit (lifted (code 1) (bit (two_wrong (code 1) word b d))) in
      let same = two_lifted 1 tt word out lw lo oct is b d hb hd in
      let plain : flipped (flipped (lifted (code 1) (bit word)) (b + (code 1).unsent)) (d + (code 1).unsent)
      ≡ flipped (flipped (lifted (code 1) (bit word)) b) d = ap₂ (λ i k. flipped (flipped (lifted (code 1) (bit word)) i) k) (unsent b)
      (unsent d) in
      let z : r.number ≡ 0 → ⊥ = λ q. from_sixteen b d t limit (ap (λ y. (run (by_excess (code 1)) limit y).number) (sym (same ∙ plain))
      ∙ q) in
      let is : judged (code 1) r ≡ 0 =
      sym (ap (λ a. a.number) (correct_taken 1 (two_wrong (code 1) word b d) limit out tt
      (length_octets (code 1).octets_of_word (flipped (bit (one_wrong (code 1) word b)) d)) lo)) ∙ e in
      z (sym (judged_other (code 1) r r.number refl z) ∙ is)
    where
      none : (code 1).unsent ≡ 0
      none = unfold code in unfold code1 in refl

      unsent : (b : ℕ) → b + (code 1).unsent ≡ b
      unsent b = omega (arith, none)
