-- Demand 3, over correct's answers: for every code number, every word, every limit and every output.
use mathlib.Core.Path.{◌≡◌, refl, sym, ap, ap₂, ◌∙◌, fun_ext, subst}
use mathlib.Core.Bool.{Bool, true, false, not, ◌&&◌, true≢false}
use mathlib.Core.List.{List}
use Prim.Native.Nat.{ℕ, zero, suc, ◌+◌, ◌-◌, ◌*◌, ◌≤◌, ◌<◌, zero-le}
use native.Mathlib.Nat.{le_of_eq, lt_of_not-le, lt_of_lt_of_le}
use native.Mathlib.Decide.{dec_lt}
use native.Mathlib.Omega.{arith}
use lib.Dec.{T, eqb, leb, ltb, leb→le, nltb→le}
use lib.IntN.{pos}
use lib.ListN.{length}
use borrow.Author.Tests.{eqb-true, eq-eqb, ne_eqb, lt-ltb, le-ltb}
use Rattle.bits.specs.Bits.{Word, bit, octets, count, ◌⊕◌, flipped, when◌then◌else◌}
use Rattle.rules.specs.Codes.{Code, code, code4, code5, bits, checks, offered}
use Rattle.rules.specs.Checks.{check, broken, lowest, degree_of}
use Rattle.rules.specs.Encoding.{lifted, sent, codeword, written}
use Rattle.rules.specs.Flipping.{Way, by_excess, Run, run, ended, after}
use Rattle.answers.specs.Calls.{Corrected, differing, judged, unless, refused_correct_of, ran_correct, ran_from, correct_answer}
use Rattle.bits.proofs.Sums.{⊕-self, ⊕-false, and_l, and_r, eqb_iff}
use Rattle.bits.proofs.Counting.{count_none, none_counted}
use Rattle.bits.proofs.Octets.{Octets, length_octets, bit_octets, bit_past}
use Rattle.rules.proofs.Runs.{run_within, run_quiet, run_stuck, run_unchanged}
use Rattle.rules.proofs.Ways.{Chooses, TakesGreatest, Girth, run_fall, limit_serves, run_half, half_serves, one_mended, first_count}
use Rattle.rules.proofs.Choosing.{by_excess_lem, by_greatest, broken_same, next_same, unsent_stuck}
use Rattle.rules.proofs.Published.{Published, near_four}
use Rattle.rules.proofs.Codewords.{own_codeword, codeword_own, codeword_quiet, codeword_sent, written_back, bit_written, lifted_unsent}
use Rattle.rules.proofs.Codewords.{lifted_sent_bit, lifted_back, check_same}
use Rattle.answers.proofs.Differing.{differ_self, differ_one}
use Rattle.answers.proofs.Answers.{refusal_cases, correct_cases, correct_taken}
use Rattle.rules.proofs.Lowest.{quiet_lowest}
use Rattle.rules.proofs.Numbers.{published}

-- ---- the number that a run is judged by

module _ (c : Code) (r : Run) where
  -- a quiet end whose sent bits are no codeword is refused
  pub judged_parity : r.number ≡ 0 → count c.unsent r.word ≡ 0 → codeword c (sent c r.word) ≡ false → judged c r ≡ 8
  judged_parity e none other_length = rw (e, none, other_length)

  -- what is not quiet is not judged again
  pub judged_other : (m : ℕ) → r.number ≡ m → (m ≡ 0 → ⊥) → judged c r ≡ m
  judged_other m e d =
      ap (λ b. when not b then r.number else when ltb 0 (count c.unsent r.word) then 7 else when not (codeword c (sent c r.word)) then
      8 else 0)
      (ne_eqb r.number 0 (λ q. d (sym e ∙ q)))
      ∙ e

  -- refusal 6 is the run's own
  pub judged_limit : judged c r ≡ 6 → r.number ≡ 6
  judged_limit e = go (eqb r.number 0) (ltb 0 (count c.unsent r.word)) (codeword c (sent c r.word)) refl refl refl
    where
      spelled : (p q s : Bool) → eqb r.number 0 ≡ p → ltb 0 (count c.unsent r.word) ≡ q → codeword c (sent c r.word) ≡ s
          → (when not p then r.number else when q then 7 else when not s then 8 else 0) ≡ 6
      spelled p q s f g h =
          sym (ap (λ p. when not p then r.number else when ltb 0 (count c.unsent r.word) then 7 else when not
          (codeword c (sent c r.word)) then 8 else 0) f
          ∙ ap₂ (λ q s. when not p then r.number else when q then 7 else when not s then 8 else 0) g h) ∙ e

      go : (p q s : Bool) → eqb r.number 0 ≡ p → ltb 0 (count c.unsent r.word) ≡ q → codeword c (sent c r.word) ≡ s
          → r.number ≡ 6
      go false q s f g h = spelled false q s f g h
      go true true s f g h = let z = spelled true true s f g h in absurd (omega arith)
      go true false true f g h = let z = spelled true false true f g h in absurd (omega arith)
      go true false false f g h = let z = spelled true false false f g h in absurd (omega arith)

  -- what is taken ended quiet, its unsent bits are 0, and its sent bits are a codeword
  pub judged_zero : judged c r ≡ 0
      → (r.number ≡ 0) × ((n : ℕ) → n < c.unsent → r.word n ≡ false) × (codeword c (sent c r.word) ≡ true)
  judged_zero e = go (eqb r.number 0) (ltb 0 (count c.unsent r.word)) (codeword c (sent c r.word)) refl refl refl
    where
      spelled : (p q s : Bool) → eqb r.number 0 ≡ p → ltb 0 (count c.unsent r.word) ≡ q → codeword c (sent c r.word) ≡ s
          → (when not p then r.number else when q then 7 else when not s then 8 else 0) ≡ 0
      spelled p q s f g h =
          sym (ap (λ p. when not p then r.number else when ltb 0 (count c.unsent r.word) then 7 else when not
          (codeword c (sent c r.word)) then 8 else 0) f
          ∙ ap₂ (λ q s. when not p then r.number else when q then 7 else when not s then 8 else 0) g h) ∙ e

      go : (p q s : Bool) → eqb r.number 0 ≡ p → ltb 0 (count c.unsent r.word) ≡ q → codeword c (sent c r.word) ≡ s
          → (r.number ≡ 0) × ((n : ℕ) → n < c.unsent → r.word n ≡ false) × (codeword c (sent c r.word) ≡ true)
      go false q s f g h = absurd (true≢false (sym (eq-eqb r.number 0 (spelled false q s f g h)) ∙ f))
      go true true s f g h = let z = spelled true true s f g h in absurd (omega arith)
      go true false false f g h = let z = spelled true false false f g h in absurd (omega arith)
      go true false true f g h = (
        eqb-true r.number 0 f,
        none_counted c.unsent r.word
            (omega (arith, nltb→le 0 (count c.unsent r.word) (subst (λ b. T (not b)) (sym g) tt))),
        h,
      )

  -- a quiet end whose unsent bits are 0 and whose sent bits are a codeword is taken
  pub judged_done : r.number ≡ 0 → ((n : ℕ) → n < c.unsent → r.word n ≡ false) → codeword c (sent c r.word) ≡ true → judged c r ≡ 0
  judged_done e none is =
      ap (λ p. when not p then r.number else when ltb 0 (count c.unsent r.word) then 7 else when not (codeword c (sent c r.word)) then
      8 else 0) (eq-eqb r.number 0 e)
      ∙ ap₂ (λ q s. when q then 7 else when not s then 8 else 0)
      (le-ltb 0 (count c.unsent r.word) (le_of_eq (count_none c.unsent r.word none))) is

-- where the number is 0 the output octets are a codeword, whatever the run
pub ran_codeword : (c : Code) → Published c → (x : Word) (r : Run) (out : List ℕ) → (ran_correct c x r out).number ≡ 0
    → (length (ran_correct c x r out).out ≡ c.octets_of_word) × (codeword c (bit (ran_correct c x r out).out) ≡ true)
unfolding ran_correct
ran_codeword c pb x r out e =
    let w : (when eqb (judged c r) 0 then written c r.word else out) ≡ written c r.word =
    ap (λ b. when b then written c r.word else out) (eq-eqb (judged c r) 0 e) in (
      ap length w ∙ length_octets c.octets_of_word (sent c r.word),
      ap (λ o. codeword c (bit o)) w ∙ ap (codeword c) (bit_written c pb r.word) ∙ (judged_zero c r e).2,
    )

-- ---- the bounds, for every way of choosing

module _ (c : Code) {way : Way} (ch : Chooses c way) (x : Word) (limit : ℕ) (out : List ℕ) where
  abbrev pub ran : Corrected
  ran = ran_correct c x (run way limit x) out

  -- the flips never exceed the limit
  pub ran_within_limit : ran.flips ≤ limit
  unfolding ran_correct
  ran_within_limit = run_within way limit x

  -- nor what the count of broken checks falls by, so nor the checks broken at the start
  pub ran_fall : ran.flips + ran.last ≤ ran.first
  unfolding ran_correct
  ran_fall = run_fall ch limit x

  -- so a limit no smaller than those is never the cause of a refusal
  pub ran_enough : ran.first ≤ limit → ran.number ≡ 6 → ⊥
  unfolding ran_correct
  ran_enough h e = limit_serves ch limit x h (judged_limit c (run way limit x) e)

  -- a larger limit changes nothing once a run ended otherwise than by the limit
  pub ran_unchanged : (more : ℕ) → (ran.number ≡ 6 → ⊥) → ran_correct c x (run way (limit + more) x) out ≡ ran
  unfolding ran_correct
  ran_unchanged more no6 = ap (λ r. ran_correct c x r out) (run_unchanged way more limit x (λ e. no6 (six e)))
    where
      six : (run way limit x).number ≡ 6 → judged c (run way limit x) ≡ 6
      six e = ap (λ z. when not (eqb z 0) then z else when ltb 0 (count c.unsent (run way limit x).word) then 7 else when not
          (codeword c (sent c (run way limit x).word)) then 8 else 0) e

  -- where every bit has an even number of checks: never more than half
  module _ (even : (n : ℕ) → n < bits c → (h : ℕ) × (degree_of c n ≡ 2 * h)) where
    pub ran_within_half : 2 * ran.flips ≤ ran.first
    unfolding ran_correct
    ran_within_half = omega (arith, run_half ch even limit x)

    pub ran_half_enough : ran.first ≤ 2 * limit + 1 → ran.number ≡ 6 → ⊥
    unfolding ran_correct
    ran_half_enough h e = half_serves ch even limit x h (judged_limit c (run way limit x) e)

-- ---- the bounds of correct

-- the way of a code that is offered
pub chooses : (n : ℕ) → T (offered n) → Chooses (code n) (by_excess (code n))
chooses n t = by_excess_lem (code n) (published n t).some

module _ (n : ℕ) (word : List ℕ) (limit : ℕ) (out : List ℕ) where
  pub flips_within_limit : (correct_answer n word limit out).flips ≤ limit
  flips_within_limit =
      correct_cases n word limit out (λ r. r.flips ≤ limit) zero-le zero-le zero-le
      (λ t lw lo. ran_within_limit (code n) (chooses n t) (lifted (code n) (bit word)) limit out)

  pub flips_fall : (correct_answer n word limit out).flips + (correct_answer n word limit out).last ≤
      (correct_answer n word limit out).first
  flips_fall =
      correct_cases n word limit out (λ r. r.flips + r.last ≤ r.first) zero-le zero-le zero-le
      (λ t lw lo. ran_fall (code n) (chooses n t) (lifted (code n) (bit word)) limit out)

  pub flips_within_first : (correct_answer n word limit out).flips ≤ (correct_answer n word limit out).first
  flips_within_first = omega (arith, flips_fall)

  pub limit_enough : (correct_answer n word limit out).first ≤ limit → (correct_answer n word limit out).number ≡ 6 → ⊥
  limit_enough =
      correct_cases n word limit out (λ r. r.first ≤ limit → r.number ≡ 6 → ⊥) (λ h e. omega arith) (λ h e. omega arith)
      (λ h e. omega arith)
      (λ t lw lo. ran_enough (code n) (chooses n t) (lifted (code n) (bit word)) limit out)

  pub limit_unchanged : (more : ℕ) → ((correct_answer n word limit out).number ≡ 6 → ⊥)
      → correct_answer n word (limit + more) out ≡ correct_answer n word limit out
  unfolding correct_answer
  limit_unchanged more no6 =
      refusal_cases (offered n) (length word) (code n).octets_of_word (length out) (code n).octets_of_word
      (λ k. ((all k limit).number ≡ 6 → ⊥) → all k (limit + more) ≡ all k limit) (λ h. refl) (λ h. refl) (λ h. refl)
      (λ right h. ran_unchanged (code n) (chooses n right.offers) (lifted (code n) (bit word)) limit out more h) no6
    where
      all : ℕ → ℕ → Corrected
      all k l = unless k (refused_correct_of out) (ran_from n word l out)

  -- where the number is 0 the output octets are a codeword
  pub out_codeword : (correct_answer n word limit out).number ≡ 0
      → (length (correct_answer n word limit out).out ≡ (code n).octets_of_word)
      × (codeword (code n) (bit (correct_answer n word limit out).out) ≡ true)
  out_codeword =
      correct_cases n word limit out
      (λ r. r.number ≡ 0 → (length r.out ≡ (code n).octets_of_word) × (codeword (code n) (bit r.out) ≡ true))
      (λ e. absurd (omega (arith, e))) (λ e. absurd (omega (arith, e))) (λ e. absurd (omega (arith, e)))
      (λ t lw lo. ran_codeword (code n) (published n t) (lifted (code n) (bit word))
      (run (by_excess (code n)) limit (lifted (code n) (bit word))) out)

-- ---- the near-Earth codes: never more than half

abbrev pub near_earthed : ℕ → Bool
near_earthed n = leb 4 n && leb n 5

pub near_two : (P : ℕ → Type 0) → P 4 → P 5 → (n : ℕ) → T (near_earthed n) → P n
near_two P p4 p5 n t = go n (leb→le 4 n (and_l (leb 4 n) (leb n 5) t)) (leb→le n 5 (and_r (leb 4 n) (leb n 5) t))
  where
    go : (n : ℕ) → 4 ≤ n → n ≤ 5 → P n
    go zero l h = absurd (omega arith)
    go (suc zero) l h = absurd (omega arith)
    go (suc (suc zero)) l h = absurd (omega arith)
    go (suc (suc (suc zero))) l h = absurd (omega arith)
    go (suc (suc (suc (suc zero)))) l h = p4
    go (suc (suc (suc (suc (suc zero))))) l h = p5
    go (suc (suc (suc (suc (suc (suc n)))))) l h = absurd (omega arith)

pub near_offered : (n : ℕ) → T (near_earthed n) → T (offered n)
near_offered = near_two (λ n. T (offered n)) tt tt

-- every bit has four checks
pub near_degree : (n : ℕ) → T (near_earthed n) → (k : ℕ) → k < bits (code n) → degree_of (code n) k ≡ 4
unfolding code code4 code5
near_degree = near_two (λ n. (k : ℕ) → k < bits (code n) → degree_of (code n) k ≡ 4) (near_four 1022 895 0) (near_four 1020 892 18)

module _ (n : ℕ) (near : T (near_earthed n)) (word : List ℕ) (limit : ℕ) (out : List ℕ) where
  even : (k : ℕ) → k < bits (code n) → (h : ℕ) × (degree_of (code n) k ≡ 2 * h)
  even k h = (2, near_degree n near k h)

  pub flips_within_half : 2 * (correct_answer n word limit out).flips ≤ (correct_answer n word limit out).first
  flips_within_half =
      correct_cases n word limit out (λ r. 2 * r.flips ≤ r.first) zero-le zero-le zero-le
      (λ t lw lo. ran_within_half (code n) (chooses n t) (lifted (code n) (bit word)) limit out even)

  pub half_enough : (correct_answer n word limit out).first ≤ 2 * limit + 1 → (correct_answer n word limit out).number ≡ 6 → ⊥
  half_enough =
      correct_cases n word limit out (λ r. r.first ≤ 2 * limit + 1 → r.number ≡ 6 → ⊥) (λ h e. omega arith) (λ h e. omega arith)
      (λ h e. omega arith)
      (λ t lw lo. ran_half_enough (code n) (chooses n t) (lifted (code n) (bit word)) limit out even)

-- ---- codewords, and codewords with one wrong bit

-- a sent bit that is flipped is a lifted bit that is
pub lifted_flip : (c : Code) (y : Word) (n : ℕ) → lifted c (flipped y n) ≡ flipped (lifted c y) (n + c.unsent)
lifted_flip c y n = fun_ext (λ i. go i (dec_lt i c.unsent))
  where
    go : (i : ℕ) → Dec (i < c.unsent) → lifted c (flipped y n) i ≡ flipped (lifted c y) (n + c.unsent) i
    go i (yes l) =
        lifted_unsent c (flipped y n) i l
        ∙ sym (ap₂ (λ a b. a ⊕ b) (lifted_unsent c y i l) (ne_eqb i (n + c.unsent) (λ q. omega arith)))
    go i (no g) =
        let e : i - c.unsent + c.unsent ≡ i = omega (arith, lt_of_not-le g) in
        ap (lifted c (flipped y n)) (sym e) ∙ lifted_sent_bit c (flipped y n) (i - c.unsent)
        ∙ ap₂ (λ a b. a ⊕ b) (sym (lifted_sent_bit c y (i - c.unsent)) ∙ ap (lifted c y) e)
        (eqb_iff (i - c.unsent) n i (n + c.unsent) (λ q. omega (arith, lt_of_not-le g)) (λ q. omega arith))

-- the octets of a word with bit b flipped
abbrev pub one_wrong : Code → List ℕ → ℕ → List ℕ
one_wrong c word b = octets c.octets_of_word (flipped (bit word) b)

pub bit_one_wrong : (c : Code) (word : List ℕ) (b : ℕ) → length word ≡ c.octets_of_word → b < 8 * c.octets_of_word
    → bit (one_wrong c word b) ≡ flipped (bit word) b
bit_one_wrong c word b lw h = fun_ext (λ i. bit_octets c.octets_of_word (flipped (bit word) b) i ∙ go i (dec_lt i (8 * c.octets_of_word)))
  where
    go : (i : ℕ) → Dec (i < 8 * c.octets_of_word) → (ltb i (8 * c.octets_of_word) && flipped (bit word) b i) ≡ flipped (bit word) b i
    go i (yes l) = ap (λ z. z && flipped (bit word) b i) (lt-ltb i (8 * c.octets_of_word) l)
    go i (no g) =
        ap (λ z. z && flipped (bit word) b i) (le-ltb i (8 * c.octets_of_word) (omega (arith, lt_of_not-le g)))
        ∙ sym (ap₂ (λ a d. a ⊕ d) (bit_past word i (omega (arith, lt_of_not-le g, lw))) (ne_eqb i b (λ q. omega (arith, lt_of_not-le g))))

module _ (n : ℕ) (off : T (offered n)) (word out : List ℕ) (lw : length word ≡ (code n).octets_of_word)
    (lo : length out ≡ (code n).octets_of_word)
    (oct : Octets word) (is : codeword (code n) (bit word) ≡ true) where
  pub met : broken (code n) (lifted (code n) (bit word)) ≡ 0
  met = codeword_quiet (code n) (published n off) (bit word) is

  -- a run that ends quiet at the codeword is taken, and gives the word
  pub mended : (r : Run) → r.number ≡ 0 → r.word ≡ lifted (code n) (bit word) → (x : Word)
      → ran_correct (code n) x r out ≡ record {
        number = 0;
        flips = length r.flips;
        first = broken (code n) x;
        last = 0;
        unlike = differing (code n) x (lifted (code n) (bit word));
        lowest = lowest (code n) x;
        out = word;
      }
  unfolding ran_correct
  mended r e w x =
      let zero_is : judged (code n) r ≡ 0 =
      judged_done (code n) r e (λ k h. ap (λ z. z k) w ∙ lifted_unsent (code n) (bit word) k h)
      (ap (λ z. codeword (code n) (sent (code n) z)) w
      ∙ own_codeword (code n) (published n off) (lifted (code n) (bit word)) (codeword_own (code n) (published n off) (bit word) is)
      (λ k h. lifted_unsent (code n) (bit word) k h)) in
      ap₂ (λ a b. record {
        number = a;
        flips = length r.flips;
        first = broken (code n) x;
        last = b;
        unlike = differing (code n) x r.word;
        lowest = lowest (code n) x;
        out = when eqb a 0 then written (code n) r.word else out;
      })
      zero_is (ap (broken (code n)) w ∙ met)
      ∙ ap₂ (λ d z. record {
        number = 0;
        flips = length r.flips;
        first = broken (code n) x;
        last = 0;
        unlike = d;
        lowest = lowest (code n) x;
        out = z;
      })
      (ap (differing (code n) x) w)
      (ap (written (code n)) w ∙ written_back (code n) (published n off) word lw oct (lifted (code n) (bit word))
      (codeword_sent (code n) (published n off) (bit word) is))

  -- for every way of choosing: a codeword comes back with no flips, and with one wrong sent bit it comes back mended by one flip
  module _ {way : Way} (ch : Chooses (code n) way) where
    pub ran_back : (limit : ℕ) → ran_correct (code n) (lifted (code n) (bit word)) (run way limit (lifted (code n) (bit word))) out
        ≡ record { number = 0; flips = 0; first = 0; last = 0; unlike = 0; lowest = checks (code n); out = word }
    ran_back limit =
        ap (λ r. ran_correct (code n) (lifted (code n) (bit word)) r out)
        (run_quiet way limit (lifted (code n) (bit word)) (ch.met_quiet (lifted (code n) (bit word)) met))
        ∙ mended (ended 0 (lifted (code n) (bit word))) refl refl (lifted (code n) (bit word))
        ∙ ap₂ (λ z d. record {
          number = 0;
          flips = 0;
          first = z;
          last = 0;
          unlike = d;
          lowest = lowest (code n) (lifted (code n) (bit word));
          out = word;
        })
        met (differ_self (code n) (lifted (code n) (bit word)))
        ∙ ap (λ k. record { number = 0; flips = 0; first = 0; last = 0; unlike = 0; lowest = k; out = word })
        (quiet_lowest (code n) (lifted (code n) (bit word)) met)

    pub ran_one_back : TakesGreatest (code n) way → (limit k : ℕ) → (code n).unsent ≤ k → k < bits (code n)
        → ran_correct (code n) (flipped (lifted (code n) (bit word)) k) (run way (suc limit) (flipped (lifted (code n) (bit word)) k)) out
        ≡ record {
          number = 0;
          flips = 1;
          first = degree_of (code n) k;
          last = 0;
          unlike = 1;
          lowest = lowest (code n) (flipped (lifted (code n) (bit word)) k);
          out = word;
        }
    ran_one_back takes limit k from h =
        let girth : Girth (code n) = (published n off).girth in
        ap (λ r. ran_correct (code n) (flipped (lifted (code n) (bit word)) k) r out)
        (one_mended (code n) girth (lifted (code n) (bit word)) met k h ch takes from limit)
        ∙ mended (after k (pos (degree_of (code n) k)) (ended 0 (lifted (code n) (bit word)))) refl refl
        (flipped (lifted (code n) (bit word)) k)
        ∙ ap₂ (λ z d. record {
          number = 0;
          flips = 1;
          first = z;
          last = 0;
          unlike = d;
          lowest = lowest (code n) (flipped (lifted (code n) (bit word)) k);
          out = word;
        })
        (first_count (code n) girth (lifted (code n) (bit word)) met k h) (differ_one (code n) (lifted (code n) (bit word)) k h)

  -- a codeword comes back with no flips
  pub codeword_back : (limit : ℕ) → correct_answer n word limit out
      ≡ record { number = 0; flips = 0; first = 0; last = 0; unlike = 0; lowest = checks (code n); out = word }
  codeword_back limit = correct_taken n word limit out off lw lo ∙ ran_back (chooses n off) limit

  -- a codeword with exactly one wrong covered bit comes back mended by exactly one flip, if the limit is at least 1.
  -- The covered bits are those that the checks are over and that are sent: all of codes 1 to 4, all but the last two of code 5.
  pub one_back : (limit b : ℕ) → b < bits (code n) - (code n).unsent
      → correct_answer n (one_wrong (code n) word b) (suc limit) out
      ≡ record {
        number = 0;
        flips = 1;
        first = degree_of (code n) (b + (code n).unsent);
        last = 0;
        unlike = 1;
        lowest = lowest (code n) (flipped (lifted (code n) (bit word)) (b + (code n).unsent));
        out = word;
      }
  one_back limit b h =
      let same : lifted (code n) (bit (one_wrong (code n) word b)) ≡ flipped (lifted (code n) (bit word)) (b + (code n).unsent) =
      ap (lifted (code n)) (bit_one_wrong (code n) word b lw (lt_of_lt_of_le h (published n off).fits))
      ∙ lifted_flip (code n) (bit word) b in
      correct_taken n (one_wrong (code n) word b) (suc limit) out off (length_octets (code n).octets_of_word (flipped (bit word) b)) lo
      ∙ ap (λ y. ran_correct (code n) y (run (by_excess (code n)) (suc limit) y) out) same
      ∙ ran_one_back (chooses n off) (by_greatest (code n) (published n off).some) limit (b + (code n).unsent) (omega arith) (omega arith)

-- ---- a wrong bit that is not sent

-- A word that meets every check and has, of the bits that are not sent, just one set: what is sent of it gets stuck at once.
module _ (n : ℕ) (off : T (offered n)) (x : Word) (met : broken (code n) x ≡ 0) (n₀ : ℕ) (h₀ : n₀ < (code n).unsent)
    (one : (k : ℕ) → k < (code n).unsent → x k ≡ eqb k n₀) where
  abbrev got : Word
  got = lifted (code n) (bit (written (code n) x))

  got_is : (k : ℕ) → k < bits (code n) → got k ≡ flipped x n₀ k
  got_is k h = ap (λ y. lifted (code n) y k) (bit_written (code n) (published n off) x) ∙ go (dec_lt k (code n).unsent)
    where
      go : Dec (k < (code n).unsent) → lifted (code n) (sent (code n) x) k ≡ flipped x n₀ k
      go (yes l) = lifted_unsent (code n) (sent (code n) x) k l ∙ sym (ap (λ b. b ⊕ eqb k n₀) (one k l) ∙ ⊕-self (eqb k n₀))
      go (no g) =
          lifted_back (code n) x k (omega (arith, lt_of_not-le g)) h
          ∙ sym (ap (λ b. x k ⊕ b) (ne_eqb k n₀ (λ q. omega (arith, lt_of_not-le g))) ∙ ⊕-false (x k))

  checks_are : (k : ℕ) → k < checks (code n) → check (code n) got k ≡ check (code n) (flipped x n₀) k
  checks_are k l = check_same (code n) got (flipped x n₀) got_is k

  pub unsent_wrong : (limit : ℕ) (out : List ℕ) → length out ≡ (code n).octets_of_word → correct_answer n (written (code n) x) limit out
      ≡ record {
        number = 5;
        flips = 0;
        first = degree_of (code n) n₀;
        last = degree_of (code n) n₀;
        unlike = 0;
        lowest = lowest (code n) got;
        out = out;
      }
  unfolding ran_correct
  unsent_wrong limit out lo =
      let pb : Published (code n) = published n off in
      correct_taken n (written (code n) x) limit out off (length_octets (code n).octets_of_word (sent (code n) x)) lo
      ∙ ap (λ r. ran_correct (code n) got r out) (run_stuck (by_excess (code n)) limit got _ _
      (next_same (code n) got (flipped x n₀) checks_are ∙ unsent_stuck (code n) pb.some pb.girth x met n₀ h₀))
      ∙ ap₂ (λ z d. record { number = 5; flips = 0; first = z; last = z; unlike = d; lowest = lowest (code n) got; out = out })
      (broken_same (code n) got (flipped x n₀) checks_are ∙ first_count (code n) pb.girth x met n₀ (omega (arith, pb.some)))
      (differ_self (code n) got)
