-- What is promised of correct on samples: the bounds, codewords, one wrong bit, equal magnitudes; and that comparisons are all it asks of
-- the samples.
use mathlib.Core.Path.{◌≡◌, refl, sym, ap, ap₂, ◌∙◌, fun_ext, subst}
use mathlib.Core.Bool.{Bool, true, false, true≢false, not, ◌&&◌}
use mathlib.Core.List.{List}
use Prim.Native.Nat.{ℕ, suc, ◌+◌, ◌-◌, ◌*◌, ◌%◌, ◌≤◌, ◌<◌, zero-le}
use native.Mathlib.Nat.{lt_of_not-le}
use native.Mathlib.Decide.{dec_lt}
use native.Mathlib.Omega.{arith}
use lib.Dec.{T, eqb, ltb}
use lib.Ieee.{Float, eq, lt}
use lib.IntN.{ℤ}
use lib.ListN.{length}
use lib.Signed.{lt_z}
use borrow.Author.Tests.{lt-ltb, le-ltb}
use Rattle.bits.specs.Bits.{Word, bit, octets, flipped, when◌then◌else◌}
use Rattle.rules.specs.Codes.{bits, checks, code, offered, telecommanded}
use Rattle.rules.specs.Checks.{covers, excess, lowest, degree_of}
use Rattle.rules.specs.Encoding.{lifted, codeword}
use Rattle.rules.specs.Flipping.{flip, by_excess, run}
use Rattle.answers.specs.Calls.{refusal, unless, Corrected, refused_correct_of, ran_correct, correct_answer}
use Rattle.answers.specs.Promises.{limit_for_two, limit_for_three, mended_by, undecided}
use Rattle.bits.proofs.Sums.{and_l}
use Rattle.bits.proofs.Octets.{Octets, length_octets, bit_octets}
use Rattle.rules.proofs.Ways.{Chooses, shared}
use Rattle.rules.proofs.Two.{Tied, tied_first}
use Rattle.rules.proofs.Apart.{with_one, none_shared, all_shared}
use Rattle.rules.proofs.Numbers.{published, whole, lifted_whole}
use Rattle.answers.proofs.Answers.{refusal_cases, correct_taken}
use Rattle.answers.proofs.Corrections.{ran_within_limit, ran_fall, ran_enough, ran_unchanged, ran_within_half, ran_half_enough}
use Rattle.answers.proofs.Corrections.{near_earthed}
use Rattle.answers.proofs.Corrections.{near_degree, ran_back, ran_one_back, ran_codeword, met}
use Rattle.answers.proofs.Unlike.{ran_unlike, ran_parity}
use Rattle.answers.proofs.Refusals.{few_numbers, never_seven}
use Rattle.answers.proofs.Wrong.{decided, ran_two_back, ran_three_back}
use Rattle.magnitudes.specs.Samples.{read, sample_of, magnitude, smaller, is_one, all_finite}
use Rattle.magnitudes.specs.Sizes.{reaching, by_size}
use Rattle.magnitudes.proofs.Smallest.{Ordered, Smallest}
use Rattle.magnitudes.proofs.Choosing.{by_size_lem, size_greatest, equal_sizes, size_smallest}
use Rattle.magnitudes.proofs.Orders.{eq_lt, past_read, past_smaller, finite_ordered}
use Rattle.samples.specs.Answers.{ran_samples, samples_answer}
use Rattle.samples.proofs.Answers.{samples_cases, samples_taken}

-- the codes of this call
abbrev pub sampled : ℕ → Bool
sampled n = offered n && not (eqb n 5)

pub some : (n : ℕ) → T (sampled n) → (code n).unsent < bits (code n)
some n t = (published n (and_l (offered n) (not (eqb n 5)) t)).some

pub sizes_choose : (n : ℕ) → T (sampled n) → (less : ℕ → ℕ → Bool) → Chooses (code n) (by_size less (code n))
sizes_choose n t less = by_size_lem less (code n) (some n t)

-- ---- the bounds

module _ (n : ℕ) (samples : List Float) (limit : ℕ) (out : List ℕ) where
  pub flips_within_limit : (samples_answer n samples limit out).flips ≤ limit
  flips_within_limit = samples_cases n samples limit out (λ r. r.flips ≤ limit) zero-le zero-le zero-le zero-le
      (λ t ls lo f. ran_within_limit (code n) (sizes_choose n t (smaller samples)) (read samples) limit out)

  pub flips_fall : (samples_answer n samples limit out).flips + (samples_answer n samples limit out).last ≤ (samples_answer n samples limit
      out).first
  flips_fall = samples_cases n samples limit out (λ r. r.flips + r.last ≤ r.first) zero-le zero-le zero-le zero-le
      (λ t ls lo f. ran_fall (code n) (sizes_choose n t (smaller samples)) (read samples) limit out)

  pub flips_within_first : (samples_answer n samples limit out).flips ≤ (samples_answer n samples limit out).first
  flips_within_first = omega (arith, flips_fall)

  pub limit_enough : (samples_answer n samples limit out).first ≤ limit → (samples_answer n samples limit out).number ≡ 6 → ⊥
  limit_enough = samples_cases n samples limit out (λ r. r.first ≤ limit → r.number ≡ 6 → ⊥) (λ h e. omega arith) (λ h e. omega arith)
      (λ h e. omega arith) (λ h e. omega arith)
      (λ t ls lo f. ran_enough (code n) (sizes_choose n t (smaller samples)) (read samples) limit out)

  pub limit_unchanged : (more : ℕ) → ((samples_answer n samples limit out).number ≡ 6 → ⊥)
      → samples_answer n samples (limit + more) out ≡ samples_answer n samples limit out
  unfolding samples_answer
  limit_unchanged more no6 =
      refusal_cases (sampled n) (length samples) (bits (code n)) (length out) (code n).octets_of_word
      (λ k. ((all k (all_finite samples) limit).number ≡ 6 → ⊥)
      → all k (all_finite samples) (limit + more) ≡ all k (all_finite samples) limit)
      (λ h. refl) (λ h. refl) (λ h. refl)
      (λ right h. go (all_finite samples) right.offers h) no6
    where
      all : ℕ → Bool → ℕ → Corrected
      all k f l = unless k (refused_correct_of out) (when f then ran_samples n samples l out else refused_correct_of out 16)

      go : (f : Bool) → T (sampled n) → ((all 0 f limit).number ≡ 6 → ⊥) → all 0 f (limit + more) ≡ all 0 f limit
      go true t h = ran_unchanged (code n) (sizes_choose n t (smaller samples)) (read samples) limit out more h
      go false t h = refl

  -- unlike is never above the flips, and both are even or both odd
  pub unlike_within_flips : (samples_answer n samples limit out).unlike ≤ (samples_answer n samples limit out).flips
  unlike_within_flips = samples_cases n samples limit out (λ r. r.unlike ≤ r.flips) zero-le zero-le zero-le zero-le
      (λ t ls lo f. ran_unlike (sizes_choose n t (smaller samples)) (read samples) limit out)

  pub unlike_parity : ((samples_answer n samples limit out).unlike + (samples_answer n samples limit out).flips) % 2 ≡ 0
  unlike_parity = samples_cases n samples limit out (λ r. (r.unlike + r.flips) % 2 ≡ 0) refl refl refl refl
      (λ t ls lo f. ran_parity (sizes_choose n t (smaller samples)) (read samples) limit out)

  -- where the number is 0 the output octets are a codeword
  pub out_codeword : (samples_answer n samples limit out).number ≡ 0
      → (length (samples_answer n samples limit out).out ≡ (code n).octets_of_word)
      × (codeword (code n) (bit (samples_answer n samples limit out).out) ≡ true)
  out_codeword =
      samples_cases n samples limit out
      (λ r. r.number ≡ 0 → (length r.out ≡ (code n).octets_of_word) × (codeword (code n) (bit r.out) ≡ true))
      (λ e. absurd (omega (arith, e))) (λ e. absurd (omega (arith, e))) (λ e. absurd (omega (arith, e))) (λ e. absurd (omega (arith, e)))
      (λ t ls lo f. ran_codeword (code n) (published n (and_l (offered n) (not (eqb n 5)) t)) (read samples)
      (run (by_size (smaller samples) (code n)) limit (read samples)) out)

  -- 7 is never given, and 8 not by codes 1 to 3
  pub seven_never_given : (samples_answer n samples limit out).number ≡ 7 → ⊥
  unfolding ran_correct
  seven_never_given =
      samples_cases n samples limit out (λ r. r.number ≡ 7 → ⊥) (λ q. omega arith) (λ q. omega arith) (λ q. omega arith) (λ q. omega arith)
      (λ t ls lo f. never_seven (code n) (sizes_choose n t (smaller samples)) limit (read samples)
      (λ k h. absurd (omega (arith, (whole n t).unsent))))

  pub telecommand_numbers : T (telecommanded n) → (samples_answer n samples limit out).number ≡ 8 → ⊥
  unfolding ran_correct
  telecommand_numbers tele =
      samples_cases n samples limit out (λ r. r.number ≡ 8 → ⊥) (λ q. omega arith) (λ q. omega arith) (λ q. omega arith) (λ q. omega arith)
      (λ t ls lo f. (few_numbers n tele (sizes_choose n t (smaller samples)) limit (read samples) _ refl).1)

  -- code 4: never more than half
  module _ (near : n ≡ 4) where
    even : (k : ℕ) → k < bits (code n) → (h : ℕ) × (degree_of (code n) k ≡ 2 * h)
    even k l = (2, near_degree n (subst (λ m. T (near_earthed m)) (sym near) tt) k l)

    pub flips_within_half : 2 * (samples_answer n samples limit out).flips ≤ (samples_answer n samples limit out).first
    flips_within_half = samples_cases n samples limit out (λ r. 2 * r.flips ≤ r.first) zero-le zero-le zero-le zero-le
        (λ t ls lo f. ran_within_half (code n) (sizes_choose n t (smaller samples)) (read samples) limit out even)

    pub half_enough : (samples_answer n samples limit out).first ≤ 2 * limit + 1 → (samples_answer n samples limit out).number ≡ 6 → ⊥
    half_enough = samples_cases n samples limit out (λ r. r.first ≤ 2 * limit + 1 → r.number ≡ 6 → ⊥) (λ h e. omega arith)
        (λ h e. omega arith) (λ h e. omega arith) (λ h e. omega arith)
        (λ t ls lo f. ran_half_enough (code n) (sizes_choose n t (smaller samples)) (read samples) limit out even)

-- ---- codewords, and codewords with one wrong bit: whatever the magnitudes

module _ (n : ℕ) (t : T (sampled n)) (samples : List Float) (ls : length samples ≡ bits (code n)) (finite : all_finite samples ≡ true)
    (out : List ℕ) (lo : length out ≡ (code n).octets_of_word) (word : List ℕ) (lw : length word ≡ (code n).octets_of_word)
    (oct : Octets word)
    (is : codeword (code n) (bit word) ≡ true) where
  off : T (offered n)
  off = and_l (offered n) (not (eqb n 5)) t

  up : lifted (code n) (bit word) ≡ bit word
  up = lifted_whole (code n) (whole n t) (bit word)

  -- samples of which a codeword is read give it without a flip
  pub codeword_back : read samples ≡ bit word → (limit : ℕ) → samples_answer n samples limit out
      ≡ record { number = 0; flips = 0; first = 0; last = 0; unlike = 0; lowest = checks (code n); out = word }
  codeword_back e limit =
      samples_taken n samples limit out t ls lo finite
      ∙ ap (λ x. ran_correct (code n) x (run (by_size (smaller samples) (code n)) limit x) out) (e ∙ sym up)
      ∙ ran_back n off word out lw lo oct is (sizes_choose n t (smaller samples)) limit

  -- samples of which a codeword with one wrong bit is read give it by exactly one flip, if the limit is at least 1
  pub one_back : (b : ℕ) → b < bits (code n) → read samples ≡ flipped (bit word) b → (limit : ℕ) → samples_answer n samples (suc limit) out
      ≡ record {
        number = 0;
        flips = 1;
        first = degree_of (code n) b;
        last = 0;
        unlike = 1;
        lowest = lowest (code n) (flipped (bit word) b);
        out = word;
      }
  one_back b h e limit =
      samples_taken n samples (suc limit) out t ls lo finite
      ∙ ap (λ x. ran_correct (code n) x (run (by_size (smaller samples) (code n)) (suc limit) x) out) (e ∙ ap (λ x. flipped x b) (sym up))
      ∙ ran_one_back n off word out lw lo oct is (sizes_choose n t (smaller samples)) (size_greatest (smaller samples) (code n) (some n t))
      limit b (omega (arith, (whole n t).unsent)) h
      ∙ ap (λ x. record {
        number = 0;
        flips = 1;
        first = degree_of (code n) b;
        last = 0;
        unlike = 1;
        lowest =
            lowest (code n) (flipped x b);
        out = word;
      }) up

  -- two wrong bits, if the limit is at least 2
  module _ (b d : ℕ) (hb : b < bits (code n)) (hd : d < bits (code n)) (apart : b ≡ d → ⊥)
      (e : read samples ≡ flipped (flipped (bit word) b) d) where
    abbrev both : Word
    both = flipped (flipped (lifted (code n) (bit word)) b) d

    under : (k : ℕ) (ex : ℤ) → by_size (smaller samples) (code n) (flipped (flipped (lifted (code n) (bit word)) b) d) ≡ flip k ex
        → k < bits (code n)
    under k ex q = ((sizes_choose n t (smaller samples)).flips both k ex q).under

    by_two : ((k : ℕ) (ex : ℤ) → by_size (smaller samples) (code n) (flipped (flipped (lifted (code n) (bit word)) b) d) ≡ flip k ex
        → (k ≡ b → ⊥) → (k ≡ d → ⊥) → Tied (code n) b d k → ⊥)
        → (limit : ℕ) → limit_for_two ≤ limit → samples_answer n samples limit out ≡ mended_by n 2 (flipped (flipped (bit word) b) d) word
    by_two only limit enough =
        let l : limit ≡ suc (suc (limit - 2)) = omega arith in
        ap (λ z. samples_answer n samples z out) l
        ∙ samples_taken n samples (suc (suc (limit - 2))) out t ls lo finite
        ∙ ap (λ x. ran_correct (code n) x (run (by_size (smaller samples) (code n)) (suc (suc (limit - 2))) x) out)
        (e ∙ ap (λ x. flipped (flipped x b) d) (sym up))
        ∙ ran_two_back n off word out lw lo oct is (sizes_choose n t (smaller samples))
        (size_greatest (smaller samples) (code n) (some n t)) (limit - 2) b d (omega (arith, (whole n t).unsent))
        (omega (arith, (whole n t).unsent)) hb hd apart only
        ∙ ap (λ x. mended_by n 2 (flipped (flipped x b) d) word) up

    -- whatever the magnitudes: codes 2 to 4, and every pair of code 1 but 80
    pub two_back : T (not (undecided n b d)) → (limit : ℕ) → limit_for_two ≤ limit
        → samples_answer n samples limit out ≡ mended_by n 2 (flipped (flipped (bit word) b) d) word
    two_back but = by_two (λ k ex q kb kd tied. decided n off b d k hb hd (under k ex q) apart kb kd tied but)

    -- of the 80 the magnitudes decide: if one of the wrong bits, the first named, has a smaller one than each third bit of that excess
    pub two_by_size : ((k : ℕ) → k < bits (code n) → Tied (code n) b d k → smaller samples b k ≡ true) → (limit : ℕ) → limit_for_two ≤ limit
        → samples_answer n samples limit out ≡ mended_by n 2 (flipped (flipped (bit word) b) d) word
    two_by_size small = by_two (λ k ex q kb kd tied.
        let chosen = (sizes_choose n t (smaller samples)).flips both k ex q in
        let s = size_smallest (smaller samples) (code n) (some n t) (subst (Ordered (smaller samples)) ls (finite_ordered samples finite))
        both k ex q in
        let reaches : reaching (code n) both ex b ≡ true =
        ap not (ap (lt_z (excess (code n) both b)) chosen.value
        ∙ tied_first (code n) (published n off).girth (lifted (code n) (bit word)) (met n off word out lw lo oct is) b d hb hd apart k
        tied) in
        true≢false (sym (small k chosen.under tied)
        ∙ s.least b (omega (arith, (whole n t).unsent)) (omega (arith, (whole n t).unsent)) reaches))

  -- three wrong bits of code 4, if the limit is at least 3: where no check covers the first and just one of the others
  module _ (near : T (near_earthed n)) (b d f : ℕ) (hb : b < bits (code n)) (hd : d < bits (code n)) (hf : f < bits (code n))
      (bd : b ≡ d → ⊥) (bf : b ≡ f → ⊥) (df : d ≡ f → ⊥) (e : read samples ≡ flipped (flipped (flipped (bit word) b) d) f) (limit : ℕ)
      (enough : limit_for_three ≤ limit) where
    by_three : with_one (code n) b d f ≡ 0
        → samples_answer n samples limit out ≡ mended_by n 3 (flipped (flipped (flipped (bit word) b) d) f) word
    by_three free =
        let l : limit ≡ suc (suc (suc (limit - 3))) = omega arith in
        ap (λ z. samples_answer n samples z out) l
        ∙ samples_taken n samples (suc (suc (suc (limit - 3)))) out t ls lo finite
        ∙ ap (λ x. ran_correct (code n) x (run (by_size (smaller samples) (code n)) (suc (suc (suc (limit - 3)))) x) out)
        (e ∙ ap (λ x. flipped (flipped (flipped x b) d) f) (sym up))
        ∙ ran_three_back n off word out lw lo oct is (sizes_choose n t (smaller samples))
        (size_greatest (smaller samples) (code n) (some n t)) near (limit - 3) b d f (omega (arith, (whole n t).unsent))
        (omega (arith, (whole n t).unsent)) (omega (arith, (whole n t).unsent)) hb hd hf bd bf df free
        ∙ ap (λ x. mended_by n 3 (flipped (flipped (flipped x b) d) f) word) up

    -- it shares no check with either, or all three lie in one
    pub three_back : shared (code n) b d ≡ 0 → shared (code n) b f ≡ 0
        → samples_answer n samples limit out ≡ mended_by n 3 (flipped (flipped (flipped (bit word) b) d) f) word
    three_back p q = by_three (none_shared (code n) b d f p q)

    pub three_in_one_back : (k : ℕ) → k < checks (code n) → covers (code n) k b ≡ true → covers (code n) k d ≡ true
        → covers (code n) k f ≡ true
        → samples_answer n samples limit out ≡ mended_by n 3 (flipped (flipped (flipped (bit word) b) d) f) word
    three_in_one_back k l eb ed ef = by_three (all_shared (code n) b d f (published n off).girth hb hd hf bd bf k l eb ed ef)

-- ---- what is flipped

-- of the bits of greatest excess none has a smaller sample than the one that is flipped, and the samples of those before it are greater
pub smallest_flipped : (n : ℕ) → T (sampled n) → (samples : List Float) → length samples ≡ bits (code n) → all_finite samples ≡ true
    → (x : Word) (k : ℕ) (ex : ℤ)
    → by_size (smaller samples) (code n) x ≡ flip k ex → Smallest (smaller samples) (reaching (code n) x ex) (code n).unsent
    (bits (code n) - (code n).unsent) k
smallest_flipped n t samples ls finite = size_smallest (smaller samples) (code n) (some n t)
    (subst (Ordered (smaller samples)) ls (finite_ordered samples finite))

-- ---- with equal magnitudes everywhere it is the old run

module _ (n : ℕ) (t : T (sampled n)) (samples : List Float) (ls : length samples ≡ bits (code n)) (finite : all_finite samples ≡ true)
    (limit : ℕ) (out : List ℕ) (lo : length out ≡ (code n).octets_of_word)
    (equal : (i j : ℕ) → i < length samples → j < length samples
    → eq (magnitude (sample_of samples i)) (magnitude (sample_of samples j)) ≡ true) where
  -- the octets of the word that was read
  abbrev pub octets_read : List ℕ
  octets_read = octets (code n).octets_of_word (read samples)

  read_back : bit octets_read ≡ read samples
  read_back = fun_ext (λ i. bit_octets (code n).octets_of_word (read samples) i ∙ go i (dec_lt i (8 * (code n).octets_of_word)))
    where
      go : (i : ℕ) → Dec (i < 8 * (code n).octets_of_word) → (ltb i (8 * (code n).octets_of_word) && read samples i) ≡ read samples i
      go i (yes l) = ap (λ b. b && read samples i) (lt-ltb i (8 * (code n).octets_of_word) l)
      go i (no g) =
          let p : 8 * (code n).octets_of_word ≤ i = omega (arith, lt_of_not-le g) in
          ap (λ b. b && read samples i) (le-ltb i (8 * (code n).octets_of_word) p)
          ∙ sym (past_read samples i (omega (arith, ls, (whole n t).full)))

  none : (i j : ℕ) → smaller samples i j ≡ false
  unfolding smaller
  none i j = go (dec_lt i (length samples)) (dec_lt j (length samples))
    where
      go : Dec (i < length samples) → Dec (j < length samples)
          → lt (magnitude (sample_of samples i)) (magnitude (sample_of samples j)) ≡ false
      go (yes l) (yes k) = eq_lt (magnitude (sample_of samples i)) (magnitude (sample_of samples j)) (equal i j l k)
      go (no g) k = (past_smaller samples i (omega (arith, lt_of_not-le g)) j).0
      go (yes l) (no g) = (past_smaller samples j (omega (arith, lt_of_not-le g)) i).1

  pub equal_magnitudes : samples_answer n samples limit out ≡ correct_answer n octets_read limit out
  equal_magnitudes =
      samples_taken n samples limit out t ls lo finite
      ∙ ap (λ way. ran_correct (code n) (read samples) (run way limit (read samples)) out) (equal_sizes (smaller samples) none (code n))
      ∙ ap (λ x. ran_correct (code n) x (run (by_excess (code n)) limit x) out)
      (sym (lifted_whole (code n) (whole n t) (bit octets_read) ∙ read_back))
      ∙ sym (correct_taken n octets_read limit out (and_l (offered n) (not (eqb n 5)) t)
      (length_octets (code n).octets_of_word (read samples))
      lo)

-- ---- comparisons are all that it asks of the samples

-- Two lists of samples compare alike: they are as long, each sample is finite, below 0 and smaller than another where it is in the other
-- list.
pub record Alike (s s' : List Float) : Type 0 where
  pub long : length s ≡ length s'
  pub finite : all_finite s ≡ all_finite s'
  pub signs : (i : ℕ) → i < length s → is_one (sample_of s i) ≡ is_one (sample_of s' i)
  pub sizes : (i j : ℕ) → i < length s → j < length s
      → lt (magnitude (sample_of s i)) (magnitude (sample_of s j)) ≡ lt (magnitude (sample_of s' i)) (magnitude (sample_of s' j))

pub comparisons_alone : (s s' : List Float) → Alike s s' → (n limit : ℕ) (out : List ℕ)
    → samples_answer n s limit out ≡ samples_answer n s' limit out
unfolding samples_answer
comparisons_alone s s' a n limit out =
    ap₂ (λ l f. unless (refusal (sampled n) l (bits (code n)) (length out) (code n).octets_of_word) (refused_correct_of out)
    (when f then ran_samples n s limit out else refused_correct_of out 16)) a.long a.finite
    ∙ ap₂ (λ x less. unless (refusal (sampled n) (length s') (bits (code n)) (length out) (code n).octets_of_word) (refused_correct_of out)
    (when all_finite s' then ran_correct (code n) x (run (by_size less (code n)) limit x) out else refused_correct_of out 16))
    (fun_ext reads)
    (fun_ext (λ i. fun_ext (λ j. less i j)))
  where
    reads : (i : ℕ) → read s i ≡ read s' i
    reads i = go (dec_lt i (length s))
      where
        go : Dec (i < length s) → read s i ≡ read s' i
        go (yes l) = unfold read in a.signs i l
        go (no g) = past_read s i (omega (arith, lt_of_not-le g)) ∙ sym (past_read s' i (omega (arith, lt_of_not-le g, a.long)))

    less : (i j : ℕ) → smaller s i j ≡ smaller s' i j
    less i j = go (dec_lt i (length s)) (dec_lt j (length s))
      where
        go : Dec (i < length s) → Dec (j < length s) → smaller s i j ≡ smaller s' i j
        go (yes l) (yes k) = unfold smaller in a.sizes i j l k
        go (no g) k = (past_smaller s i (omega (arith, lt_of_not-le g)) j).0
            ∙ sym (past_smaller s' i (omega (arith, lt_of_not-le g, a.long)) j).0
        go (yes l) (no g) = (past_smaller s j (omega (arith, lt_of_not-le g)) i).1
            ∙ sym (past_smaller s' j (omega (arith, lt_of_not-le g, a.long)) i).1
