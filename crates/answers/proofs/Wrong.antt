-- More than one wrong bit: two are mended under every code, but 16 pairs of code 1, and three of codes 4 and 5 where one stands apart; and
-- what becomes of wrong bits does not depend on the codeword sent.
use mathlib.Core.Path.{◌≡◌, refl, sym, ap, ap₂, ◌∙◌, fun_ext, subst}
use mathlib.Core.Bool.{Bool, true, false, true≢false, not, ◌&&◌, ◌||◌}
use mathlib.Core.List.{List}
use Prim.Native.Nat.{ℕ, suc, ◌+◌, ◌-◌, ◌*◌, ◌/◌, ◌%◌, ◌≤◌, ◌<◌}
use native.Mathlib.Nat.{le_of_eq, lt_of_not-le, lt_of_lt_of_le, div-add-mod', mod-lt, zero-lt-suc}
use native.Mathlib.Decide.{ℕ_discrete, dec_lt}
use native.Mathlib.Omega.{arith}
use lib.Dec.{T, eqb, ltb, eqb→eq, lit<}
use lib.IntN.{ℤ}
use lib.ListN.{length}
use borrow.Author.Tests.{eq-eqb, ne_eqb, lt-ltb, le-ltb}
use Rattle.bits.specs.Bits.{Word, bit, octets, ◌⊕◌, flipped}
use Rattle.rules.specs.Codes.{Code, code, code1, bits, checks, offered}
use Rattle.rules.specs.Checks.{covers, check, broken, lowest}
use Rattle.rules.specs.Encoding.{lifted, codeword}
use Rattle.rules.specs.Flipping.{Way, Run, flip, by_excess, run}
use Rattle.answers.specs.Calls.{Corrected, ran_correct, correct_answer, differing}
use Rattle.answers.specs.Promises.{limit_for_two, limit_for_three, mended_by, further, around, sixteen, eighty, unmended, undecided}
use Rattle.bits.proofs.Sums.{and-⊕, and_l, and_r}
use Rattle.bits.proofs.Octets.{Octets, length_octets, bit_octets, bit_past}
use Rattle.rules.proofs.Ways.{Chooses, TakesGreatest, shared}
use Rattle.rules.proofs.Two.{Mends, Tied, two_mended}
use Rattle.rules.proofs.Apart.{with_one, none_shared, all_shared, three_mended}
use Rattle.rules.proofs.Corners.{either_of, or_l, or_r}
use Rattle.rules.proofs.Pairs.{joined, Third, third_lower, no_third, third_one}
use Rattle.rules.proofs.Alike.{plus, moved, check_alike, run_alike}
use Rattle.rules.proofs.Choosing.{by_greatest, broken_same, next_same}
use Rattle.rules.proofs.Published.{Published, both}
use Rattle.rules.proofs.Codewords.{codeword_quiet}
use Rattle.rules.proofs.Numbers.{published}
use Rattle.answers.proofs.Differing.{differ_two, differ_three}
use Rattle.answers.proofs.Answers.{correct_taken}
use Rattle.answers.proofs.Corrections.{chooses, near_earthed, near_degree, one_wrong, bit_one_wrong, lifted_flip, met}
use Rattle.answers.proofs.Corrections.{mended}

-- ---- a third bit of code 1

-- two bits that lie so
joined_around : (p q s a b ahead back : ℕ) → b % 16 ≡ (a % 16 + ahead) % 16 → a % 16 ≡ (b % 16 + back) % 16
    → T (joined p q s (a / 16) (b / 16) ahead back) → T (around p q s a b)
joined_around p q s a b ahead back second first t =
    either_of (eqb (a / 16) p && (eqb (b / 16) q && eqb ahead s)) (eqb (b / 16) p && (eqb (a / 16) q && eqb back s)) t
    (λ u. or_l (further p q s a b) (further p q s b a) (lies a b ahead second u))
    (λ u. or_r (further p q s a b) (further p q s b a) (lies b a back first u))
  where
    lies : (x y far : ℕ) → y % 16 ≡ (x % 16 + far) % 16 → T (eqb (x / 16) p && (eqb (y / 16) q && eqb far s)) → T (further p q s x y)
    lies x y far e u =
        let v = and_r (eqb (x / 16) p) (eqb (y / 16) q && eqb far s) u in
        both (eqb (x / 16) p) (eqb (y / 16) q && eqb (y % 16) ((x % 16 + s) % 16)) (and_l (eqb (x / 16) p) (eqb (y / 16) q && eqb far s) u)
        (both (eqb (y / 16) q) (eqb (y % 16) ((x % 16 + s) % 16)) (and_l (eqb (y / 16) q) (eqb far s) v)
        (subst T (sym (eq-eqb (y % 16) ((x % 16 + s) % 16) (e ∙ ap (λ z. (x % 16 + z) % 16)
        (eqb→eq far s (and_r (eqb (y / 16) q) (eqb far s) v))))) tt))

module _ (a b k : ℕ) (third : Third a b k) where
  here : (p q s : ℕ) → T (joined p q s (a / 16) (b / 16) third.ahead third.back) → T (around p q s a b)
  here p q s = joined_around p q s a b third.ahead third.back third.second third.first

  -- any third bit
  third_eighty : T (eighty a b)
  third_eighty =
      either_of (eqb (k / 16) 4 && joined 5 6 13 (a / 16) (b / 16) third.ahead third.back) _ third.is
      (λ u. or_l (sixteen a b) rest (here 5 6 13 (and_r (eqb (k / 16) 4) _ u)))
      (λ u. or_r (sixteen a b) rest (either_of (eqb (k / 16) 6 && (joined 4 5 5 (a / 16) (b / 16) third.ahead third.back
      || joined 4 5 3 (a / 16) (b / 16) third.ahead third.back)) _ u
      (λ v. or_l fives sixes (either_of (joined 4 5 5 (a / 16) (b / 16) third.ahead third.back) _ (and_r (eqb (k / 16) 6) _ v)
      (λ w. or_l (around 4 5 5 a b) (around 4 5 3 a b) (here 4 5 5 w)) (λ w. or_r (around 4 5 5 a b) (around 4 5 3 a b) (here 4 5 3 w))))
      (λ v. or_r fives sixes (either_of (joined 4 6 2 (a / 16) (b / 16) third.ahead third.back) _ (and_r (eqb (k / 16) 5) _ v)
      (λ w. or_l (around 4 6 2 a b) (around 4 6 0 a b) (here 4 6 2 w)) (λ w. or_r (around 4 6 2 a b) (around 4 6 0 a b) (here 4 6 0 w))))))
    where
      fives : Bool
      fives = around 4 5 5 a b || around 4 5 3 a b

      sixes : Bool
      sixes = around 4 6 2 a b || around 4 6 0 a b

      rest : Bool
      rest = (around 4 5 5 a b || around 4 5 3 a b) || (around 4 6 2 a b || around 4 6 0 a b)

  -- a third bit that is lower than both
  module _ (la : k < a) (lb : k < b) where
    -- lies in no later block
    lower : (x t : ℕ) → k < x → T (eqb (k / 16) t) → T (eqb (x / 16) 4) → 4 < t → ⊥
    lower x t l e f h =
        omega (
          arith,
          eqb→eq (k / 16) t e,
          eqb→eq (x / 16) 4 f,
          div-add-mod' k 16,
          div-add-mod' x 16,
          mod-lt x (zero-lt-suc 15),
        )

    one_four : (q s t : ℕ) → 4 < t → T (eqb (k / 16) t) → T (joined 4 q s (a / 16) (b / 16) third.ahead third.back) → ⊥
    one_four q s t h e u =
        either_of (eqb (a / 16) 4 && (eqb (b / 16) q && eqb third.ahead s)) (eqb (b / 16) 4 && (eqb (a / 16) q && eqb third.back s)) u
        (λ v. lower a t la e (and_l (eqb (a / 16) 4) _ v) h) (λ v. lower b t lb e (and_l (eqb (b / 16) 4) _ v) h)

    third_sixteen : T (sixteen a b)
    third_sixteen =
        either_of (eqb (k / 16) 4 && joined 5 6 13 (a / 16) (b / 16) third.ahead third.back) _ third.is
        (λ u. here 5 6 13 (and_r (eqb (k / 16) 4) _ u))
        (λ u. absurd (either_of (eqb (k / 16) 6 && (joined 4 5 5 (a / 16) (b / 16) third.ahead third.back
        || joined 4 5 3 (a / 16) (b / 16) third.ahead third.back)) _ u
        (λ v. either_of (joined 4 5 5 (a / 16) (b / 16) third.ahead third.back) _ (and_r (eqb (k / 16) 6) _ v)
        (one_four 5 5 6 (lit< tt) (and_l (eqb (k / 16) 6) _ v)) (one_four 5 3 6 (lit< tt) (and_l (eqb (k / 16) 6) _ v)))
        (λ v. either_of (joined 4 6 2 (a / 16) (b / 16) third.ahead third.back) _ (and_r (eqb (k / 16) 5) _ v)
        (one_four 6 2 5 (lit< tt) (and_l (eqb (k / 16) 5) _ v)) (one_four 6 0 5 (lit< tt) (and_l (eqb (k / 16) 5) _ v)))))

-- ---- no third bit is flipped

not_both : (p q : Bool) → p ≡ true → T q → T (not (p && q)) → ⊥
not_both true true e t u = u
not_both true false e t u = t
not_both false q e t u = true≢false (sym e)

module _ (n : ℕ) (off : T (offered n)) (a b k : ℕ) (ha : a < bits (code n)) (hb : b < bits (code n)) (hk : k < bits (code n))
    (apart : a ≡ b → ⊥) (ka : k ≡ a → ⊥) (kb : k ≡ b → ⊥) (tied : Tied (code n) a b k) where
  -- a third bit is one of code 1
  first_code : n ≡ 1
  first_code = go (ℕ_discrete n 1)
    where
      go : Dec (n ≡ 1) → n ≡ 1
      go (yes e) = e
      go (no e) = absurd (no_third n off (subst (λ z. T (not z)) (sym (ne_eqb n 1 e)) tt) a b k ha hb hk apart ka kb tied)

  the_third : Third a b k
  the_third =
      let e = first_code in
      third_one a b k (subst (λ m. a < bits (code m)) e ha) (subst (λ m. b < bits (code m)) e hb) (subst (λ m. k < bits (code m)) e hk)
      apart ka kb (subst (λ m. Tied (code m) a b k) e tied)

  pub decided : T (not (undecided n a b)) → ⊥
  decided = not_both (eqb n 1) (eighty a b) (eq-eqb n 1 first_code) (third_eighty a b k the_third)

  pub lower_decided : k < a → k < b → T (not (unmended n a b)) → ⊥
  lower_decided la lb = not_both (eqb n 1) (sixteen a b) (eq-eqb n 1 first_code) (third_sixteen a b k the_third la lb)

-- of the bits that are sent and of those that the checks are over
first_unsent : (code 1).unsent ≡ 0
unfolding code code1
first_unsent = refl

moved_pair : (P : ℕ → ℕ → Bool) (n b d : ℕ) → T (not (eqb n 1 && P b d))
    → T (not (eqb n 1 && P (b + (code n).unsent) (d + (code n).unsent)))
moved_pair P n b d t = go (ℕ_discrete n 1)
  where
    go : Dec (n ≡ 1) → T (not (eqb n 1 && P (b + (code n).unsent) (d + (code n).unsent)))
    go (yes e) =
        let u : (code n).unsent ≡ 0 = ap (λ m. (code m).unsent) e ∙ first_unsent in
        let eb : b + (code n).unsent ≡ b = omega arith in
        let ed : d + (code n).unsent ≡ d = omega arith in
        subst (λ z. T (not (eqb n 1 && z))) (sym (ap₂ P eb ed)) t
    go (no e) = subst (λ z. T (not (z && P (b + (code n).unsent) (d + (code n).unsent)))) (sym (ne_eqb n 1 e)) tt

-- ---- two wrong bits, and three

-- the octets of a word with two bits flipped, and with three
abbrev pub two_wrong : Code → List ℕ → ℕ → ℕ → List ℕ
two_wrong c word b d = one_wrong c (one_wrong c word b) d

abbrev pub three_wrong : Code → List ℕ → ℕ → ℕ → ℕ → List ℕ
three_wrong c word b d e = one_wrong c (two_wrong c word b d) e

module _ (n : ℕ) (off : T (offered n)) (word out : List ℕ) (lw : length word ≡ (code n).octets_of_word)
    (lo : length out ≡ (code n).octets_of_word)
    (oct : Octets word) (is : codeword (code n) (bit word) ≡ true) where
  -- the word that was sent
  abbrev x : Word
  x = lifted (code n) (bit word)

  -- a run that ends at it after k flips, from a word that differs in k bits
  ran_mended : (k : ℕ) (y : Word) (r : Run) → Mends (lifted (code n) (bit word)) k r
      → differing (code n) y (lifted (code n) (bit word)) ≡ k → ran_correct (code n) y r out ≡ mended_by n k y word
  ran_mended k y r m e =
      mended n off word out lw lo oct is r m.number m.word y
      ∙ ap₂ (λ i j. record {
        number = 0;
        flips = i;
        first = broken (code n) y;
        last = 0;
        unlike = j;
        lowest = lowest (code n) y;
        out = word;
      })
      m.flips e

  -- under any way that flips a bit of greatest excess, if that is no third bit
  module _ {way : Way} (ch : Chooses (code n) way) (takes : TakesGreatest (code n) way) where
    pub ran_two_back : (limit a b : ℕ) → (code n).unsent ≤ a → (code n).unsent ≤ b → a < bits (code n) → b < bits (code n) → (a ≡ b → ⊥)
        → ((k : ℕ) (ex : ℤ) → way (flipped (flipped (lifted (code n) (bit word)) a) b) ≡ flip k ex → (k ≡ a → ⊥) → (k ≡ b → ⊥)
        → Tied (code n) a b k → ⊥)
        → ran_correct (code n) (flipped (flipped (lifted (code n) (bit word)) a) b)
        (run way (suc (suc limit)) (flipped (flipped (lifted (code n) (bit word)) a) b)) out
        ≡ mended_by n 2 (flipped (flipped (lifted (code n) (bit word)) a) b) word
    ran_two_back limit a b sa sb ha hb apart only =
        ran_mended 2 (flipped (flipped x a) b) (run way (suc (suc limit)) (flipped (flipped x a) b))
        (two_mended (code n) (published n off).girth x (met n off word out lw lo oct is) a b ha hb apart ch takes sa sb only limit)
        (differ_two (code n) x a b ha hb apart)

    -- codes 4 and 5: three, if no check covers the first and just one of the others
    pub ran_three_back : T (near_earthed n) → (limit a b d : ℕ) → (code n).unsent ≤ a → (code n).unsent ≤ b → (code n).unsent ≤ d
        → a < bits (code n) → b < bits (code n) → d < bits (code n) → (a ≡ b → ⊥) → (a ≡ d → ⊥) → (b ≡ d → ⊥)
        → with_one (code n) a b d ≡ 0
        → ran_correct (code n) (flipped (flipped (flipped (lifted (code n) (bit word)) a) b) d)
        (run way (suc (suc (suc limit))) (flipped (flipped (flipped (lifted (code n) (bit word)) a) b) d)) out
        ≡ mended_by n 3 (flipped (flipped (flipped (lifted (code n) (bit word)) a) b) d) word
    ran_three_back near limit a b d sa sb sd ha hb hd ab ad bd free =
        ran_mended 3 (flipped (flipped (flipped x a) b) d) (run way (suc (suc (suc limit))) (flipped (flipped (flipped x a) b) d))
        (three_mended (code n) (published n off).girth (λ k h. le_of_eq (sym (near_degree n near k h))) x
        (met n off word out lw lo oct is) a b d ha hb hd ab ad bd free ch takes sa sb sd limit)
        (differ_three (code n) x a b d ha hb hd ab ad bd)

  -- the words as received
  abbrev got : ℕ → ℕ → Word
  got b d = lifted (code n) (bit (two_wrong (code n) word b d))

  abbrev got_three : ℕ → ℕ → ℕ → Word
  got_three b d e = lifted (code n) (bit (three_wrong (code n) word b d e))

  pub two_lifted : (b d : ℕ) → b < bits (code n) - (code n).unsent → d < bits (code n) - (code n).unsent
      → lifted (code n) (bit (two_wrong (code n) word b d))
      ≡ flipped (flipped (lifted (code n) (bit word)) (b + (code n).unsent)) (d + (code n).unsent)
  two_lifted b d hb hd =
      ap (lifted (code n))
      (bit_one_wrong (code n) (one_wrong (code n) word b) d (length_octets (code n).octets_of_word (flipped (bit word) b))
      (lt_of_lt_of_le hd (published n off).fits)
      ∙ ap (λ y. flipped y d) (bit_one_wrong (code n) word b lw (lt_of_lt_of_le hb (published n off).fits)))
      ∙ lifted_flip (code n) (flipped (bit word) b) d ∙ ap (λ y. flipped y (d + (code n).unsent)) (lifted_flip (code n) (bit word) b)

  three_lifted : (b d e : ℕ) → b < bits (code n) - (code n).unsent → d < bits (code n) - (code n).unsent
      → e < bits (code n) - (code n).unsent
      → lifted (code n) (bit (three_wrong (code n) word b d e))
      ≡ flipped (flipped (flipped (lifted (code n) (bit word)) (b + (code n).unsent)) (d + (code n).unsent)) (e + (code n).unsent)
  three_lifted b d e hb hd he =
      ap (lifted (code n)) (bit_one_wrong (code n) (two_wrong (code n) word b d) e
      (length_octets (code n).octets_of_word (flipped (bit (one_wrong (code n) word b)) d)) (lt_of_lt_of_le he (published n off).fits))
      ∙ lifted_flip (code n) (bit (two_wrong (code n) word b d)) e ∙ ap (λ y. flipped y (e + (code n).unsent)) (two_lifted b d hb hd)

  -- Every code, a limit of at least 2: a codeword with exactly two wrong covered bits comes back mended by exactly two flips, but for 16
  -- pairs of code 1. The covered bits are those that the checks are over and that are sent: all of codes 1 to 4, all but the last two of
  -- code 5.
  by_two : (limit b d : ℕ) → b < bits (code n) - (code n).unsent → d < bits (code n) - (code n).unsent → (b ≡ d → ⊥)
      → T (not (unmended n b d)) → correct_answer n (two_wrong (code n) word b d) (suc (suc limit)) out ≡ mended_by n 2 (got b d) word
  by_two limit b d hb hd apart but =
      let pb : Published (code n) = published n off in
      let u = (code n).unsent in
      let ha : b + u < bits (code n) = omega arith in
      let hc : d + u < bits (code n) = omega arith in
      let other : b + u ≡ d + u → ⊥ = λ q. apart (omega arith) in
      correct_taken n (two_wrong (code n) word b d) (suc (suc limit)) out off
      (length_octets (code n).octets_of_word (flipped (bit (one_wrong (code n) word b)) d)) lo
      ∙ ap (λ y. ran_correct (code n) y (run (by_excess (code n)) (suc (suc limit)) y) out) (two_lifted b d hb hd)
      ∙ ran_two_back (chooses n off) (by_greatest (code n) pb.some) limit (b + u) (d + u) (omega arith) (omega arith) ha hc other
      (λ k ex e ka kb tied.
      let under : k < bits (code n) = ((chooses n off).flips (flipped (flipped x (b + u)) (d + u)) k ex e).under in
      let low = third_lower (code n) pb.some pb.girth x (met n off word out lw lo oct is) (b + u) (d + u) ha hc other (omega arith)
      (omega arith) k ex e tied ka kb in
      lower_decided n off (b + u) (d + u) k ha hc under other ka kb tied low.0 low.1 (moved_pair sixteen n b d but))
      ∙ ap (λ y. mended_by n 2 y word) (sym (two_lifted b d hb hd))

  pub two_back : (limit b d : ℕ) → limit_for_two ≤ limit → b < bits (code n) - (code n).unsent → d < bits (code n) - (code n).unsent
      → (b ≡ d → ⊥) → T (not (unmended n b d)) → correct_answer n (two_wrong (code n) word b d) limit out ≡ mended_by n 2 (got b d) word
  two_back limit b d enough hb hd apart but =
      let is : limit ≡ suc (suc (limit - 2)) = omega arith in
      ap (λ l. correct_answer n (two_wrong (code n) word b d) l out) is ∙ by_two (limit - 2) b d hb hd apart but

  -- Codes 4 and 5, a limit of at least 3: a codeword with exactly three wrong covered bits comes back mended by exactly three flips, if
  -- no check covers the first of them and just one of the others: if it shares no check with either, or all three lie in one check.
  module _ (near : T (near_earthed n)) (b d e : ℕ) (hb : b < bits (code n) - (code n).unsent) (hd : d < bits (code n) - (code n).unsent)
      (he : e < bits (code n) - (code n).unsent) (bd : b ≡ d → ⊥) (be : b ≡ e → ⊥) (de : d ≡ e → ⊥) where
    by_three : with_one (code n) (b + (code n).unsent) (d + (code n).unsent) (e + (code n).unsent) ≡ 0 → (limit : ℕ)
        → correct_answer n (three_wrong (code n) word b d e) (suc (suc (suc limit))) out ≡ mended_by n 3 (got_three b d e) word
    by_three free limit =
        let u = (code n).unsent in
        correct_taken n (three_wrong (code n) word b d e) (suc (suc (suc limit))) out off
        (length_octets (code n).octets_of_word (flipped (bit (two_wrong (code n) word b d)) e)) lo
        ∙ ap (λ y. ran_correct (code n) y (run (by_excess (code n)) (suc (suc (suc limit))) y) out) (three_lifted b d e hb hd he)
        ∙ ran_three_back (chooses n off) (by_greatest (code n) (published n off).some) near limit (b + u) (d + u) (e + u) (omega arith)
        (omega arith) (omega arith) (omega arith) (omega arith) (omega arith) (λ q. bd (omega arith)) (λ q. be (omega arith))
        (λ q. de (omega arith)) free
        ∙ ap (λ y. mended_by n 3 y word) (sym (three_lifted b d e hb hd he))

    with_limit : with_one (code n) (b + (code n).unsent) (d + (code n).unsent) (e + (code n).unsent) ≡ 0 → (limit : ℕ)
        → limit_for_three ≤ limit
        → correct_answer n (three_wrong (code n) word b d e) limit out ≡ mended_by n 3 (got_three b d e) word
    with_limit free limit enough =
        let is : limit ≡ suc (suc (suc (limit - 3))) = omega arith in
        ap (λ l. correct_answer n (three_wrong (code n) word b d e) l out) is ∙ by_three free (limit - 3)

    pub three_back : shared (code n) (b + (code n).unsent) (d + (code n).unsent) ≡ 0
        → shared (code n) (b + (code n).unsent) (e + (code n).unsent) ≡ 0 → (limit : ℕ) → limit_for_three ≤ limit
        → correct_answer n (three_wrong (code n) word b d e) limit out ≡ mended_by n 3 (got_three b d e) word
    three_back s t =
        with_limit (none_shared (code n) (b + (code n).unsent) (d + (code n).unsent) (e + (code n).unsent) s t)

    pub three_in_one_back : (k : ℕ) → k < checks (code n) → covers (code n) k (b + (code n).unsent) ≡ true
        → covers (code n) k (d + (code n).unsent) ≡ true → covers (code n) k (e + (code n).unsent) ≡ true → (limit : ℕ)
        → limit_for_three ≤ limit → correct_answer n (three_wrong (code n) word b d e) limit out ≡ mended_by n 3 (got_three b d e) word
    three_in_one_back k l eb ed ee =
        with_limit (all_shared (code n) (b + (code n).unsent) (d + (code n).unsent) (e + (code n).unsent) (published n off).girth
        (omega arith) (omega arith) (omega arith) (λ q. bd (omega arith)) (λ q. be (omega arith)) k l eb ed ee)

-- ---- which codeword was sent

-- the octets of a word with the bits of e flipped
abbrev pub wrong_at : Code → List ℕ → Word → List ℕ
wrong_at c word e = octets c.octets_of_word (plus (bit word) e)

-- the octets of zeros with the same bits flipped
abbrev pub wrong_alone : Code → Word → List ℕ
wrong_alone c e = octets c.octets_of_word e

-- For every code and every limit the flips of a codeword with some wrong bits are those of the zero word with the same wrong bits, and so
-- are
-- the checks broken at the start and at the end.
module _ (n : ℕ) (off : T (offered n)) (word : List ℕ) (lw : length word ≡ (code n).octets_of_word)
    (is : codeword (code n) (bit word) ≡ true)
    (e : Word) where
  abbrev c : Code
  c = code n

  x_met : broken c (lifted c (bit word)) ≡ 0
  x_met = codeword_quiet c (published n off) (bit word) is

  bits_are : bit (wrong_at c word e) ≡ plus (bit word) (bit (wrong_alone c e))
  bits_are = fun_ext (λ k. bit_octets c.octets_of_word (plus (bit word) e) k ∙ go k (dec_lt k (8 * c.octets_of_word))
      ∙ ap (λ b. bit word k ⊕ b) (sym (bit_octets c.octets_of_word e k)))
    where
      go : (k : ℕ) → Dec (k < 8 * c.octets_of_word)
          → (ltb k (8 * c.octets_of_word) && (bit word k ⊕ e k)) ≡ bit word k ⊕ (ltb k (8 * c.octets_of_word) && e k)
      go k (yes l) = let t = lt-ltb k (8 * c.octets_of_word) l in ap (λ b. b && (bit word k ⊕ e k)) t
          ∙ sym (ap (λ b. bit word k ⊕ (b && e k)) t)
      go k (no g) =
          let t = le-ltb k (8 * c.octets_of_word) (omega (arith, lt_of_not-le g)) in
          ap (λ b. b && (bit word k ⊕ e k)) t
          ∙ sym (ap₂ (λ a b. a ⊕ (b && e k)) (bit_past word k (omega (arith, lt_of_not-le g, lw))) t)

  lifted_are : lifted c (bit (wrong_at c word e)) ≡ plus (lifted c (bit word)) (lifted c (bit (wrong_alone c e)))
  unfolding lifted
  lifted_are = fun_ext (λ k. ap (λ y. not (ltb k c.unsent) && y (k - c.unsent)) bits_are
      ∙ and-⊕ (not (ltb k c.unsent)) (bit word (k - c.unsent)) (bit (wrong_alone c e) (k - c.unsent)))

  asks : (y z : Word) → ((k : ℕ) → k < checks c → check c y k ≡ check c z k) → by_excess c y ≡ by_excess c z
  asks = next_same c

  ran : (limit : ℕ) → run (by_excess c) limit (lifted c (bit (wrong_at c word e))) ≡ moved c (lifted c (bit word)) x_met (by_excess c) asks
      (run (by_excess c) limit (lifted c (bit (wrong_alone c e))))
  ran limit = ap (run (by_excess c) limit) lifted_are
      ∙ run_alike c (lifted c (bit word)) x_met (by_excess c) asks limit (lifted c (bit (wrong_alone c e)))

  broken_alike : (w : Word) → broken c (plus (lifted c (bit word)) w) ≡ broken c w
  broken_alike w = broken_same c (plus (lifted c (bit word)) w) w (check_alike c (lifted c (bit word)) x_met w)

  pub record Alike (r s : Corrected) : Type 0 where
    pub flips : r.flips ≡ s.flips
    pub first : r.first ≡ s.first
    pub last : r.last ≡ s.last

  pub sent_alike : (limit : ℕ) (out : List ℕ) → length out ≡ c.octets_of_word
      → Alike (correct_answer n (wrong_at c word e) limit out) (correct_answer n (wrong_alone c e) limit out)
  unfolding ran_correct
  sent_alike limit out lo =
      let one = correct_taken n (wrong_at c word e) limit out off (length_octets c.octets_of_word (plus (bit word) e)) lo in
      let two = correct_taken n (wrong_alone c e) limit out off (length_octets c.octets_of_word e) lo in
      record {
        flips = ap (λ r. r.flips) one ∙ ap (λ r. length r.flips) (ran limit) ∙ sym (ap (λ r. r.flips) two);
        first = ap (λ r. r.first) one ∙ ap (broken c) lifted_are ∙ broken_alike (lifted c (bit (wrong_alone c e)))
            ∙ sym (ap (λ r. r.first) two);
        last = ap (λ r. r.last) one ∙ ap (λ r. broken c r.word) (ran limit)
            ∙ broken_alike (run (by_excess c) limit (lifted c (bit (wrong_alone c e)))).word ∙ sym (ap (λ r. r.last) two);
      }
