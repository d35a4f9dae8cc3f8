-- The worked cases of the paper that are marked to be proved, gathered into one statement over a list of them.
use mathlib.Core.Path.{◌≡◌, refl, sym, ap, ap₂, ◌∙◌, fun_ext, subst}
use mathlib.Core.Bool.{Bool, true, false, not, ◌&&◌, ◌||◌, and-false}
use mathlib.Core.List.{List, [], ◌∷◌, ◌++◌}
use Prim.Native.Nat.{ℕ, ◌+◌, ◌-◌, ◌/◌, ◌%◌, ◌≤◌, ◌<◌, zero-le}
use native.Mathlib.Nat.{lt_of_lt_of_le, lt_of_le_of_lt, le_of_eq, not-suc-le-zero, lt_of_not-le}
use native.Mathlib.Decide.{dec_lt}
use native.Mathlib.Omega.{arith}
use lib.Dec.{T, eqb, leb, ltb, lit<, lit≤}
use lib.IntN.{ℤ, pos}
use lib.ListN.{length, get_or, replicate, length-replicate}
use borrow.Author.Tests.{eq-eqb, lt-ltb, le-ltb, le-leb, lt-leb}
use Rattle.bits.specs.Bits.{Word, digit, bit, number, octets, count, ◌⊕◌, sum, flipped, when◌then◌else◌, below}
use Rattle.rules.specs.Tables.{parity16, parity511, generator16, generator511}
use Rattle.rules.specs.Codes.{code, code1, code4, code5, bits, checks, information, offered}
use Rattle.rules.specs.Checks.{covers, check, broken, lowest, degree_of}
use Rattle.rules.specs.Encoding.{row_bit, parity_bit, encoded, lifted, sent, codeword, written, OwnParity}
use Rattle.rules.specs.Flipping.{flip, by_excess, run, ended}
use Rattle.answers.specs.Calls.{refused_encode, encode_answer, refused_check_of, check_answer, refused_open, open_answer, judged, refusal}
use Rattle.answers.specs.Calls.{unless, refused_correct_of, ran_correct, correct_answer, refused_step_of, next_step, step_answer, ran_from}
use Rattle.answers.specs.Lists.{Entry, refused_list, list_answer}
use Rattle.bits.proofs.Sums.{⊕-eq, sum_none, below_at, not-true, and_l}
use Rattle.bits.proofs.Counting.{count_none, count_same, none_counted}
use Rattle.bits.proofs.Leasts.{least_found}
use Rattle.rules.proofs.Blocks.{blk, check_in, check_in_lem}
use Rattle.bits.proofs.Octets.{zeros_at, digit_zero, Octets, length_octets, octets_same, bit_octets}
use Rattle.rules.proofs.Flips.{check_flip}
use Rattle.rules.proofs.Runs.{run_limit, run_quiet}
use Rattle.rules.proofs.Lowest.{quiet_lowest}
use Rattle.rules.proofs.Ways.{one_next}
use Rattle.rules.proofs.Choosing.{quiet_next, by_excess_lem, by_greatest}
use Rattle.rules.proofs.Published.{published1, published4, published5}
use Rattle.rules.proofs.Codewords.{own_codeword, codeword_bit, sent_bit, encoded_parity, encoded_information, parity_same, lifted_sent}
use Rattle.answers.proofs.Three.{among}
use Rattle.answers.proofs.Answers.{check_taken, correct_taken, step_taken}
use Rattle.answers.proofs.Opening.{codeword_opened}
use Rattle.answers.proofs.Steps.{one_flipped}
use Rattle.rules.proofs.Numbers.{published, encoded_meets, whole, lifted_whole, four_quiet, met_codeword}
use Rattle.answers.proofs.Corrections.{one_wrong, bit_one_wrong, lifted_flip, one_back, unsent_wrong, near_degree}

pub data Case : Type 0 where
  -- information is encoded as this word
  encodes : (n : ℕ) (info word : List ℕ) → Case
  -- just these checks are broken, in increasing order, and check says so
  breaks : (n : ℕ) (word ks : List ℕ) → Case
  -- a step flips this bit, of this excess, and writes this word
  steps : (n : ℕ) (word : List ℕ) (k : ℕ) (ex : ℤ) (after : List ℕ) → Case
  -- open lends back these octets
  opens : (n : ℕ) (word part : List ℕ) → Case
  -- correct gives number, flips, first and last under a limit; or under every limit
  corrects : (n : ℕ) (word : List ℕ) (limit number flips first last : ℕ) → Case
  always : (n : ℕ) (word : List ℕ) (number flips first last : ℕ) → Case
  -- correct refuses an input of this length, whatever the output; and an output of this length, where the input has that one
  input : (n long number : ℕ) → Case
  output : (n long room number : ℕ) → Case
  -- no call has this code (here six; `capi/proofs/Unoffered` has every call); open has not this one, step has not this one
  unoffered : (n : ℕ) → Case
  unopened : (n : ℕ) → Case
  unstepped : (n : ℕ) → Case

abbrev pub Breaks : ℕ → List ℕ → List ℕ → Type 0
Breaks n word ks = (k : ℕ) → k < checks (code n) → check (code n) (lifted (code n) (bit word)) k ≡ among k ks

abbrev pub Corrects : ℕ → List ℕ → ℕ → ℕ → ℕ → ℕ → ℕ → Type 0
Corrects n word limit number flips first last =
    (out : List ℕ) → length out ≡ (code n).octets_of_word
    → ((correct_answer n word limit out).number ≡ number) × ((correct_answer n word limit out).flips ≡ flips)
    × ((correct_answer n word limit out).first ≡ first) × ((correct_answer n word limit out).last ≡ last)

abbrev pub Holds : Case → Type 0
Holds (encodes n info word) = (out : List ℕ) → length out ≡ (code n).octets_of_word → encode_answer n info out ≡ record {
  number = 0;
  out = word;
}
Holds (breaks n word ks) =
    Breaks n word ks × (check_answer n word ≡ record { number = 0; broken = length ks; lowest = get_or ks 0 (checks (code n)) })
Holds (steps n word k ex after) =
    (out : List ℕ) → length out ≡ (code n).octets_of_word
    → step_answer n word out ≡ record { number = 0; quiet = false; bit = k; excess = ex; out = after }
Holds (opens n word part) = open_answer n word ≡ record { number = 0; lowest = checks (code n); part = part }
Holds (corrects n word limit number flips first last) = Corrects n word limit number flips first last
Holds (always n word number flips first last) = (limit : ℕ) → Corrects n word limit number flips first last
Holds (input n long number) = (word out : List ℕ) (limit : ℕ) → length word ≡ long
    → correct_answer n word limit out ≡ refused_correct_of out number
Holds (output n long room number) = (word out : List ℕ) (limit : ℕ) → length word ≡ long → length out ≡ room
    → correct_answer n word limit out ≡ refused_correct_of out number
Holds (unoffered n) =
    ((info out : List ℕ) → encode_answer n info out ≡ refused_encode out 1)
    × ((word : List ℕ) → check_answer n word ≡ refused_check_of 1)
    × ((word : List ℕ) → open_answer n word ≡ refused_open 1)
    × ((word out : List ℕ) (limit : ℕ) → correct_answer n word limit out ≡ refused_correct_of out 1)
    × ((word out : List ℕ) → step_answer n word out ≡ refused_step_of out 1)
    × ((word : List ℕ) (table : List Entry) (limit : ℕ) → list_answer n word limit table ≡ refused_list table 1)
Holds (unopened n) = (word : List ℕ) → open_answer n word ≡ refused_open 1
Holds (unstepped n) = (word out : List ℕ) → step_answer n word out ≡ refused_step_of out 1

abbrev pub All : List Case → Type 0
All [] = Unit {0}
All (c ∷ cs) = Holds c × All cs

-- ---- the words of the cases, by their bits

-- only bit b is set
abbrev pub only : ℕ → ℕ → List ℕ
only long b = octets long (λ n. eqb n b)

abbrev pub all_ones : ℕ → List ℕ
all_ones long = octets long (λ n. true)

-- bits 7154 to 7664: the first parity block of code 4
abbrev pub block_bits : Word
block_bits n = leb 7154 n && ltb n 7665

abbrev pub information80 : List ℕ
information80 = 0x80 ∷ replicate 7 0

-- code 4's word of information bit 0 alone: its first 18 bits dropped, two zeros appended
abbrev pub shortened : List ℕ
shortened = written code5 (encoded code4 (λ n. eqb n 0))

pub starred : List Case
starred =
    encodes 1 information80 (information80 ++ (0x0E ∷ 0x69 ∷ 0x16 ∷ 0x6B ∷ 0xEF ∷ 0x4C ∷ 0x0B ∷ 0xC2 ∷ []))
    ∷ breaks 1 (only 16 0) (0 ∷ 9 ∷ 26 ∷ 44 ∷ 48 ∷ [])
    ∷ steps 1 (only 16 0) 0 (pos 5) (replicate 16 0)
    ∷ breaks 1 (only 16 127) (15 ∷ 24 ∷ 44 ∷ [])
    ∷ breaks 1 (all_ones 16) []
    ∷ opens 1 (all_ones 16) (replicate 8 0xFF)
    ∷ breaks 4 (only 1022 0) (0 ∷ 335 ∷ 551 ∷ 923 ∷ [])
    ∷ breaks 4 (octets 1022 block_bits) []
    ∷ always 4 (octets 1022 block_bits) 8 0 0 0
    ∷ corrects 1 (only 16 0) 0 6 0 5 5
    ∷ corrects 1 (only 16 0) 1 0 1 5 0
    ∷ always 5 shortened 5 0 4 4
    ∷ input 1 15 2
    ∷ output 1 16 17 3
    ∷ unoffered 0
    ∷ unoffered 6
    ∷ unopened 4
    ∷ unstepped 5
    ∷ []

-- ---- their proofs

encodes1 : Holds (encodes 1 information80 (information80 ++ (0x0E ∷ 0x69 ∷ 0x16 ∷ 0x6B ∷ 0xEF ∷ 0x4C ∷ 0x0B ∷ 0xC2 ∷ [])))
unfolding encode_answer code code1 generator16 parity16 encoded lifted sent octets number sum parity_bit
encodes1 out lo = rw (eq-eqb (length out) 16 lo) refl

-- the octets of a word
short_long : 16 ≡ code1.octets_of_word
unfolding code1
short_long = refl

near_long : 1022 ≡ code4.octets_of_word
unfolding code4
near_long = refl

-- the word of zeros
abbrev none : Word
none n = false

bit_zeros : (k n : ℕ) → bit (replicate k 0) n ≡ false
bit_zeros k n = ap (λ z. digit 8 z (n % 8)) (zeros_at k (n / 8)) ∙ digit_zero 8 (n % 8)

module _ (n : ℕ) (t : T (offered n && not (eqb n 5))) where
  off : T (offered n)
  off = and_l (offered n) (not (eqb n 5)) t

  zeros_are : lifted (code n) (bit (replicate (code n).octets_of_word 0)) ≡ none
  zeros_are = lifted_whole (code n) (whole n t) (bit (replicate (code n).octets_of_word 0)) ∙ fun_ext (bit_zeros (code n).octets_of_word)

  zeros_octets : Octets (replicate (code n).octets_of_word 0)
  zeros_octets i = subst (λ z. z < 256) (sym (zeros_at (code n).octets_of_word i)) (lit< tt)

  none_own : OwnParity (code n) none
  unfolding parity_bit
  none_own p h = sym (sum_none (information (code n)) _ (λ k l. refl))

  none_met : broken (code n) none ≡ 0
  none_met = (published n off).own_quiet none none_own

  zeros_codeword : codeword (code n) (bit (replicate (code n).octets_of_word 0)) ≡ true
  unfolding sent
  zeros_codeword =
      ap (codeword (code n)) (fun_ext (λ k. bit_zeros (code n).octets_of_word k
      ∙ sym (and-false (ltb k (bits (code n) - (code n).unsent)))))
      ∙ own_codeword (code n) (published n off) none none_own (λ k h. refl)

  -- a word with one bit set is the word of zeros with one wrong bit
  only_wrong : (b : ℕ) → only (code n).octets_of_word b ≡ one_wrong (code n) (replicate (code n).octets_of_word 0) b
  only_wrong b = octets_same (code n).octets_of_word (λ k. eqb k b) (flipped (bit (replicate (code n).octets_of_word 0)) b)
      (λ i l. sym (ap (λ z. z ⊕ eqb i b) (bit_zeros (code n).octets_of_word i)))

  -- its broken checks are those of the bit
  only_breaks : (b : ℕ) → b < bits (code n) → (k : ℕ) → check (code n) (lifted (code n) (bit (only (code n).octets_of_word b))) k ≡ covers
      (code n) k b
  unfolding check
  only_breaks b h k =
      ap (λ w. check (code n) (lifted (code n) (bit w)) k) (only_wrong b)
      ∙ ap (λ x. check (code n) x k) (lifted_whole (code n) (whole n t) (bit (one_wrong (code n) (replicate (code n).octets_of_word 0) b))
      ∙ bit_one_wrong (code n) (replicate (code n).octets_of_word 0) b (length-replicate (code n).octets_of_word 0)
      (lt_of_lt_of_le h (le_of_eq (whole n t).full))
      ∙ ap (λ x. flipped x b) (fun_ext (bit_zeros (code n).octets_of_word)))
      ∙ check_flip (code n) none b h k
      ∙ ap (λ z. z ⊕ covers (code n) k b) (sum_none (bits (code n)) _ (λ j l. and-false (covers (code n) k j)))

-- the checks that cover a bit, computed
breaks_by : (n : ℕ) (f : ℕ → Bool) (ks : List ℕ) → T (below n (λ k. not (f k ⊕ among k ks))) → (k : ℕ) → k < n → f k ≡ among k ks
breaks_by n f ks t k h = ⊕-eq (f k) (among k ks) (not-true (f k ⊕ among k ks) (below_at n (λ k. not (f k ⊕ among k ks)) t k h))

-- check gives their count and the first of them
counted : (n : ℕ) (word : List ℕ) (m : ℕ) (ks : List ℕ) → T (offered n) → length word ≡ (code n).octets_of_word → m < checks (code n)
    → count (checks (code n)) (λ k. among k (m ∷ ks)) ≡ length (m ∷ ks) → T (below m (λ k. not (among k (m ∷ ks))))
    → Breaks n word (m ∷ ks) → check_answer n word ≡ record { number = 0; broken = length (m ∷ ks); lowest = m }
unfolding broken lowest
counted n word m ks t lw h many before is =
    let c = code n in
    let f = check c (lifted c (bit word)) in
    check_taken n word t lw
    ∙ ap₂ (λ b l. record { number = 0; broken = b; lowest = l })
    (count_same (checks c) f (λ k. among k (m ∷ ks)) is ∙ many)
    (least_found (checks c) f m h (is m h ∙ ap (λ b. b || among m ks) (eq-eqb m m refl)) (λ k l.
    is k (omega arith) ∙ not-true (among k (m ∷ ks)) (below_at m (λ k. not (among k (m ∷ ks))) before k l)))

none_broken : (n : ℕ) (word : List ℕ) → T (offered n) → length word ≡ (code n).octets_of_word
    → broken (code n) (lifted (code n) (bit word)) ≡ 0
    → Holds (breaks n word [])
unfolding broken
none_broken n word t lw e =
    let c = code n in
    let x = lifted c (bit word) in (
      none_counted (checks c) (check c x) e,
      check_taken n word t lw ∙ ap₂ (λ b l. record { number = 0; broken = b; lowest = l }) e (quiet_lowest c x e),
    )

breaks2 : Holds (breaks 1 (only 16 0) (0 ∷ 9 ∷ 26 ∷ 44 ∷ 48 ∷ []))
unfolding code code1 parity16 count
breaks2 =
    let is : Breaks 1 (only 16 0) (0 ∷ 9 ∷ 26 ∷ 44 ∷ 48 ∷ []) = λ k h.
    only_breaks 1 tt 0 (lit< tt) k ∙ breaks_by 64 (λ k. covers code1 k 0) (0 ∷ 9 ∷ 26 ∷ 44 ∷ 48 ∷ []) tt k h in
    (is, counted 1 (only 16 0) 0 (9 ∷ 26 ∷ 44 ∷ 48 ∷ []) tt (length_octets 16 (λ n. eqb n 0)) (lit< tt) refl tt is)

breaks4 : Holds (breaks 1 (only 16 127) (15 ∷ 24 ∷ 44 ∷ []))
unfolding code code1 parity16 count
breaks4 =
    let is : Breaks 1 (only 16 127) (15 ∷ 24 ∷ 44 ∷ []) = λ k h.
    only_breaks 1 tt 127 (lit< tt) k ∙ breaks_by 64 (λ k. covers code1 k 127) (15 ∷ 24 ∷ 44 ∷ []) tt k h in
    (is, counted 1 (only 16 127) 15 (24 ∷ 44 ∷ []) tt (length_octets 16 (λ n. eqb n 127)) (lit< tt) refl tt is)

breaks7 : Holds (breaks 4 (only 1022 0) (0 ∷ 335 ∷ 551 ∷ 923 ∷ []))
unfolding code code4 parity511 count
breaks7 =
    let is : Breaks 4 (only 1022 0) (0 ∷ 335 ∷ 551 ∷ 923 ∷ []) = λ k h.
    only_breaks 4 tt 0 (lit< tt) k ∙ breaks_by 1022 (λ k. covers code4 k 0) (0 ∷ 335 ∷ 551 ∷ 923 ∷ []) tt k h in
    (is, counted 4 (only 1022 0) 0 (335 ∷ 551 ∷ 923 ∷ []) tt (length_octets 1022 (λ n. eqb n 0)) (lit< tt) refl tt is)

-- code 1: bit 0 has five checks
degree1 : degree_of code1 0 ≡ 5
unfolding degree_of code1 parity16 count
degree1 = refl

next1 : by_excess code1 (lifted code1 (bit (only 16 0))) ≡ flip 0 (pos 5)
unfolding code code1 parity16
next1 =
    ap (λ w. by_excess code1 (lifted code1 (bit w))) (only_wrong 1 tt 0)
    ∙ ap (by_excess code1) (ap (lifted code1) (bit_one_wrong code1 (replicate 16 0) 0 refl (lit< tt))
    ∙ lifted_flip code1 (bit (replicate 16 0)) 0 ∙ ap (λ x. flipped x 0) (zeros_are 1 tt))
    ∙ one_next code1 published1.girth none (none_met 1 tt) 0 (lit< tt) (by_excess_lem code1 published1.some)
    (by_greatest code1 published1.some) zero-le ∙ ap (λ d. flip 0 (pos d)) degree1

flip_cleared : written code1 (flipped (lifted code1 (bit (only 16 0))) 0) ≡ replicate 16 0
unfolding code1 parity16 sent lifted octets number
flip_cleared = refl

steps3 : Holds (steps 1 (only 16 0) 0 (pos 5) (replicate 16 0))
unfolding code code1 next_step
steps3 out lo =
    let x = lifted code1 (bit (only 16 0)) in
    step_taken 1 (only 16 0) out tt (length_octets 16 (λ n. eqb n 0)) lo
    ∙ ap (next_step code1 (only 16 0) x out) next1
    ∙ ap (λ o. record { number = 0; quiet = false; bit = 0; excess = pos 5; out = o })
    (one_flipped code1 (only 16 0) x out 0 (pos 5) ∙ flip_cleared)

-- code 1: the word of ones meets every check
ones_met : broken code1 (lifted code1 (bit (all_ones 16))) ≡ 0
unfolding broken code code1 parity16 generator16 octets number
ones_met =
    ap (broken code1) (lifted_whole code1 (whole 1 tt) (bit (all_ones 16)))
    ∙ count_none 64 (check code1 (bit (all_ones 16))) (λ k h.
    check_in_lem 16 8 0 15 parity16 generator16 16 8 tt (bit (all_ones 16)) k h
    ∙ not-true (check_in 16 (get_or parity16 (k / 16) []) (blk 16 (bit (all_ones 16))) (k % 16))
    (below_at 64 (λ k. not (check_in 16 (get_or parity16 (k / 16) []) (blk 16 (bit (all_ones 16))) (k % 16))) tt k h))

breaks5 : Holds (breaks 1 (all_ones 16) [])
unfolding code
breaks5 = none_broken 1 (all_ones 16) tt (length_octets 16 (λ n. true) ∙ short_long) ones_met

opens6 : Holds (opens 1 (all_ones 16) (replicate 8 0xFF))
unfolding code code1 octets number
opens6 = codeword_opened 1 (all_ones 16) tt refl (met_codeword 1 tt (all_ones 16) refl ones_met)

-- code 4: the first parity block set
block_bits_lem : lifted code4 (bit (octets 1022 block_bits)) ≡ block_bits
unfolding code code4
block_bits_lem =
    lifted_whole code4 (whole 4 tt) (bit (octets 1022 block_bits))
    ∙ fun_ext (λ n. bit_octets 1022 block_bits n ∙ go n (dec_lt n 8176))
  where
    go : (n : ℕ) → Dec (n < 8176) → (ltb n 8176 && block_bits n) ≡ block_bits n
    go n (yes l) = ap (λ b. b && block_bits n) (lt-ltb n 8176 l)
    go n (no g) =
        ap (λ b. b && block_bits n) (le-ltb n 8176 (omega (arith, lt_of_not-le g)))
        ∙ sym (ap (λ b. leb 7154 n && b) (le-ltb n 7665 (omega (arith, lt_of_not-le g))) ∙ and-false (leb 7154 n))

-- none of its information bits is set, so the encoder's parity is 0
block_parity : (p : ℕ) → parity_bit code4 block_bits p ≡ false
unfolding parity_bit code4 generator511
block_parity p = sum_none 7154 _ (λ n l. ap (λ b. (b && ltb n 7665) && row_bit code4 n p) (lt-leb 7154 n l))

block_met : broken code4 block_bits ≡ 0
block_met = four_quiet block_bits (λ b. eqb b 0) (λ p h. at p h (dec_lt p 511) ∙ ap (λ z. z ⊕ eqb (p / 511) 0) (sym (block_parity p)))
  where
    at : (p : ℕ) → p < 1022 → Dec (p < 511) → block_bits (7154 + p) ≡ eqb (p / 511) 0
    at p h (yes l) =
        let q : p / 511 ≡ 0 = omega arith in
        ap₂ ◌&&◌ (le-leb 7154 (7154 + p) (omega arith)) (lt-ltb (7154 + p) 7665 (omega arith)) ∙ sym (eq-eqb (p / 511) 0 q)
    at p h (no g) =
        let q : p / 511 ≡ 1 = omega (arith, lt_of_not-le g) in
        ap₂ ◌&&◌ (le-leb 7154 (7154 + p) (omega arith)) (le-ltb (7154 + p) 7665 (omega (arith, lt_of_not-le g))) ∙ sym (ap (λ z. eqb z 0) q)

breaks8 : Holds (breaks 4 (octets 1022 block_bits) [])
unfolding code
breaks8 = none_broken 4 (octets 1022 block_bits) tt (length_octets 1022 block_bits ∙ near_long) (ap (broken code4) block_bits_lem
    ∙ block_met)

block_no_codeword : codeword code4 (sent code4 block_bits) ≡ false
unfolding code4 parity511 generator511
block_no_codeword = go (codeword code4 (sent code4 block_bits)) refl
  where
    go : (b : Bool) → codeword code4 (sent code4 block_bits) ≡ b → codeword code4 (sent code4 block_bits) ≡ false
    go false e = e
    go true e =
        absurd (subst T (
        sym (sent_bit code4 block_bits 7154 (lit< tt))
        ∙ codeword_bit code4 published4 (sent code4 block_bits) e 7154 (lit< tt)
        ∙ sent_bit code4 (encoded code4 (lifted code4 (sent code4 block_bits))) 7154 (lit< tt)
        ∙ encoded_parity code4 (lifted code4 (sent code4 block_bits)) 7154 (lit≤ tt)
        ∙ parity_same code4 (lifted code4 (sent code4 block_bits)) block_bits
        (λ n l. lifted_sent code4 block_bits (λ n l. absurd (not-suc-le-zero l)) n (lt_of_lt_of_le l published4.after)) 0
        ∙ block_parity 0) tt)

near_unsent : count code4.unsent block_bits ≤ 0
unfolding code4 count
near_unsent = zero-le

corrects9 : Holds (always 4 (octets 1022 block_bits) 8 0 0 0)
unfolding code ran_correct
corrects9 limit out lo =
    let e : correct_answer 4 (octets 1022 block_bits) limit out ≡ ran_correct code4 block_bits (ended 0 block_bits) out =
    correct_taken 4 (octets 1022 block_bits) limit out tt (length_octets 1022 block_bits ∙ near_long) lo
    ∙ ap (λ x. ran_correct code4 x (run (by_excess code4) limit x) out) block_bits_lem
    ∙ ap (λ r. ran_correct code4 block_bits r out) (run_quiet (by_excess code4) limit block_bits (quiet_next code4 block_bits block_met)) in
    let eight : judged code4 (ended 0 block_bits) ≡ 8 =
    ap₂ (λ q s. when q then 7 else when not s then 8 else 0) (le-ltb 0 (count code4.unsent block_bits) near_unsent) block_no_codeword in
    (ap (λ r. r.number) e ∙ eight, ap (λ r. r.flips) e, ap (λ r. r.first) e ∙ block_met, ap (λ r. r.last) e ∙ block_met)

-- code 1, only bit 0 set: its five checks are broken, and one flip mends it
only_first : (out : List ℕ) → length out ≡ 16
    → correct_answer 1 (only 16 0) 1 out ≡ record {
      number = 0;
      flips = 1;
      first = 5;
      last = 0;
      unlike = 1;
      lowest = lowest code1 (flipped (lifted code1 (bit (replicate 16 0))) 0);
      out = replicate 16 0;
    }
unfolding code code1 parity16
only_first out lo =
    ap (λ w. correct_answer 1 w 1 out) (only_wrong 1 tt 0)
    ∙ one_back 1 tt (replicate 16 0) out refl lo (zeros_octets 1 tt) (zeros_codeword 1 tt) 0 0 (lit< tt)
    ∙ ap (λ d. record {
      number = 0;
      flips = 1;
      first = d;
      last = 0;
      unlike = 1;
      lowest = lowest code1 (flipped (lifted code1 (bit (replicate 16 0))) 0);
      out = replicate 16 0;
    }) degree1

corrects11 : Holds (corrects 1 (only 16 0) 1 0 1 5 0)
unfolding code code1
corrects11 out lo =
    let e = only_first out lo in
    (ap (λ r. r.number) e, ap (λ r. r.flips) e, ap (λ r. r.first) e, ap (λ r. r.last) e)

first_five : broken code1 (lifted code1 (bit (only 16 0))) ≡ 5
unfolding code code1 parity16 ran_correct
first_five =
    sym (ap (λ r. r.first) (correct_taken 1 (only 16 0) 1 (replicate 16 0) tt (length_octets 16 (λ n. eqb n 0)) refl))
    ∙ ap (λ r. r.first) (only_first (replicate 16 0) refl)

corrects10 : Holds (corrects 1 (only 16 0) 0 6 0 5 5)
unfolding code code1 ran_correct
corrects10 out lo =
    let e : correct_answer 1 (only 16 0) 0 out ≡ ran_correct code1 (lifted code1 (bit (only 16 0)))
    (ended 6 (lifted code1 (bit (only 16 0)))) out =
    correct_taken 1 (only 16 0) 0 out tt (length_octets 16 (λ n. eqb n 0)) lo
    ∙ ap (λ r. ran_correct code1 (lifted code1 (bit (only 16 0))) r out) (run_limit (by_excess code1) (lifted code1 (bit (only 16 0))) 0
    (pos 5) next1) in
    (ap (λ r. r.number) e, ap (λ r. r.flips) e, ap (λ r. r.first) e ∙ first_five, ap (λ r. r.last) e ∙ first_five)

-- code 5, code 4's word of information bit 0: that bit is not sent, and no other is worth flipping
same_encoded : encoded code4 (λ n. eqb n 0) ≡ encoded code5 (λ n. eqb n 0)
unfolding encoded parity_bit code4 code5
same_encoded = fun_ext (λ n. refl)

whole_met : broken code5 (encoded code4 (λ n. eqb n 0)) ≡ 0
unfolding code
whole_met = ap (broken code5) same_encoded ∙ encoded_meets 5 tt (λ n. eqb n 0)

first_unsent : 0 < code5.unsent
unfolding code5
first_unsent = lit< tt

corrects12 : Holds (always 5 shortened 5 0 4 4)
unfolding code
corrects12 limit out lo =
    let e = unsent_wrong 5 tt (encoded code4 (λ n. eqb n 0)) whole_met 0 first_unsent
    (λ k h. ap (λ w. w k) same_encoded ∙ encoded_information code5 (λ n. eqb n 0) k (lt_of_lt_of_le h published5.before)) limit out lo in
    let four : degree_of code5 0 ≡ 4 = near_degree 5 tt 0 (lt_of_le_of_lt zero-le published5.some) in
    (ap (λ r. r.number) e, ap (λ r. r.flips) e, ap (λ r. r.first) e ∙ four, ap (λ r. r.last) e ∙ four)

-- lengths and code numbers
input13 : Holds (input 1 15 2)
unfolding correct_answer code code1
input13 word out limit lw = ap (λ z. unless (refusal true z 16 (length out) 16) (refused_correct_of out) (ran_from 1 word limit out)) lw

output14 : Holds (output 1 16 17 3)
unfolding correct_answer code code1
output14 word out limit lw lo = ap₂ (λ z y. unless (refusal true z 16 y 16) (refused_correct_of out) (ran_from 1 word limit out)) lw lo

-- every number that is not offered
pub none_offered : (n : ℕ) → offered n ≡ false → Holds (unoffered n)
unfolding encode_answer check_answer open_answer correct_answer step_answer list_answer
none_offered n e = rw e (
  (λ info out. refl),
  (λ word. refl),
  (λ word. refl),
  (λ word out limit. refl),
  (λ word out. refl),
  (λ word table limit. refl),
)

unopened17 : Holds (unopened 4)
unfolding open_answer
unopened17 word = refl

unstepped18 : Holds (unstepped 5)
unfolding step_answer
unstepped18 word out = refl

pub all_starred : All starred
unfolding starred
all_starred = (
  encodes1,
  (
    breaks2,
    (
      steps3,
      (
        breaks4,
        (
          breaks5,
          (
            opens6,
            (
              breaks7,
              (
                breaks8,
                (
                  corrects9,
                  (
                    corrects10,
                    (
                      corrects11,
                      (corrects12, (input13, (output14, (none_offered 0 refl, (none_offered 6 refl, (unopened17, (unstepped18, tt))))))),
                    ),
                  ),
                ),
              ),
            ),
          ),
        ),
      ),
    ),
  ),
)
