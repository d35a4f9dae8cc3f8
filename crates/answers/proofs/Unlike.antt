-- How many bits really differ: never more than the flips, and both even or both odd.
use mathlib.Core.Path.{◌≡◌, refl, sym, ap, ap₂, ◌∙◌}
use mathlib.Core.Bool.{Bool, true, false, ◌&&◌}
use mathlib.Core.List.{List, []}
use Prim.Native.Nat.{ℕ, suc, ◌+◌, ◌-◌, ◌*◌, ◌%◌, ◌≤◌, ◌<◌}
use native.Mathlib.Nat.{zero-add}
use native.Mathlib.Omega.{arith}
use lib.Dec.{T}
use lib.ListN.{length}
use borrow.Author.Tests.{eq-eqb, lt-ltb}
use Rattle.bits.specs.Bits.{Word, bit, count, tally, ◌⊕◌, when◌then◌else◌}
use Rattle.rules.specs.Codes.{Code, code, bits, offered}
use Rattle.rules.specs.Encoding.{lifted, sent, codeword, written}
use Rattle.rules.specs.Flipping.{Way, by_excess, Run, run}
use Rattle.answers.specs.Calls.{judged, differing, ran_correct, correct_answer}
use Rattle.bits.proofs.Counting.{count_none, count_same, count_add}
use Rattle.bits.proofs.Octets.{Octets, bit_octets}
use Rattle.rules.proofs.Runs.{every_run}
use Rattle.rules.proofs.Ways.{Chooses}
use Rattle.rules.proofs.Published.{Published}
use Rattle.rules.proofs.Codewords.{lifted_unsent, lifted_sent_bit, sent_bit}
use Rattle.rules.proofs.Numbers.{published}
use Rattle.answers.proofs.Differing.{differ_self, differ_flip}
use Rattle.answers.proofs.Answers.{correct_cases}
use Rattle.answers.proofs.Corrections.{judged_zero, chooses, codeword_back, one_back, one_wrong}

tally_few : (b : Bool) → tally b ≤ 1
tally_few true = omega arith
tally_few false = omega arith

-- ---- over any way of choosing

-- from y the word at the end is no further from x than y is and flips were made; and the sum of the three is even
pub record Near (c : Code) (x y : Word) (r : Run) : Type 0 where
  pub most : differing c x r.word ≤ differing c x y + length r.flips
  pub even : (differing c x r.word + differing c x y + length r.flips) % 2 ≡ 0

module _ {c : Code} {way : Way} (ch : Chooses c way) (x : Word) where
  stays : (y : Word) (k : ℕ) → Near c x y (record { flips = []; word = y; number = k })
  stays y k = record { most = omega arith; even = omega arith }

  pub run_near : (limit : ℕ) (y : Word) → Near c x y (run way limit y)
  run_near =
      every_run way (λ limit y r. Near c x y r) (λ limit y e. stays y 0) (λ limit y n ex e. stays y 5) (λ y n ex e. stays y 6)
      (λ limit y n ex e r ih.
      let f = differ_flip c x y n (ch.flips y n ex e).under in
      let t = tally_few (x n ⊕ y n) in
      record { most = omega (arith, f, t, ih.most); even = omega (arith, f, t, ih.even) })

  module _ (limit : ℕ) (out : List ℕ) where
    -- never above the flips
    pub ran_unlike : (ran_correct c x (run way limit x) out).unlike ≤ (ran_correct c x (run way limit x) out).flips
    unfolding ran_correct
    ran_unlike = omega (arith, (run_near limit x).most, differ_self c x)

    -- both even or both odd
    pub ran_parity : ((ran_correct c x (run way limit x) out).unlike + (ran_correct c x (run way limit x) out).flips) % 2 ≡ 0
    unfolding ran_correct
    ran_parity = omega (arith, (run_near limit x).even, differ_self c x)

-- ---- over correct's answers

module _ (n : ℕ) (word : List ℕ) (limit : ℕ) (out : List ℕ) where
  pub unlike_within_flips : (correct_answer n word limit out).unlike ≤ (correct_answer n word limit out).flips
  unlike_within_flips =
      correct_cases n word limit out (λ r. r.unlike ≤ r.flips) (omega arith) (omega arith) (omega arith)
      (λ t lw lo. ran_unlike (chooses n t) (lifted (code n) (bit word)) limit out)

  pub unlike_parity : ((correct_answer n word limit out).unlike + (correct_answer n word limit out).flips) % 2 ≡ 0
  unlike_parity =
      correct_cases n word limit out (λ r. (r.unlike + r.flips) % 2 ≡ 0) refl refl refl
      (λ t lw lo. ran_parity (chooses n t) (lifted (code n) (bit word)) limit out)

-- where number is 0 it is the number of places in which the received word and the output differ, code 5's last two apart
places : (c : Code) → Published c → (word : List ℕ) (r : Run) → judged c r ≡ 0
    → differing c (lifted c (bit word)) r.word ≡ count (bits c - c.unsent) (λ i. bit word i ⊕ bit (written c r.word) i)
places c pb word r e =
    let m : bits c ≡ c.unsent + (bits c - c.unsent) = omega (arith, pb.before, pb.after) in
    ap (λ k. count k (λ i. lifted c (bit word) i ⊕ r.word i)) m
    ∙ count_add c.unsent (bits c - c.unsent) (λ i. lifted c (bit word) i ⊕ r.word i)
    ∙ ap₂ (λ a b. a + b)
    (count_none c.unsent (λ i. lifted c (bit word) i ⊕ r.word i)
    (λ i l. ap₂ (λ a b. a ⊕ b) (lifted_unsent c (bit word) i l) (unsent i l)))
    (count_same (bits c - c.unsent) (λ i. lifted c (bit word) (c.unsent + i) ⊕ r.word (c.unsent + i))
    (λ i. bit word i ⊕ bit (written c r.word) i) (λ i l.
    let s : c.unsent + i ≡ i + c.unsent = omega arith in
    ap₂ (λ a b. a ⊕ b) (ap (lifted c (bit word)) s ∙ lifted_sent_bit c (bit word) i)
    (ap r.word s ∙ sym (bit_octets c.octets_of_word (sent c r.word) i
    ∙ ap (λ b. b && sent c r.word i) (lt-ltb i (8 * c.octets_of_word) (omega (arith, pb.fits))) ∙ sent_bit c r.word i l))))
    ∙ zero-add (count (bits c - c.unsent) (λ i. bit word i ⊕ bit (written c r.word) i))
  where
    unsent : (i : ℕ) → i < c.unsent → r.word i ≡ false
    unsent = (judged_zero c r e).1

pub unlike_places : (n : ℕ) (word : List ℕ) (limit : ℕ) (out : List ℕ) → (correct_answer n word limit out).number ≡ 0
    → (correct_answer n word limit out).unlike ≡ count (bits (code n) - (code n).unsent)
    (λ i. bit word i ⊕ bit (correct_answer n word limit out).out i)
unfolding ran_correct
unlike_places n word limit out =
    correct_cases n word limit out (λ r. r.number ≡ 0
    → r.unlike ≡ count (bits (code n) - (code n).unsent) (λ i. bit word i ⊕ bit r.out i))
    (λ q. absurd (omega (arith, q))) (λ q. absurd (omega (arith, q))) (λ q. absurd (omega (arith, q))) (λ t lw lo q.
    let x = lifted (code n) (bit word) in
    let r = run (by_excess (code n)) limit x in
    places (code n) (published n t) word r q
    ∙ ap (λ b. count (bits (code n) - (code n).unsent) (λ i. bit word i ⊕ bit (when b then written (code n) r.word else out) i))
    (sym (eq-eqb (judged (code n) r) 0 q)))

-- a codeword: 0; one wrong covered bit: 1
module _ (n : ℕ) (off : T (offered n)) (word out : List ℕ) (lw : length word ≡ (code n).octets_of_word)
    (lo : length out ≡ (code n).octets_of_word)
    (oct : Octets word) (is : codeword (code n) (bit word) ≡ true) (limit : ℕ) where
  pub codeword_unlike : (correct_answer n word limit out).unlike ≡ 0
  codeword_unlike = ap (λ r. r.unlike) (codeword_back n off word out lw lo oct is limit)

  pub one_unlike : (b : ℕ) → b < bits (code n) - (code n).unsent → (correct_answer n (one_wrong (code n) word b) (suc limit) out).unlike ≡ 1
  one_unlike b h = ap (λ r. r.unlike) (one_back n off word out lw lo oct is limit b h)
