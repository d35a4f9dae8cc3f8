-- What is handed to correct, what it answers, and what is handed out.
use mathlib.Core.Path.{◌≡◌, refl, sym, ap, ◌∙◌, subst}
use mathlib.Core.Bool.{Bool, true, false, not}
use mathlib.Core.List.{List, ◌++◌}
use Prim.Native.Nat.{ℕ, ◌+◌, ◌-◌, ◌*◌, ◌/◌, ◌≤◌, ◌<◌}
use native.Mathlib.Omega.{arith}
use lib.Dec.{T, eqb, ltb}
use lib.ListN.{length, take, drop, replicate, length-append, length-replicate, length-drop}
use lib.Seq.{length-take-le, take_at, take-append-le}
use borrow.Author.Tests.{eqb-true, eq-eqb, ne_eqb}
use Rattle.bits.specs.Bits.{bit, when◌then◌else◌}
use Rattle.bits.proofs.Octets.{length_octets}
use Rattle.rules.specs.Codes.{code, code1, code3}
use Rattle.rules.specs.Encoding.{lifted, sent, written}
use Rattle.rules.specs.Flipping.{by_excess, run}
use Rattle.answers.specs.Calls.{Corrected, judged, refused_correct_of, ran_correct, correct_answer}
use Rattle.answers.proofs.Answers.{correct_cases}
use Rattle.randomiser.specs.Randomiser.{telecommand}
use Rattle.randomiser.proofs.Randomising.{length_randomised}
use Rattle.units.specs.unitrules.Units.{unit_code, tail, blocks_in_of, received, Reading, Handed}
use Rattle.units.specs.unitrules.Units.{with_out, handed_out, handed_last_of, handed_again_of}
use Rattle.units.specs.unitrules.Units.{read_next_of, read_answer}
use Rattle.units.proofs.unitrules.Shapes.{both, sizes}
use Rattle.units.proofs.unitrules.Blocks.{take-replicate}
use Rattle.units.proofs.unitrules.Answering.{if_is, if_isnt, corrected_at, next_out, next_last}
use Rattle.units.specs.readings.Handing.{handed_part, handed_on_of}
use Rattle.units.proofs.readings.Compared.{block_room}

-- correct's output has a word's length
chosen : (b : Bool) (a out : List ℕ) → length a ≡ length out → length (when b then a else out) ≡ length out
chosen true a out e = e
chosen false a out e = refl

pub correct_length : (n : ℕ) (word : List ℕ) (limit : ℕ) (out : List ℕ) → length (correct_answer n word limit out).out ≡ length out
unfolding ran_correct
correct_length n word limit out = correct_cases n word limit out (λ r. length r.out ≡ length out) refl refl refl (λ t lw lo.
    let r = run (by_excess (code n)) limit (lifted (code n) (bit word)) in
    chosen (eqb (judged (code n) r) 0) (written (code n) r.word) out (length_octets (code n).octets_of_word (sent (code n) r.word)
    ∙ sym lo))

pub received_length : (n : ℕ) (unit : List ℕ) (k : ℕ) → unit_code n ≡ true → k < blocks_in_of n unit
    → length (received n unit k) ≡ (code n).octets_of_word
received_length n unit k u h =
    length_randomised telecommand (k * (code n).octets_of_word) (take (code n).octets_of_word (drop (8 + k * (code n).octets_of_word) unit))
    ∙ length-take-le (code n).octets_of_word (drop (8 + k * (code n).octets_of_word) unit)
    (omega (arith, block_room n unit k (code n).octets_of_word u h refl, length-drop (8 + k * (code n).octets_of_word) unit))

-- a codeblock as it is received in front of a buffer
module _ (n : ℕ) (unit got buffer : List ℕ) (k size : ℕ) (u : unit_code n ≡ true) (h : k < blocks_in_of n unit)
    (es : size ≡ (code n).octets_of_word)
    (eg : got ≡ received n unit k) where
  got_length : length got ≡ size
  got_length = ap length eg ∙ received_length n unit k u h ∙ sym es

  pub got_room : size ≤ length (got ++ drop size buffer)
  got_room = omega (arith, got_length, length-append got (drop size buffer))

  pub got_word : take size (got ++ drop size buffer) ≡ received n unit k
  got_word = take_at got (drop size buffer) size got_length ∙ eg

  pub got_word_length : length (take size (got ++ drop size buffer)) ≡ size
  got_word_length = length-take-le size (got ++ drop size buffer) got_room

-- what correct answers, and writes in front of zeros
module _ (n : ℕ) (word buffer : List ℕ) (limit : ℕ) (u : unit_code n ≡ true) (lw : length word ≡ (code n).octets_of_word)
    (eb : replicate 64 0 ≡ buffer) (r : Corrected) (er : r ≡ correct_answer n word limit (take (length word) buffer)) where
  size_fits : length word ≤ 64
  size_fits = let z = sizes n u in omega (arith, z.whole, z.few, lw)

  zeros : take (length word) buffer ≡ replicate (code n).octets_of_word 0
  zeros = ap (take (length word)) (sym eb) ∙ take-replicate (length word) 64 0 size_fits ∙ ap (λ z. replicate z 0) lw

  corrected_is : r ≡ correct_answer n word limit (replicate (code n).octets_of_word 0)
  corrected_is = er ∙ ap (correct_answer n word limit) zeros

  mended_length : length r.out ≡ length word
  mended_length = ap (λ x. length x.out) corrected_is ∙ correct_length n word limit (replicate (code n).octets_of_word 0)
      ∙ length-replicate (code n).octets_of_word 0 ∙ sym lw

  module _ (long : ℕ) (el : long ≡ (code n).octets_of_information) where
    fits : long ≤ length r.out
    fits = let z = sizes n u in omega (arith, mended_length, lw, z.whole)

    pub mended_room : long ≤ length (r.out ++ drop (length word) buffer)
    mended_room = omega (arith, fits, length-append r.out (drop (length word) buffer))

    pub mended_part_length : length (take long (r.out ++ drop (length word) buffer)) ≡ long
    mended_part_length = length-take-le long (r.out ++ drop (length word) buffer) mended_room

    mended_part : take long (r.out ++ drop (length word) buffer) ≡ take (code n).octets_of_information r.out
    mended_part = take-append-le long r.out (drop (length word) buffer) fits ∙ ap (λ z. take z r.out) el

    pub part_is : (out after : List ℕ) → after ≡ (when eqb r.number 0 then take long (r.out ++ drop (length word) buffer) else out)
        → with_out r after ≡ handed_part n (correct_answer n word limit (replicate (code n).octets_of_word 0)) out
    part_is out after e = ap (with_out r) (e ∙ ap (λ z. when eqb r.number 0 then z else out) mended_part)
        ∙ ap (λ x. handed_part n x out) corrected_is

-- the next codeblock, by what is handed out
module _ (s : Reading) (unit out : List ℕ) (q : Corrected) (e : q ≡ handed_part s.code (corrected_at s unit out) out) where
  pub next_on : q.number ≡ 0 → read_next_of s unit out ≡ handed_on_of s q
  next_on z =
      let r : Corrected = corrected_at s unit out in
      let z' : r.number ≡ 0 = sym (ap (λ x. x.number) e) ∙ z in
      next_out s unit out r refl z'
      ∙ ap (λ y. handed_on_of s (with_out r y)) (sym (if_is (eqb r.number 0) (take (code s.code).octets_of_information r.out) out
      (eq-eqb r.number 0 z')))
      ∙ ap (handed_on_of s) (sym e)

  module _ (d : q.number ≡ 0 → ⊥) where
    other : (corrected_at s unit out).number ≡ 0 → ⊥
    other z = d (ap (λ x. x.number) e ∙ z)

    pub next_refused : read_next_of s unit out ≡ handed_last_of s q out
    next_refused = next_last s unit out (corrected_at s unit out) refl other ∙ ap (λ x. handed_last_of s x out) (sym e)

    pub refused_out : q.out ≡ out
    refused_out =
        let r : Corrected = corrected_at s unit out in
        ap (λ x. x.out) e
        ∙ if_isnt (eqb r.number 0) (take (code s.code).octets_of_information r.out) out (ne_eqb r.number 0 other)

pub place_fits : (n : ℕ) (unit : List ℕ) (k : ℕ) → unit_code n ≡ true → k < blocks_in_of n unit → k < length unit
unfolding code code1 code3 tail
place_fits n unit k = both (λ n. k < (length unit - 8 - length (tail n)) / (code n).octets_of_word → k < length unit) (λ h. omega arith)
    (λ h. omega arith) n

-- a test and what it says
module _ {A : Type 0} (P : A → Type 0) where
  when_not : (b : Bool) (a r : A) → (b ≡ false → P a) → (T b → P r) → P (when not b then a else r)
  when_not true a r f g = g tt
  when_not false a r f g = f refl

  when_long : (octets : List ℕ) (long : ℕ) (a r : A) → P a → (length octets ≡ long → P r)
      → P (when not (eqb (length octets) long) then a else r)
  when_long octets long a r p g = go (eqb (length octets) long) refl
    where
      go : (b : Bool) → eqb (length octets) long ≡ b → P (when not (eqb (length octets) long) then a else r)
      go true e = subst (λ b. P (when not b then a else r)) (sym e) (g (eqb-true (length octets) long e))
      go false e = subst (λ b. P (when not b then a else r)) (sym e) p

-- an asking leaves the output's length as it is
when_is : (b : Bool) → T b → b ≡ true
when_is true t = refl
when_is false t = absurd t

pub read_length : (s : Reading) (unit out : List ℕ) → length (read_answer s unit out).corrected.out ≡ length out
unfolding read_answer read_next_of
read_length s unit out =
    let I = (code s.code).octets_of_information in
    let r = corrected_at s unit out in
    when_not Kept (unit_code s.code) (handed_again_of s (refused_correct_of out 1) false) _ (λ e. refl) (λ t.
    when_long Kept out (code s.code).octets_of_information (handed_again_of s (refused_correct_of out 3) false) _ refl (λ lo.
    pick (not (eqb s.kept.number 0)) (handed_again_of s (with_out s.kept out) false) _ refl (
    pick (not (ltb s.place (blocks_in_of s.code unit))) (handed_again_of s (refused_correct_of out 0) true) _ refl (
    pick (eqb r.number 0) (handed_out s r) (handed_last_of s r out) (
    let z = sizes s.code (when_is (unit_code s.code) t) in
    length-take-le I r.out (omega (
      arith,
      z.whole,
      correct_length s.code (received s.code unit s.place) s.limit
          (replicate (code s.code).octets_of_word 0),
      length-replicate {A = ℕ} (code s.code).octets_of_word 0,
    )) ∙ sym lo) refl))))
  where
    Kept : Handed → Type 0
    Kept h = length h.corrected.out ≡ length out

    pick : (b : Bool) (x y : Handed) → length x.corrected.out ≡ length out → length y.corrected.out ≡ length out
        → length (when b then x else y).corrected.out ≡ length out
    pick true x y p q = p
    pick false x y p q = q
