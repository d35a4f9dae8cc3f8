-- A part of the information and its fill, and the codeblocks pass by pass.
use mathlib.Core.Path.{◌≡◌, refl, sym, ap, ap₂, ◌∙◌, subst}
use mathlib.Core.Bool.{true, false}
use mathlib.Core.List.{List, ◌++◌}
use Prim.Native.Nat.{ℕ, ◌+◌, ◌-◌, ◌*◌, ◌≤◌, ◌<◌, ◌/◌}
use native.Mathlib.Nat.{mul-le-mul_left}
use native.Mathlib.Omega.{arith}
use lib.ListN.{length, take, drop, replicate, length-append, length-replicate, length-drop}
use lib.Seq.{take_all, take-append-le, drop-append-le, take-append-add}
use Rattle.rules.specs.Codes.{code, code1, code3}
use Rattle.answers.specs.Calls.{encode_answer, six_set_of}
use Rattle.answers.proofs.Answers.{encode_taken}
use Rattle.units.specs.unitrules.Units.{unit_code, blocks_for, filled, part}
use Rattle.units.proofs.unitrules.Shapes.{both, unit_offered}
use Rattle.units.proofs.unitrules.Blocks.{encoded_of, take-replicate, drop-replicate}

-- a whole part, encoded
pub encode_part : (n : ℕ) (part out : List ℕ) → unit_code n ≡ true → length part ≡ (code n).octets_of_information
    → length out ≡ (code n).octets_of_word
    → encode_answer n part out ≡ record { number = 0; out = encoded_of n part }
encode_part n part out u lp lo = encode_taken n part out (unit_offered n u) lp lo (both (λ n. six_set_of n part ≡ false) refl refl n u)

-- ---- a part and its fill

take_over : (rest fill : List ℕ) (size : ℕ) → length rest ≤ size → take size (rest ++ fill) ≡ rest ++ take (size - length rest) fill
take_over rest fill size h = let e : size ≡ length rest + (size - length rest) = omega arith in ap (λ z. take z (rest ++ fill)) e
    ∙ take-append-add rest fill (size - length rest)

-- the last octets over a buffer of fill
pub fill_part : (rest : List ℕ) (size : ℕ) → length rest ≤ size → size ≤ 32
    → take size (rest ++ drop (length rest) (replicate 32 0x55)) ≡ rest ++ replicate (size - length rest) 0x55
fill_part rest size h few =
    take_over rest (drop (length rest) (replicate 32 0x55)) size h
    ∙ ap (λ z. rest ++ z) (ap (take (size - length rest)) (drop-replicate (length rest) 32 0x55)
    ∙ take-replicate (size - length rest) (32 - length rest) 0x55 (omega arith))

pub from_fits : (n : ℕ) (information : List ℕ) (k size : ℕ) → size ≡ (code n).octets_of_information
    → k * (code n).octets_of_information < length information → k * size < length information
from_fits n information k size e h = subst (λ z. k * z < length information) (sym e) h

room : (long k n : ℕ) → unit_code n ≡ true → k * (code n).octets_of_information < long
    → long - k * (code n).octets_of_information < (code n).octets_of_information
    → (code n).octets_of_information - (long - k * (code n).octets_of_information) ≤ blocks_for n long *
    (code n).octets_of_information - long
unfolding code code1 code3
room long k = both (λ n. k * (code n).octets_of_information < long
    → long - k * (code n).octets_of_information < (code n).octets_of_information
    → (code n).octets_of_information - (long - k * (code n).octets_of_information) ≤ blocks_for n long *
    (code n).octets_of_information - long)
    (λ h s. omega arith) (λ h s. omega arith)

module _ (n : ℕ) (u : unit_code n ≡ true) (information : List ℕ) (k size : ℕ) (e : size ≡ (code n).octets_of_information)
    (h : k * (code n).octets_of_information < length information) where
  from_le : k * (code n).octets_of_information ≤ length information
  from_le = omega arith

  -- part k, where the information does not fill it
  last_part : length information - k * (code n).octets_of_information < (code n).octets_of_information
      → part n information k ≡ drop (k * (code n).octets_of_information) information ++ replicate
      ((code n).octets_of_information - length (drop (k * (code n).octets_of_information) information)) 0x55
  unfolding filled
  last_part short =
      let I = (code n).octets_of_information in
      let D : List ℕ = drop (k * I) information in
      let long : length D ≡ length information - k * I = length-drop (k * I) information in
      ap (take I) (drop-append-le (k * I) information (replicate (blocks_for n (length information) * I - length information) 0x55) from_le)
      ∙ take_over D (replicate (blocks_for n (length information) * I - length information) 0x55) I (omega arith)
      ∙ ap (λ z. D ++ z) (
      take-replicate (I - length D) (blocks_for n (length information) * I - length information) 0x55
      (omega (arith, room (length information) k n u h short, long)))

  pub part_last : length information - k * size < size
      → part n information k ≡ drop (k * size) information ++ replicate
      ((code n).octets_of_information - length (drop (k * size) information))
      0x55
  part_last = subst (λ z. length information - k * z < z
      → part n information k ≡ drop (k * z) information ++ replicate
      ((code n).octets_of_information - length (drop (k * z) information)) 0x55)
      (sym e) last_part

  pub part_whole : size ≤ length information - k * size
      → part n information k ≡ take (k * size + size - k * size) (drop (k * size) information)
  unfolding filled
  part_whole full =
      let I = (code n).octets_of_information in
      let s : k * size + size - k * size ≡ size = omega arith in
      ap (take I) (drop-append-le (k * I) information (replicate (blocks_for n (length information) * I - length information) 0x55) from_le)
      ∙ take-append-le I (drop (k * I) information) (replicate (blocks_for n (length information) * I - length information) 0x55)
      (subst (λ z. z ≤ length (drop (k * z) information)) e (omega (arith, length-drop (k * size) information)))
      ∙ ap (λ z. take z (drop (k * z) information)) (sym e) ∙ ap (λ z. take z (drop (k * size) information)) (sym s)

-- the same, as the buffer is made
module _ (rest copied fill : List ℕ) (size I : ℕ) (ec : copied ≡ rest) (ef : replicate 32 0x55 ≡ fill) (h : length rest < I)
    (es : size ≡ I) (few : size ≤ 32) where
  pub filled_part : take size (copied ++ drop (length rest) fill) ≡ rest ++ replicate (I - length rest) 0x55
  filled_part = ap₂ (λ x y. take size (x ++ drop (length rest) y)) ec (sym ef) ∙ fill_part rest size (omega arith) few
      ∙ ap (λ z. rest ++ replicate (z - length rest) 0x55) es

  pub filled_part_length : length (take size (copied ++ drop (length rest) fill)) ≡ I
  filled_part_length = ap length filled_part ∙ length-append rest (replicate (I - length rest) 0x55)
      ∙ ap (λ z. length rest + z) (length-replicate (I - length rest) 0x55) ∙ omega arith

-- the rest of the information as it is lent
pub lent_rest : (information : List ℕ) (from : ℕ) → take (length information - from) (drop from information) ≡ drop from information
lent_rest information from = take_all (length information - from) (drop from information) (omega (arith, length-drop from information))

-- ---- pass by pass

pub record Goes (long k at word room blocks I : ℕ) : Type 0 where
  pub next : at + word ≤ room
  pub fewer : k < blocks
  pub some : k * I < long

goes_at : (long k n : ℕ) → unit_code n ≡ true → k * (code n).octets_of_word < blocks_for n long * (code n).octets_of_word
    → Goes long k (k * (code n).octets_of_word) (code n).octets_of_word (blocks_for n long * (code n).octets_of_word) (blocks_for n long)
    (code n).octets_of_information
unfolding code code1 code3
goes_at long k = both (λ n. k * (code n).octets_of_word < blocks_for n long * (code n).octets_of_word
    → Goes long k (k * (code n).octets_of_word) (code n).octets_of_word (blocks_for n long * (code n).octets_of_word) (blocks_for n long)
    (code n).octets_of_information)
    (λ h. record { next = omega arith; fewer = omega arith; some = omega arith })
    (λ h. record { next = omega arith; fewer = omega arith; some = omega arith })

pub goes : (long k n at word room : ℕ) → unit_code n ≡ true → word ≡ (code n).octets_of_word → at ≡ k * (code n).octets_of_word
    → room ≡ blocks_for n long * (code n).octets_of_word → at < room
    → Goes long k at word room (blocks_for n long) (code n).octets_of_information
goes long k n at word room u ew ea er h =
    subst (λ w. Goes long k at w room (blocks_for n long) (code n).octets_of_information) (sym ew)
    (subst (λ a. Goes long k a (code n).octets_of_word room (blocks_for n long) (code n).octets_of_information) (sym ea)
    (subst (λ r. Goes long k (k * (code n).octets_of_word) (code n).octets_of_word r (blocks_for n long) (code n).octets_of_information)
    (sym er)
    (goes_at long k n u (subst (λ r. k * (code n).octets_of_word < r) er (subst (λ a. a < room) ea h)))))

-- a part that is one of those that fill a room begins in it
pub begins_in : (k room word : ℕ) → k < room / word → 0 < word → k * word < room
begins_in k room word h some = omega (arith, mul-le-mul_left word h)

-- as many codeblocks as fill the room
pub all_there : (n blocks : ℕ) → unit_code n ≡ true → blocks * (code n).octets_of_word / (code n).octets_of_word ≡ blocks
unfolding code code1 code3
all_there n blocks = both (λ n. blocks * (code n).octets_of_word / (code n).octets_of_word ≡ blocks) (omega arith) (omega arith) n
