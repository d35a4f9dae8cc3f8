-- Octets by code number: 0 where the code is not offered, what the table has where it is.
use mathlib.Core.Path.{◌≡◌, sym, ap}
use mathlib.Core.Bool.{true, false}
use Prim.Native.Nat.{ℕ}
use Rattle.bits.specs.Bits.{when◌then◌else◌}
use Rattle.rules.specs.Codes.{code, offered}
use Rattle.answers.specs.Calls.{word_octets_answer, information_octets_answer}

pub word_none : (n : ℕ) → offered n ≡ false → 0 ≡ word_octets_answer n
unfolding word_octets_answer
word_none n e = sym (ap (λ b. when b then (code n).octets_of_word else 0) e)

pub word_some : (n : ℕ) → offered n ≡ true → (code n).octets_of_word ≡ word_octets_answer n
unfolding word_octets_answer
word_some n e = sym (ap (λ b. when b then (code n).octets_of_word else 0) e)

pub information_none : (n : ℕ) → offered n ≡ false → 0 ≡ information_octets_answer n
unfolding information_octets_answer
information_none n e = sym (ap (λ b. when b then (code n).octets_of_information else 0) e)

pub information_some : (n : ℕ) → offered n ≡ true → (code n).octets_of_information ≡ information_octets_answer n
unfolding information_octets_answer
information_some n e = sym (ap (λ b. when b then (code n).octets_of_information else 0) e)
