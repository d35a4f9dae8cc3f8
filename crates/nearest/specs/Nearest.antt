-- The nearest command of code 1, by plain search: the lists of bits, the fewest flips, and the answer of the call.
use Rattle.std.specs.Prelude.{true, List, [], ◌∷◌, ℕ, zero, suc, ltb, length, get_or}
use Rattle.bits.specs.Bits.{Word, bit, octets, flipped, when◌then◌else◌}
use Rattle.rules.specs.Codes.{code}
use Rattle.rules.specs.Encoding.{codeword}
use Rattle.answers.specs.Calls.{refusal, unless}

-- What a search gives: a list of bits, or none.
pub data Found : Type 0 where
  none : Found
  list : List ℕ → Found

-- What is found with a bit chosen before it.
abbrev pub chosen : ℕ → Found → Found
chosen b none = none
chosen b (list bits) = list (b ∷ bits)

-- What is found first; where that is nothing, what is found else.
infixr 2 ◌or_else◌
abbrev pub ◌or_else◌ : Found → Found → Found
none or_else f = f
list bits or_else f = list bits

-- The search, by choosing a bit and searching the rest with one flip fewer left. Of the lists of just so many bits, in increasing order,
-- among the n bits from bit b on, the first whose flips give a codeword: those that begin with bit b come before those without it.
unfoldable pub first_list : ℕ → ℕ → ℕ → Word → Found
first_list zero n b x = when codeword (code 1) x then list [] else none
first_list (suc left) zero b x = none
first_list (suc left) (suc n) b x = chosen b (first_list left n (suc b) (flipped x b)) or_else first_list (suc left) n (suc b) x

-- The fewest flips up to a given reach: the lists of no bits, then those of one more each time, each among all 128 bits.
unfoldable pub fewest : ℕ → Word → Found
fewest zero x = first_list zero 128 0 x
fewest (suc reach) x = fewest reach x or_else first_list (suc reach) 128 0 x

-- A word with the bits of a list flipped.
unfoldable pub flips : List ℕ → Word → Word
flips [] x = x
flips (b ∷ bits) x = flips bits (flipped x b)

-- The call gives that least number and the first such list of bits in increasing order, with the mended word. A list has three places,
-- of which the unused ones are 0.
pub record Reached : Type 0 where
  pub number : ℕ
  pub least : ℕ
  pub bits : List ℕ
  pub out : List ℕ

abbrev pub places : List ℕ → List ℕ
places bits = get_or bits 0 0 ∷ get_or bits 1 0 ∷ get_or bits 2 0 ∷ []

-- Refusals, each with least number 0 and an empty list; nothing is written.
abbrev pub refused : ℕ → List ℕ → Reached
refused number out = record { number = number; least = 0; bits = places []; out = out }

-- What was found, or 17 if no codeword lies within the reach.
unfoldable pub found : Word → List ℕ → Found → Reached
found x out none = refused 17 out
found x out (list bits) = record { number = 0; least = length bits; bits = places bits; out = octets 16 (flips bits x) }

-- A word and an output of 16 octets, and a reach that is offered.
abbrev pub searched : ℕ → Word → List ℕ → Reached
searched reach x out = found x out (fewest reach x)

-- Refusals: 2, 3, then 18 for a reach above 3, then 17. The call takes no code number, so none is refused.
abbrev pub reached : List ℕ → ℕ → List ℕ → Reached
reached word reach out = when ltb 3 reach then refused 18 out else searched reach (bit word) out

unfoldable pub nearest_answer : List ℕ → ℕ → List ℕ → Reached
nearest_answer word reach out =
    unless (refusal true (length word) 16 (length out) 16) (λ number. refused number out) (reached word reach out)
