-- The flipping run.
use Rattle.std.specs.Prelude.{List, [], ◌∷◌, ℕ, zero, suc, ◌+◌, ◌-◌, eqb, ℤ, pos}
use Rattle.std.specs.Int.Signed.{lt_z}
use Rattle.bits.specs.Bits.{Word, flipped, when◌then◌else◌}
use Rattle.rules.specs.Codes.{Code, bits}
use Rattle.rules.specs.Checks.{broken, excess}

-- What comes next for a word: no check is broken; or no bit that is sent has an excess above 0, the greatest being this bit's; or this bit,
-- of this excess, is to be flipped.
pub data Next : Type 0 where
  quiet : Next
  stuck : ℕ → ℤ → Next
  flip : ℕ → ℤ → Next

-- A way of choosing says what comes next for each word.
abbrev pub Way : Type 0
Way = Word → Next

-- Of two bits, the later one only if it is greater.
abbrev pub greater : (ℕ → ℤ) → ℕ → ℕ → ℕ
greater f earlier later = when lt_z (f earlier) (f later) then later else earlier

-- Of the n numbers from `first` on, the one where f is greatest; of several, the lowest.
unfoldable pub greatest : ℕ → ℕ → (ℕ → ℤ) → ℕ
greatest first zero f = first
greatest first (suc n) f = greater f (greatest first n f) (first + n)

-- The bit of greatest excess; of several, the lowest number. Bits that are not sent are never candidates.
unfoldable pub greatest_sent : Code → Word → ℕ
greatest_sent c x = greatest c.unsent (bits c - c.unsent) (excess c x)

-- A flip, if the excess is above 0.
abbrev pub flip_above : ℕ → ℤ → Next
flip_above n e = when lt_z (pos 0) e then flip n e else stuck n e

-- The way of the flipping run.
unfoldable pub by_excess : Code → Way
by_excess c x =
    when eqb (broken c x) 0 then quiet
    else (flip_above (greatest_sent c x) (excess c x (greatest_sent c x)))

pub record Flip : Type 0 where
  pub bit : ℕ
  pub excess : ℤ

-- A run: its flips in order, the word at its end, and 0 for a quiet end, 5 or 6 for a refusal.
pub record Run : Type 0 where
  pub flips : List Flip
  pub word : Word
  pub number : ℕ

abbrev pub ended : ℕ → Word → Run
ended number x = record { flips = []; word = x; number = number }

abbrev pub after : ℕ → ℤ → Run → Run
after n e r = record { flips = record { bit = n; excess = e } ∷ r.flips; word = r.word; number = r.number }

-- A run repeats, in this order: 1. no check broken: the run ends quiet; 2. no bit has an excess above 0: refusal 5;
-- 3. as many flips made as the limit allows: refusal 6; 4. flip the bit that is chosen.
unfoldable pub run : Way → ℕ → Word → Run
run way zero x = elim (way x) [ quiet ↦ ended 0 x | stuck n e ↦ ended 5 x | flip n e ↦ ended 6 x ]
run way (suc limit) x = elim (way x) [ quiet ↦ ended 0 x | stuck n e ↦ ended 5 x | flip n e ↦ after n e (run way limit (flipped x n)) ]
