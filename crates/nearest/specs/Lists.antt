-- What the theorems say of lists of bits.
use Rattle.std.specs.Prelude.{◌≡◌, ◌⊎◌, true, List, [], ◌∷◌, ℕ, suc, ◌≤◌, ◌<◌, length}
use Rattle.bits.specs.Bits.{Word}
use Rattle.rules.specs.Codes.{code}
use Rattle.rules.specs.Encoding.{codeword}
use Rattle.nearest.specs.Nearest.{flips}

-- The bits of a list are in increasing order, from one bit on and before another.
abbrev pub Rising : ℕ → ℕ → List ℕ → Type 0
Rising from end [] = Unit {0}
Rising from end (b ∷ bits) = (from ≤ b) × (b < end) × Rising (suc b) end bits

-- One list comes before another, or is the same: at the first place where they differ it has the lower bit.
abbrev pub NotAfter : List ℕ → List ℕ → Type 0
NotAfter [] others = Unit {0}
NotAfter (b ∷ bits) [] = ⊥
NotAfter (b ∷ bits) (o ∷ others) = (b < o) ⊎ ((b ≡ o) × NotAfter bits others)

-- A list of just k bits of a word whose flips give a codeword.
pub record Mends (k from end : ℕ) (x : Word) (bits : List ℕ) : Type 0 where
  pub many : length bits ≡ k
  pub rising : Rising from end bits
  pub gives : codeword (code 1) (flips bits x) ≡ true
