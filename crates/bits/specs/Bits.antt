-- Octets and bits, and what is counted and summed of them.
use Rattle.std.specs.Prelude.{Bool, true, false, not, ◌&&◌, List, [], ◌∷◌, ℕ, zero, suc, ◌+◌, ◌-◌, ◌*◌, ◌/◌, ◌%◌, ◌^◌, eqb, get_or}

-- A word is its bits by number. Bits are numbered from 0.
abbrev pub Word : Type 0
Word = ℕ → Bool

-- Bit k of a number that is written with w bits, the most significant first.
abbrev pub digit : ℕ → ℕ → ℕ → Bool
digit w number k = eqb (number / 2 ^ (w - suc k) % 2) 1

-- Bit 0 is the most significant bit of octet 0. Past the last octet every bit is 0.
abbrev pub bit : List ℕ → Word
bit octets n = digit 8 (get_or octets (n / 8) 0) (n % 8)

-- 1 for a bit that is set.
abbrev pub tally : Bool → ℕ
tally true = 1
tally false = 0

-- The number that is written with the first w bits of a word.
unfoldable pub number : ℕ → Word → ℕ
number zero x = 0
number (suc w) x = 2 * number w x + tally (x w)

-- The first n octets of a word.
unfoldable pub octets : ℕ → Word → List ℕ
octets zero x = []
octets (suc n) x = number 8 x ∷ octets n (λ k. x (8 + k))

-- Addition modulo 2.
infixl 33 ◌⊕◌
abbrev pub ◌⊕◌ : Bool → Bool → Bool
true ⊕ b = not b
false ⊕ b = b

-- The sum modulo 2 of the bits 0 to n - 1.
unfoldable pub sum : ℕ → Word → Bool
sum zero x = false
sum (suc n) x = sum n x ⊕ x n

-- How many of the bits 0 to n - 1 are set.
unfoldable pub count : ℕ → Word → ℕ
count zero x = 0
count (suc n) x = count n x + tally (x n)

-- Whether something holds of every number below n.
abbrev pub below : ℕ → (ℕ → Bool) → Bool
below zero f = true
below (suc n) f = f n && below n f

-- The sum modulo 2 over the shifts of a block, and over the shifts of several blocks, which are numbered from b.
abbrev pub over : List ℕ → (ℕ → Bool) → Bool
over [] f = false
over (s ∷ shifts) f = f s ⊕ over shifts f

abbrev pub blocks : List (List ℕ) → ℕ → (ℕ → ℕ → Bool) → Bool
blocks [] b f = false
blocks (shifts ∷ rest) b f = over shifts (f b) ⊕ blocks rest (suc b) f

-- A count over the shifts of a block.
abbrev pub count_of : List ℕ → (ℕ → Bool) → ℕ
count_of [] f = 0
count_of (s ∷ shifts) f = tally (f s) + count_of shifts f

-- Whether two words agree in the bits 0 to n - 1.
unfoldable pub agree : ℕ → Word → Word → Bool
agree zero x y = true
agree (suc n) x y = agree n x y && not (x n ⊕ y n)

-- The word with bit n flipped.
abbrev pub flipped : Word → ℕ → Word
flipped x n k = x k ⊕ eqb k n

-- A choice between two things.
infixr 1 when◌then◌else◌
abbrev pub when◌then◌else◌ : {A : Type 0} → Bool → A → A → A
when true then a else b = a
when false then a else b = b

-- The lowest number below n of which something holds; n if it holds of none.
unfoldable pub least : ℕ → (ℕ → Bool) → ℕ
least zero f = 0
least (suc n) f = when f 0 then 0 else suc (least n (λ k. f (suc k)))
