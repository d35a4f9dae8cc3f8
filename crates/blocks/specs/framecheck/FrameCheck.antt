-- The CCSDS frame check: a division of polynomials modulo 2.
use Rattle.std.specs.Prelude.{Bool, true, false, List, [], ◌∷◌, ◌++◌, ℕ, zero, suc, ◌+◌, ◌*◌, ◌/◌, ◌%◌, eqb, length, get_or, take}
use Rattle.std.specs.Prelude.{replicate}
use Rattle.bits.specs.Bits.{Word, bit, number, ◌⊕◌}

-- A polynomial modulo 2 is the list of its coefficients, the highest power first: here those that the first n bits of a word are.
unfoldable pub coefficients : ℕ → Word → List Bool
coefficients zero x = []
coefficients (suc n) x = x 0 ∷ coefficients n (λ k. x (suc k))

-- The sum of two, laid one over the other from the first coefficient on.
unfoldable pub plus : List Bool → List Bool → List Bool
plus [] q = q
plus (a ∷ p) [] = a ∷ p
plus (a ∷ p) (b ∷ q) = (a ⊕ b) ∷ plus p q

-- The generator x^16 + x^12 + x^5 + 1: its coefficients after the highest, of x^15 to x^0.
abbrev pub generator : List Bool
generator =
    false ∷ false ∷ false ∷ true ∷ false ∷ false ∷ false ∷ false ∷
    false ∷ false ∷ true ∷ false ∷ false ∷ false ∷ false ∷ true ∷ []

-- Long division by the generator: n times the first coefficient goes, and where it is 1 the generator is subtracted, which
-- modulo 2 is added. The remainder is what is left.
unfoldable pub remainder : ℕ → List Bool → List Bool
remainder zero p = p
remainder (suc n) [] = []
remainder (suc n) (false ∷ p) = remainder n p
remainder (suc n) (true ∷ p) = remainder n (plus generator p)

-- The 16 coefficients of a remainder as a number.
abbrev pub value : List Bool → ℕ
value r = number 16 (λ k. get_or r k false)

-- The frame check over octets: their polynomial times x^16, with all ones added at the start, is divided by the generator.
unfoldable pub frame_check : List ℕ → ℕ
frame_check octets =
    let bits = 8 * length octets in
    value (remainder bits (plus (replicate 16 true) (coefficients (bits + 16) (bit octets))))

-- Octets with their frame check behind them, high octet first.
abbrev pub framed : List ℕ → List ℕ
framed octets = octets ++ (frame_check octets / 256 ∷ frame_check octets % 256 ∷ [])

-- Whether the last two of n + 2 octets are the frame check over the first n.
unfoldable pub sound : ℕ → List ℕ → Bool
sound n frame = eqb (frame_check (take n frame)) (256 * get_or frame n 0 + get_or frame (n + 1) 0)
