-- Cases worked out from the definitions alone. Assumes nothing.
use mathlib.Core.Path.{◌≡◌, refl}
use mathlib.Core.Bool.{Bool, true, false}
use mathlib.Core.List.{List, [], ◌∷◌}
use Prim.Native.Nat.{ℕ}
use lib.ListN.{replicate}
use Rattle.bits.specs.Bits.{number, octets, agree}
use Rattle.bch.specs.Bch.{reduced, remainder, encoded, codeword, lowest, bch_encode_answer, refused, judged, bch_check_answer}

abbrev room : List ℕ
room = replicate 8 0

-- Seven zero octets leave nothing: seven ones and the fill bit.
zeros : bch_encode_answer (0 ∷ 0 ∷ 0 ∷ 0 ∷ 0 ∷ 0 ∷ 0 ∷ []) room ≡ record { number = 0; out = 0 ∷ 0 ∷ 0 ∷ 0 ∷ 0 ∷ 0 ∷ 0 ∷ 0xFE ∷ [] }
unfolding bch_encode_answer octets number encoded remainder reduced
zeros = refl

-- The last information bit alone is x^7, which leaves x^6+x^2+1: coefficients 1000101, sent as 0111010.
last_bit : bch_encode_answer (0 ∷ 0 ∷ 0 ∷ 0 ∷ 0 ∷ 0 ∷ 1 ∷ []) room ≡ record { number = 0; out = 0 ∷ 0 ∷ 0 ∷ 0 ∷ 0 ∷ 0 ∷ 1 ∷ 0x74 ∷ [] }
unfolding bch_encode_answer octets number encoded remainder reduced
last_bit = refl

-- The tail sequence that goes with these words is made to be refused, and is, in both modes.
tail_refused : (d : Bool) → bch_check_answer d (0xC5 ∷ 0xC5 ∷ 0xC5 ∷ 0xC5 ∷ 0xC5 ∷ 0xC5 ∷ 0xC5 ∷ 0x79 ∷ []) room ≡ refused 13 room
unfolding bch_check_answer judged codeword agree lowest encoded remainder reduced
tail_refused true = refl
tail_refused false = refl
