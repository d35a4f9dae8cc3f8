-- The information octets of a code are what its number fixes; and what an answer gives, with the zeros behind it.
use mathlib.Core.Path.{◌≡◌, refl, sym, ap, ap₂, ◌∙◌}
use mathlib.Core.Bool.{Bool, true, false}
use mathlib.Core.List.{List, ◌++◌}
use Prim.Native.Nat.{ℕ, ◌-◌, ◌≤◌}
use lib.Dec.{eqb}
use lib.ListN.{take, drop, replicate}
use Rattle.bits.specs.Bits.{when◌then◌else◌}
use Rattle.units.specs.unitrules.Units.{Reading, Handed, with_out, reading_from, read_answer}
use Rattle.units.proofs.unitrules.Blocks.{take-replicate, drop-replicate}
use Rattle.units.specs.unitoffers.Offers.{short_units, long_units, unit_offer_of}
use Rattle.units.specs.unitreader.Named.{room_for, with_zeros, handed_at}

room_of : (n : ℕ) → (unit_offer_of n).information ≡ room_for n
room_of n = go (eqb n 1)
  where
    go : (b : Bool) → (when b then short_units else long_units (eqb n 3)).information ≡ (when b then 8 else 32)
    go true = refl
    go false = refl

-- an answer into the front of a buffer of zeros, with what is left of the buffer behind it
module _ (unit : List ℕ) (place n limit size : ℕ) (is : size ≡ (unit_offer_of n).information) (few : size ≤ 32) (buffer : List ℕ)
    (zeros : replicate 32 0 ≡ buffer) (s : Reading) (at : s ≡ reading_from 0 n limit place) (h : Handed)
    (answers : h ≡ read_answer s unit (take size buffer)) where
  room : size ≡ room_for n
  room = is ∙ room_of n

  front : take size buffer ≡ replicate (room_for n) 0
  front = ap (take size) (sym zeros) ∙ take-replicate size 32 0 few ∙ ap (λ z. replicate z 0) room

  rest : drop size buffer ≡ replicate (32 - room_for n) 0
  rest = ap (drop size) (sym zeros) ∙ drop-replicate size 32 0 ∙ ap (λ z. replicate (32 - z) 0) room

  pub handed_at_lem : record { corrected = with_out h.corrected (h.corrected.out ++ drop size buffer); none = h.none; next = h.next }
      ≡ handed_at unit place n limit
  handed_at_lem = ap (λ z. record { corrected = with_out h.corrected (h.corrected.out ++ z); none = h.none; next = h.next }) rest
      ∙ ap (with_zeros (32 - room_for n)) (answers ∙ ap₂ (λ x z. read_answer x unit z) at front)
