-- The telemetry sequence.
use mathlib.Core.Path.{◌≡◌, refl, sym, ap, ◌∙◌}
use mathlib.Core.Bool.{false}
use mathlib.Core.List.{[], ◌∷◌}
use Prim.Native.Nat.{ℕ, ◌+◌, ◌*◌, ◌≤◌, ◌<◌}
use native.Mathlib.Omega.{arith}
use lib.Dec.{T}
use lib.ListN.{length, get_or}
use Rattle.bits.specs.Bits.{number}
use Rattle.randomiser.specs.Randomiser.{register, sequence, sequence_octet}
use Rattle.randomiser.proofs.Sequences.{within, walked, walked_octets, octet_again, comes_again, none_full, ones_least}
use Rattle.telemetry.specs.sequences.Telemetry.{telemetry}

pub telemetry_within : T (within telemetry.powers (length telemetry.first))
unfolding telemetry
telemetry_within = tt

telemetry_some : 8 ≤ length telemetry.first
unfolding telemetry
telemetry_some = omega arith

-- it starts FF 48 0E C0 9A
pub telemetry_starts : (sequence_octet telemetry 0 ∷ sequence_octet telemetry 1 ∷ sequence_octet telemetry 2 ∷ sequence_octet telemetry 3
    ∷ sequence_octet telemetry 4 ∷ [])
    ≡ 0xFF ∷ 0x48 ∷ 0x0E ∷ 0xC0 ∷ 0x9A ∷ []
unfolding register telemetry number
telemetry_starts = refl

back : register telemetry 255 ≡ telemetry.first
unfolding register telemetry
back = refl

-- it comes again after 255 bits
pub telemetry_period : (n : ℕ) → sequence telemetry (n + 255) ≡ sequence telemetry n
telemetry_period n = ap (λ r. get_or r 0 false) (comes_again telemetry (omega (arith, telemetry_some)) 255 back n)

telemetry_others : T (none_full telemetry.powers 254 (register telemetry 1))
unfolding register telemetry
telemetry_others = tt

-- and after no fewer
pub telemetry_least : (p : ℕ) → 0 < p → p < 255 → ((n : ℕ) → sequence telemetry (n + p) ≡ sequence telemetry n) → ⊥
unfolding telemetry
telemetry_least p some few = ones_least telemetry (omega arith) refl 254 telemetry_others p some (omega arith)

-- octet i of the table, k times 255 octets on
pub table_octet : (k i : ℕ) → i < 255 → get_or (walked telemetry.powers 255 telemetry.first) i 0 ≡ sequence_octet telemetry (k * 255 + i)
table_octet k i h =
    let e : i + k * 255 ≡ k * 255 + i = omega arith in
    walked_octets telemetry telemetry_some 255 i h
    ∙ sym (octet_again telemetry (omega (arith, telemetry_some)) 255 back i k) ∙ ap (sequence_octet telemetry) e
