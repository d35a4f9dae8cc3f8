-- What a code number fixes of units, as a table.
use Rattle.std.specs.Prelude.{Bool, true, ℕ, eqb}
use Rattle.bits.specs.Bits.{when◌then◌else◌}
use Rattle.units.specs.declared.unitoffers.UnitOffer.{UnitOffer}

abbrev pub short_units : UnitOffer
short_units = record { offered = true; word = 16; information = 8; tail = 16; most = 0x0FFFFFFFFFFFFFFF }

abbrev pub long_units : Bool → UnitOffer
long_units offered = record { offered = offered; word = 64; information = 32; tail = 0; most = 0x0400000000000000 }

abbrev pub unit_offer_of : ℕ → UnitOffer
unit_offer_of n = when eqb n 1 then short_units else long_units (eqb n 3)
