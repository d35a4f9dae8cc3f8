-- What a code number fixes, as a table.
use Rattle.std.specs.Prelude.{◌≡◌, Bool, true, false, not, ℕ, eqb}
use Rattle.bits.specs.Bits.{when◌then◌else◌}
use Rattle.rules.specs.Codes.{offered}
use Rattle.layout.specs.declared.Shape.{Shape}
use Rattle.catalogue.specs.declared.offer.Offer.{Offer}

-- Four rows of eight blocks, each in one word.
abbrev pub telecommand_shape : ℕ → Shape
telecommand_shape size = record { size = size; words = 1; blocks = 8; rows = 4 }

abbrev pub telecommand_offer : ℕ → ℕ → ℕ → ℕ → Offer
telecommand_offer word information bits size = record {
  offered = true;
  opens = true;
  steps = true;
  word = word;
  information = information;
  multiple = 1;
  bits = bits;
  unsent = 0;
  fill = 0;
  asked = false;
  shape = record { size = size; words = 1; blocks = 8; rows = 4 };
}

abbrev pub near_earth_offer : Bool → ℕ → ℕ → ℕ → ℕ → ℕ → Offer
near_earth_offer whole word information multiple unsent fill = record {
  offered = true;
  opens = not whole;
  steps = whole;
  word = word;
  information = information;
  multiple = multiple;
  bits = 8176;
  unsent = unsent;
  fill = fill;
  asked = true;
  shape = record { size = 511; words = 8; blocks = 16; rows = 2 };
}

abbrev pub offer_of : ℕ → Offer
offer_of n =
    when eqb n 1 then telecommand_offer 16 8 128 16
    else when eqb n 2 then telecommand_offer 32 16 256 32
    else when eqb n 3 then telecommand_offer 64 32 512 64
    else when eqb n 4 then near_earth_offer true 1022 895 64 0 0
    else when eqb n 5 then near_earth_offer false 1020 892 1 18 2
    else record {
      offered = false;
      opens = false;
      steps = false;
      word = 16;
      information = 8;
      multiple = 1;
      bits = 128;
      unsent = 0;
      fill = 0;
      asked = false;
      shape = record { size = 16; words = 1; blocks = 8; rows = 4 };
    }

-- A record that some code number fixes.
pub record Known (o : Offer) : Type 0 where
  pub number : ℕ
  pub offers : offered number ≡ true
  pub is : o ≡ offer_of number
