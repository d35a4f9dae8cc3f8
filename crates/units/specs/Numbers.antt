-- The writer's number, which lengths alone decide.
use Rattle.std.specs.Prelude.{not, ℕ, eqb}
use Rattle.bits.specs.Bits.{when◌then◌else◌}
use Rattle.units.specs.unitrules.Units.{unit_code, unit_length}

unfoldable pub write_number_of : ℕ → ℕ → ℕ → ℕ
write_number_of n long room =
    when not (unit_code n) then 1
    else when eqb long 0 then 2
    else when not (eqb room (unit_length n long)) then 3
    else 0
