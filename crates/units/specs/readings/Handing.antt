-- What an asking hands out, in the code's steps.
use Rattle.std.specs.Prelude.{false, List, ℕ, suc, eqb, take}
use Rattle.bits.specs.Bits.{when◌then◌else◌}
use Rattle.rules.specs.Codes.{code}
use Rattle.answers.specs.Calls.{Corrected}
use Rattle.units.specs.unitrules.Units.{Reading, Handed, with_out}

-- Correct's numbers, with the information octets of a word that is taken, or the output as it was.
abbrev pub handed_part : ℕ → Corrected → List ℕ → Corrected
handed_part n r out = with_out r (when eqb r.number 0 then take (code n).octets_of_information r.out else out)

-- An answer after which the reading moves on.
abbrev pub handed_on_of : Reading → Corrected → Handed
handed_on_of s r = record {
  corrected = r;
  none = false;
  next = record { kept = s.kept; code = s.code; limit = s.limit; place = suc s.place };
}
