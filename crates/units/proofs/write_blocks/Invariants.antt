-- `units::write_blocks`: the codeblocks so far stand in front. Assumes nothing.
use mathlib.Core.Path.{◌≡◌}
use Rattle.randomiser.specs.Randomiser.{telecommand, randomised}
use Prim.Native.Nat.{◌*◌}
use mathlib.Core.List.{◌++◌}
use lib.ListN.{drop}
use Rattle.units.specs.unitrules.Units.{codeblocks}
use Rattle.units.proofs.write_blocks.Given as goal

abbrev pub invariant-loop-k : goal.invariant-loop-k
invariant-loop-k l =
    l.out ≡ randomised telecommand 0 (codeblocks l.code.number l.information l.k) ++ drop (l.k * l.word) l.initial.out
