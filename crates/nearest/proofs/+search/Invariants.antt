-- `nearest::search`, by how many bits are left to choose. Assumes nothing.
use mathlib.Core.Path.{◌≡◌}
use Prim.Native.Nat.{◌-◌}
use Rattle.bits.specs.Bits.{Word}
use Rattle.nearest.specs.Nearest.{first_list}
use Rattle.nearest.specs.Answers.{Broken}
use Rattle.nearest.proofs.+search.Given as goal

abbrev pub decreases-search : goal.decreases-search
decreases-search l = l.left

abbrev pub invariant-loop-n : goal.invariant-loop-n
invariant-loop-n l = (x : Word) → Broken l.z x → first_list l.left (128 - l.from) l.from x ≡ first_list l.left (128 - l.n) l.n x
