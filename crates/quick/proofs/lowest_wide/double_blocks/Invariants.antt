-- `quickwide::double_blocks`: after b passes the first b blocks stand twice over. Assumes nothing.
use mathlib.Core.Path.{◌≡◌}
use Prim.Native.Nat.{◌≤◌}
use lib.ListN.{length}
use Rattle.vectors.specs.Vectors.{wbit}
use Rattle.quick.specs.groups.Groups.{Twofold}
use Rattle.quick.proofs.lowest_wide.double_blocks.Given as goal

abbrev pub invariant-loop-b : goal.invariant-loop-b
invariant-loop-b l = (l.b ≤ 16) × (length l.d ≡ 256) × Twofold l.b l.sh.size (wbit l.y) l.d
