-- `onedigit::laid::flat4`: word i of the flat list is the one that it is for. Assumes nothing.
use mathlib.Core.List.{[]}
use Prim.Native.Nat.{◌/◌, ◌%◌}
use lib.ListN.{get_or}
use Rattle.catalogue.proofs.tables.Listed.{Filled}
use Rattle.onedigit.proofs.laid.flat4.Given as goal

abbrev pub invariant-loop-i : goal.invariant-loop-i
invariant-loop-i l = Filled 16 (λ i. get_or (get_or l.nested (i / 4) []) (i % 4) 0) l.g l.i
