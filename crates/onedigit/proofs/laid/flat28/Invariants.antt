-- `onedigit::laid::flat28`: word i of the flat list is the one that it is for. Assumes nothing.
use mathlib.Core.List.{[]}
use Prim.Native.Nat.{◌/◌, ◌%◌}
use lib.ListN.{get_or}
use Rattle.catalogue.proofs.tables.Listed.{Filled}
use Rattle.onedigit.proofs.laid.flat28.Given as goal

abbrev pub invariant-loop-i : goal.invariant-loop-i
invariant-loop-i l = Filled 224 (λ i. get_or (get_or (get_or l.nested (i / 16) []) (i / 8 % 2) []) (i % 8) 0) l.g l.i
