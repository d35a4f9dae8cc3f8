-- `tables::flatten`: row after row, the places of the flat list are the entries that they are for. Assumes nothing.
use Prim.Native.Nat.{◌*◌, ◌/◌, ◌%◌}
use Rattle.catalogue.specs.tables.Flat.{place_at}
use Rattle.catalogue.proofs.tables.Listed.{Filled}
use Rattle.catalogue.proofs.tables.flatten.Given as goal

abbrev pub invariant-loop-r : goal.invariant-loop-r
invariant-loop-r g l =
    let b = g.row.BLOCKS in
    Filled 64 (λ j. place_at l.nested (j / (2 * b)) (j / 2 % b) (j % 2)) l.h (2 * b * l.r)
