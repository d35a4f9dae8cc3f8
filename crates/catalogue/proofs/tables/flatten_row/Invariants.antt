-- `tables::flatten_row`: after each pass two places more of the row are laid. Assumes nothing.
use Prim.Native.Nat.{◌*◌}
use Rattle.catalogue.specs.tables.Flat.{RowLaid}
use Rattle.catalogue.proofs.tables.flatten_row.Given as goal

abbrev pub invariant-loop-b : goal.invariant-loop-b
invariant-loop-b l = RowLaid l.nested (2 * l.b) l.at l.initial.h l.h
