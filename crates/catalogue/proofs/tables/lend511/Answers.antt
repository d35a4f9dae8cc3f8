-- `tables::lend511`: the constant is the published table's places. Assumes nothing.
use mathlib.Core.Path.{refl}
use Rattle.rules.specs.Tables.{parity511}
use Rattle.catalogue.specs.tables.Flat.{pairs, flat, flat16}
use Rattle.catalogue.proofs.tables.Listed.{flat_as}
use Rattle.catalogue.proofs.tables.lend511.Goals as goal

pub returns : goal.returns
unfolding parity511 flat flat16
returns c = flat_as (flat 16) (pairs parity511) c.flatten.ensures refl
