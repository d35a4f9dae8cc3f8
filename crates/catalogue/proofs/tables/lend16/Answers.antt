-- `tables::lend16`: the constant is the published table's places. Assumes nothing.
use mathlib.Core.Path.{refl}
use Rattle.rules.specs.Tables.{parity16}
use Rattle.catalogue.specs.tables.Flat.{pairs, flat, flat8}
use Rattle.catalogue.proofs.tables.Listed.{flat_as}
use Rattle.catalogue.proofs.tables.lend16.Goals as goal

pub returns : goal.returns
unfolding parity16 flat flat8
returns c = flat_as (flat 8) (pairs parity16) c.flatten.ensures refl
