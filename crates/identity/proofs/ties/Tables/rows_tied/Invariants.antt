-- `ties::Tables::rows_tied` meets its contract: the rows passed are tied, so the whole is what is left.
use mathlib.Core.Path.{◌≡◌}
use Prim.Native.Nat.{◌+◌, ◌-◌, ◌*◌}
use Rattle.rules.specs.Identity.{rows_tied_of}
use Rattle.identity.specs.ties.Flat.{pieces, row, parity_of, generator_of}
use Rattle.identity.proofs.ties.Tables.rows_tied.Given as goal

abbrev pub invariant-loop-k : goal.invariant-loop-k
invariant-loop-k l =
    let a = l.self in
    let m = a.sizes.m in
    let rows = a.sizes.rows in
    let count = a.sizes.information_blocks in
    let parts = a.sizes.parity_blocks in
    rows_tied_of m m (parity_of m rows (count + parts) a.parity.now) (generator_of m count parts a.generator.now)
    ≡ rows_tied_of m m
    (pieces (row m (count + parts) a.parity.now) (3 * (count + parts)) (l.k * l.step) (rows - l.k))
    (generator_of m count parts a.generator.now)
