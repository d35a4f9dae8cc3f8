-- `ties::Tables::row_tied` meets its contract: the information blocks passed are tied, so the whole is what is left.
use mathlib.Core.Path.{◌≡◌}
use Prim.Native.Nat.{◌+◌, ◌-◌, ◌*◌}
use Rattle.rules.specs.Identity.{row_tied_of}
use Rattle.identity.specs.ties.Flat.{pieces, block, row, words, numbers, generator_of}
use Rattle.identity.proofs.ties.Tables.row_tied.Given as goal

abbrev pub invariant-loop-k : goal.invariant-loop-k
invariant-loop-k l =
    let a = l.self in
    let m = a.sizes.m in
    let count = a.sizes.information_blocks in
    let parts = a.sizes.parity_blocks in
    row_tied_of m m (row m parts a.parity.now l.first) (row m (count + parts) a.parity.now l.place)
    (generator_of m count parts a.generator.now)
    ≡ row_tied_of m m (row m parts a.parity.now l.first)
    (pieces (block m a.parity.now) 3 (l.place + 3 * l.k) (count + parts - l.k))
    (pieces (numbers m parts a.generator.now) (parts * words m) (l.k * l.step) (count - l.k))
