-- `ties::Tables::all_padded` meets its contract: the rows passed are padded, so the whole is what is left.
use mathlib.Core.Path.{◌≡◌}
use Prim.Native.Nat.{◌-◌, ◌*◌}
use Rattle.rules.specs.Identity.{all_padded_of}
use Rattle.identity.specs.ties.Flat.{pieces, words, numbers, generator_of}
use Rattle.identity.proofs.ties.Tables.all_padded.Given as goal

abbrev pub invariant-loop-k : goal.invariant-loop-k
invariant-loop-k l =
    let a = l.self in
    let m = a.sizes.m in
    let count = a.sizes.information_blocks in
    let parts = a.sizes.parity_blocks in
    all_padded_of m (generator_of m count parts a.generator.now)
    ≡ all_padded_of m (pieces (numbers m parts a.generator.now) (parts * words m) (l.k * l.step) (count - l.k))
