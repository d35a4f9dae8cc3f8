-- `ties::Tables::numbers_padded` meets its contract: the numbers passed are padded, so the whole is what is left.
use mathlib.Core.Path.{◌≡◌}
use Prim.Native.Nat.{◌+◌, ◌-◌, ◌*◌}
use Rattle.rules.specs.Identity.{padded}
use Rattle.identity.specs.ties.Flat.{pieces, joined, words, numbers}
use Rattle.identity.proofs.ties.Tables.numbers_padded.Given as goal

abbrev pub invariant-loop-p : goal.invariant-loop-p
invariant-loop-p l =
    let a = l.self in
    let m = a.sizes.m in
    let parts = a.sizes.parity_blocks in
    padded m (numbers m parts a.generator.now l.at)
    ≡ padded m (pieces (joined (words m) a.generator.now) (words m) (l.at + l.p * l.step) (parts - l.p))
