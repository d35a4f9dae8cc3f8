-- `ties::Tables::block_tied` meets its contract: the differences passed cancel, so the whole is what is left.
use mathlib.Core.Path.{◌≡◌}
use mathlib.Core.Bool.{Bool}
use mathlib.Core.List.{List}
use Prim.Native.Nat.{ℕ, ◌≤◌}
use Rattle.rules.specs.Identity.{cancels}
use Rattle.bits.specs.Bits.{below}
use Rattle.identity.specs.ties.Flat.{block, row, numbers}
use Rattle.identity.proofs.ties.Tables.block_tied.Given as goal

-- The block's identity, by the difference.
abbrev pub at-difference : ℕ → ℕ → List ℕ → ℕ → ℕ → List ℕ → ℕ → ℕ → Bool
at-difference m parts parity information first generator at =
    cancels m m (block m parity information) (row m parts parity first) (numbers m parts generator at)

abbrev pub invariant-loop-d : goal.invariant-loop-d
invariant-loop-d l =
    let a = l.self in
    let m = a.sizes.m in
    let parts = a.sizes.parity_blocks in
    (l.d ≤ m) × (below m (at-difference m parts a.parity.now l.information l.first a.generator.now l.at) ≡ below l.d
    (at-difference m parts a.parity.now l.information l.first a.generator.now l.at))
