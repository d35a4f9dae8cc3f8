-- `ties::Tables::parity_meets` meets its contract: the blocks passed are in the sum, and with those left they give the whole.
use mathlib.Core.Path.{◌≡◌}
use mathlib.Core.Bool.{Bool}
use mathlib.Core.List.{List}
use Prim.Native.Nat.{ℕ, ◌+◌, ◌-◌, ◌*◌, ◌%◌, ◌≤◌}
use lib.ListN.{get_or}
use Rattle.bits.specs.Bits.{◌⊕◌, digit, blocks}
use Rattle.identity.specs.ties.Flat.{row, numbers}
use Rattle.identity.proofs.ties.Tables.parity_meets.Given as goal

-- What a shift of the block of a part meets.
abbrev pub meets : ℕ → ℕ → ℕ → List ℕ → ℕ → ℕ → ℕ → Bool
meets m parts d generator at part s = digit m (get_or (numbers m parts generator at) part 0) ((d + s) % m)

abbrev pub invariant-loop-part : goal.invariant-loop-part
invariant-loop-part l =
    let a = l.self in
    let m = a.sizes.m in
    let parts = a.sizes.parity_blocks in
    let f = meets m parts l.d a.generator.now l.at in
    (l.part ≤ parts)
    × (l.sum ⊕ blocks (row m (parts - l.part) a.parity.now (l.place + 3 * l.part)) l.part f
    ≡ blocks (row m parts a.parity.now l.place) 0 f)
