-- `ties::Tables::parity_meets` meets its contract: the blocks passed are in the sum, and with those left they give the whole.
use mathlib.Core.Path.{◌≡◌, sym, ap, ap₂, ◌∙◌}
use mathlib.Core.Bool.{not, beq}
use mathlib.Core.List.{List}
use Prim.Native.Nat.{ℕ, suc, ◌+◌, ◌-◌, ◌*◌, ◌%◌, ◌<◌}
use native.Mathlib.Omega.{arith}
use lib.ListN.{get_or}
use Rattle.bits.specs.Bits.{◌⊕◌, digit, over, blocks}
use Rattle.identity.specs.ties.Flat.{pieces, block, row, joined, words, numbers}
use Rattle.identity.proofs.ties.Sums.{⊕-false}
use Rattle.identity.proofs.ties.Listed.{more_fits, pieces_at, pieces_none, blocks_step}
use Rattle.identity.proofs.ties.Tables.parity_meets.Goals as goal
use Rattle.identity.proofs.ties.Tables.parity_meets.Invariants.{meets}

pub loop-part-init : goal.loop-part-init
loop-part-init c =
    let a = c.args.self in
    let m = a.sizes.m in
    let parts = a.sizes.parity_blocks in
    let e : parts - 0 ≡ parts = omega arith in
    let l : c.args.place + 3 * 0 ≡ c.args.place = omega arith in (
      omega arith,
      ap₂ (λ (x y : ℕ). blocks (row m x a.parity.now y) 0 (meets m parts c.args.d a.generator.now c.args.at)) e l,
    )

pub block_meets-sum-requires : goal.block_meets-sum-requires
block_meets-sum-requires c =
    let a = c.args.self in
    let parts = a.sizes.parity_blocks in
    let p = c.loop-part.part in
    let h : p < parts = omega arith in
    (omega arith, omega arith, omega (arith, more_fits (words a.sizes.m) h, ap (λ (x : ℕ). p * x) c.words-n.ensures))

pub loop-part-preserved : goal.loop-part-preserved
loop-part-preserved c =
    let a = c.args.self in
    let m = a.sizes.m in
    let parts = a.sizes.parity_blocks in
    let l = c.loop-part in
    let w = words m in
    let f = meets m parts c.args.d a.generator.now c.args.at in
    let B = block m a.parity.now in
    let h : l.part < parts = omega arith in
    let number : joined w a.generator.now (c.args.at + l.part * c.words-n.result) ≡
    get_or (numbers m parts a.generator.now c.args.at) l.part 0 =
    ap (λ (x : ℕ). joined w a.generator.now (c.args.at + l.part * x)) c.words-n.ensures ∙ sym
    (pieces_at (joined w a.generator.now) w l.part c.args.at parts 0 h) in
    let i : c.args.place + 3 * (l.part + 1) ≡ c.args.place + 3 * l.part + 3 = omega arith in
    let j : parts - (l.part + 1) ≡ parts - l.part - 1 = omega arith in
    let k : l.part + 1 ≡ suc l.part = omega arith in
    let sum = not (beq l.sum c.block_meets-sum.result) in (
      omega arith,
      ap₂ (λ (x y : ℕ). sum ⊕ blocks (pieces B 3 x y) (l.part + 1) f) i j
          ∙ ap (λ (x : ℕ). sum ⊕ blocks (pieces B 3 (c.args.place + 3 * l.part + 3) (parts - l.part - 1)) x f) k
          ∙ blocks_step B 3 (c.args.place + 3 * l.part) (parts - l.part) l.part f l.sum (omega arith)
          (c.block_meets-sum.ensures
          ∙ ap (λ (x : ℕ). over (B (c.args.place + 3 * l.part)) (λ s. digit m x ((c.args.d + s) % m))) number)
          ∙ l.invariant.1,
    )

pub returns : goal.returns
returns c =
    let a = c.args.self in
    let m = a.sizes.m in
    let parts = a.sizes.parity_blocks in
    let l = c.loop-part in
    let f = meets m parts c.args.d a.generator.now c.args.at in
    sym (⊕-false l.sum)
    ∙ ap (λ (x : List (List ℕ)). l.sum ⊕ blocks x l.part f)
    (sym (pieces_none (block m a.parity.now) 3 (c.args.place + 3 * l.part) (parts - l.part) (omega arith)))
    ∙ l.invariant.1
