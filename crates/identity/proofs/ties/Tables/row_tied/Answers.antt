-- `ties::Tables::row_tied` meets its contract: the information blocks passed are tied, so the whole is what is left.
use mathlib.Core.Path.{sym, ap, ap₂, ◌∙◌}
use mathlib.Core.Bool.{not}
use Prim.Native.Nat.{ℕ, ◌+◌, ◌-◌, ◌*◌, ◌<◌}
use native.Mathlib.Nat.{add-mul}
use native.Mathlib.Omega.{arith}
use Rattle.rules.specs.Identity.{row_tied_of}
use Rattle.identity.specs.ties.Flat.{pieces, block, row, words, numbers}
use Rattle.identity.proofs.ties.Listed.{more_fits, pieces_start, pieces_next, pieces_none, stops, goes_on}
use Rattle.identity.proofs.ties.Tables.row_tied.Goals as goal

pub loop-k-init : goal.loop-k-init
loop-k-init c =
    let a = c.args.self in
    let m = a.sizes.m in
    let count = a.sizes.information_blocks in
    let parts = a.sizes.parity_blocks in
    ap₂ (row_tied_of m m (row m parts a.parity.now (c.args.place + 3 * count)))
    (pieces_start (block m a.parity.now) 3 c.args.place (count + parts) (c.args.place + 3 * 0) (omega arith))
    (pieces_start (numbers m parts a.generator.now) (parts * words m) 0 count (0 * c.row_words-step.result) (omega arith))

pub block_tied-requires : goal.block_tied-requires
block_tied-requires c =
    let a = c.args.self in
    let k = c.loop-k.k in
    let h : k < a.sizes.information_blocks = omega arith in (
      omega arith,
      omega arith,
      omega (
        arith,
        more_fits (a.sizes.parity_blocks * words a.sizes.m) h,
        a.filled.numbered,
        ap (λ (x : ℕ). k * x) c.row_words-step.ensures,
      ),
    )

pub returns-then-not-block_tied : goal.returns-then-not-block_tied
returns-then-not-block_tied c =
    let a = c.args.self in
    let m = a.sizes.m in
    let count = a.sizes.information_blocks in
    let parts = a.sizes.parity_blocks in
    let k = c.loop-k.k in
    let s = c.row_words-step.result in
    let w = parts * words m in
    let B = block m a.parity.now in
    let G = numbers m parts a.generator.now in
    let P = row m parts a.parity.now (c.args.place + 3 * count) in
    stops (row_tied_of m m P (pieces B 3 (c.args.place + 3 * (k + 1)) (count + parts - (k + 1)))
    (pieces G w ((k + 1) * s) (count - (k + 1))))
    c.loop-k.invariant
    (ap₂ (row_tied_of m m P)
    (pieces_next B 3 k (count + parts) (c.args.place + 3 * k) (c.args.place + 3 * (k + 1)) (omega arith) (omega arith))
    (pieces_next G w k count (k * s) ((k + 1) * s) (omega arith) (omega (arith, add-mul k 1 s))))
    c.block_tied.ensures (ap not c.if-not-block_tied.true)

pub loop-k-preserved : goal.loop-k-preserved
loop-k-preserved c =
    let a = c.args.self in
    let m = a.sizes.m in
    let count = a.sizes.information_blocks in
    let parts = a.sizes.parity_blocks in
    let k = c.loop-k.k in
    let s = c.row_words-step.result in
    let w = parts * words m in
    let B = block m a.parity.now in
    let G = numbers m parts a.generator.now in
    let P = row m parts a.parity.now (c.args.place + 3 * count) in
    goes_on (row_tied_of m m P (pieces B 3 (c.args.place + 3 * (k + 1)) (count + parts - (k + 1)))
    (pieces G w ((k + 1) * s) (count - (k + 1))))
    c.loop-k.invariant
    (ap₂ (row_tied_of m m P)
    (pieces_next B 3 k (count + parts) (c.args.place + 3 * k) (c.args.place + 3 * (k + 1)) (omega arith) (omega arith))
    (pieces_next G w k count (k * s) ((k + 1) * s) (omega arith) (omega (arith, add-mul k 1 s))))
    c.block_tied.ensures (ap not c.if-not-block_tied.false)

pub returns : goal.returns
returns c =
    let a = c.args.self in
    let m = a.sizes.m in
    let count = a.sizes.information_blocks in
    let parts = a.sizes.parity_blocks in
    let k = c.loop-k.k in
    let P = row m parts a.parity.now (c.args.place + 3 * count) in
    sym
    (c.loop-k.invariant
    ∙ ap (row_tied_of m m P (pieces (block m a.parity.now) 3 (c.args.place + 3 * k) (count + parts - k)))
    (pieces_none (numbers m parts a.generator.now) (parts * words m) (k * c.row_words-step.result) (count - k) (omega arith)))
