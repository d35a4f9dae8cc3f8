-- `ties::Tables::all_padded` meets its contract: the rows passed are padded, so the whole is what is left.
use mathlib.Core.Path.{sym, ap, ◌∙◌}
use mathlib.Core.Bool.{not}
use Prim.Native.Nat.{ℕ, ◌+◌, ◌-◌, ◌*◌, ◌<◌}
use native.Mathlib.Nat.{add-mul}
use native.Mathlib.Omega.{arith}
use Rattle.rules.specs.Identity.{all_padded_of}
use Rattle.identity.specs.ties.Flat.{pieces, words, numbers}
use Rattle.identity.proofs.ties.Listed.{more_fits, pieces_start, pieces_next, pieces_none, stops, goes_on}
use Rattle.identity.proofs.ties.Tables.all_padded.Goals as goal

pub loop-k-init : goal.loop-k-init
loop-k-init c =
    let a = c.args.self in
    let m = a.sizes.m in
    let count = a.sizes.information_blocks in
    let parts = a.sizes.parity_blocks in
    ap (all_padded_of m)
    (pieces_start (numbers m parts a.generator.now) (parts * words m) 0 count (0 * c.row_words-step.result) (omega arith))

pub numbers_padded-requires : goal.numbers_padded-requires
numbers_padded-requires c =
    let h : c.loop-k.k < c.args.self.sizes.information_blocks = omega arith in
    omega (
      arith,
      more_fits (c.args.self.sizes.parity_blocks * words c.args.self.sizes.m) h,
      c.args.self.filled.numbered,
      ap (λ (x : ℕ). c.loop-k.k * x) c.row_words-step.ensures,
    )

pub returns-then-not-numbers_padded : goal.returns-then-not-numbers_padded
returns-then-not-numbers_padded c =
    let a = c.args.self in
    let m = a.sizes.m in
    let count = a.sizes.information_blocks in
    let parts = a.sizes.parity_blocks in
    let k = c.loop-k.k in
    let s = c.row_words-step.result in
    let w = parts * words m in
    let G = numbers m parts a.generator.now in
    stops (all_padded_of m (pieces G w ((k + 1) * s) (count - (k + 1)))) c.loop-k.invariant
    (ap (all_padded_of m) (pieces_next G w k count (k * s) ((k + 1) * s) (omega arith) (omega (arith, add-mul k 1 s))))
    c.numbers_padded.ensures (ap not c.if-not-numbers_padded.true)

pub loop-k-preserved : goal.loop-k-preserved
loop-k-preserved c =
    let a = c.args.self in
    let m = a.sizes.m in
    let count = a.sizes.information_blocks in
    let parts = a.sizes.parity_blocks in
    let k = c.loop-k.k in
    let s = c.row_words-step.result in
    let w = parts * words m in
    let G = numbers m parts a.generator.now in
    goes_on (all_padded_of m (pieces G w ((k + 1) * s) (count - (k + 1)))) c.loop-k.invariant
    (ap (all_padded_of m) (pieces_next G w k count (k * s) ((k + 1) * s) (omega arith) (omega (arith, add-mul k 1 s))))
    c.numbers_padded.ensures (ap not c.if-not-numbers_padded.false)

pub returns : goal.returns
returns c =
    let a = c.args.self in
    let m = a.sizes.m in
    let count = a.sizes.information_blocks in
    let parts = a.sizes.parity_blocks in
    let k = c.loop-k.k in
    sym (c.loop-k.invariant
    ∙ ap (all_padded_of m) (pieces_none (numbers m parts a.generator.now) (parts * words m) (k * c.row_words-step.result)
    (count - k) (omega arith)))
