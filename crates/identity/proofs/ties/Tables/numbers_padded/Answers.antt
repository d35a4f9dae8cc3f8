-- `ties::Tables::numbers_padded` meets its contract: the numbers passed are padded, so the whole is what is left.
use mathlib.Core.Path.{sym, ap, ◌∙◌}
use mathlib.Core.Bool.{not}
use Prim.Native.Nat.{ℕ, ◌+◌, ◌-◌, ◌*◌, ◌<◌}
use native.Mathlib.Nat.{add-mul}
use native.Mathlib.Omega.{arith}
use Rattle.rules.specs.Identity.{padded}
use Rattle.identity.specs.ties.Flat.{pieces, joined, words}
use Rattle.identity.proofs.ties.Listed.{more_fits, pieces_start, pieces_next, pieces_none, stops, goes_on}
use Rattle.identity.proofs.ties.Tables.numbers_padded.Goals as goal

pub loop-p-init : goal.loop-p-init
loop-p-init c =
    let a = c.args.self in
    let m = a.sizes.m in
    let parts = a.sizes.parity_blocks in
    ap (padded m) (pieces_start (joined (words m) a.generator.now) (words m) c.args.at parts
    (c.args.at + 0 * c.words-step.result) (omega arith))

pub number_padded-requires : goal.number_padded-requires
number_padded-requires c =
    let h : c.loop-p.p < c.args.self.sizes.parity_blocks = omega arith in
    omega (arith, more_fits (words c.args.self.sizes.m) h, ap (λ (x : ℕ). c.loop-p.p * x) c.words-step.ensures)

pub returns-then-not-number_padded : goal.returns-then-not-number_padded
returns-then-not-number_padded c =
    let a = c.args.self in
    let m = a.sizes.m in
    let parts = a.sizes.parity_blocks in
    let p = c.loop-p.p in
    let s = c.words-step.result in
    let w = words m in
    let N = joined w a.generator.now in
    stops (padded m (pieces N w (c.args.at + (p + 1) * s) (parts - (p + 1)))) c.loop-p.invariant
    (ap (padded m) (pieces_next N w p parts (c.args.at + p * s) (c.args.at + (p + 1) * s) (omega arith) (omega (arith, add-mul p 1 s))))
    c.number_padded.ensures (ap not c.if-not-number_padded.true)

pub loop-p-preserved : goal.loop-p-preserved
loop-p-preserved c =
    let a = c.args.self in
    let m = a.sizes.m in
    let parts = a.sizes.parity_blocks in
    let p = c.loop-p.p in
    let s = c.words-step.result in
    let w = words m in
    let N = joined w a.generator.now in
    goes_on (padded m (pieces N w (c.args.at + (p + 1) * s) (parts - (p + 1)))) c.loop-p.invariant
    (ap (padded m) (pieces_next N w p parts (c.args.at + p * s) (c.args.at + (p + 1) * s) (omega arith) (omega (arith, add-mul p 1 s))))
    c.number_padded.ensures (ap not c.if-not-number_padded.false)

pub returns : goal.returns
returns c =
    let a = c.args.self in
    let m = a.sizes.m in
    let parts = a.sizes.parity_blocks in
    let p = c.loop-p.p in
    let w = words m in
    sym (c.loop-p.invariant
    ∙ ap (padded m) (pieces_none (joined w a.generator.now) w (c.args.at + p * c.words-step.result) (parts - p) (omega arith)))
