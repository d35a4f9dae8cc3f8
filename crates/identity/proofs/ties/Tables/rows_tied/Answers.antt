-- `ties::Tables::rows_tied` meets its contract: the rows passed are tied, so the whole is what is left.
use mathlib.Core.Path.{◌≡◌, sym, ap, ap₂, ◌∙◌}
use mathlib.Core.Bool.{◌&&◌}
use mathlib.Core.List.{List}
use Prim.Native.Nat.{ℕ, ◌+◌, ◌-◌, ◌*◌, ◌<◌}
use native.Mathlib.Nat.{add-mul}
use native.Mathlib.Omega.{arith}
use lib.ListN.{length, drop}
use Rattle.rules.specs.Identity.{row_tied_of, rows_tied_of}
use Rattle.identity.specs.ties.Flat.{pieces, block, row, words, numbers, generator_of}
use Rattle.identity.proofs.ties.Listed.{more_fits, pieces_length, pieces_drop, pieces_start, pieces_next, pieces_none, stops, goes_on}
use Rattle.identity.proofs.ties.Tables.rows_tied.Goals as goal
use mathlib.Core.Path.{ap}
use mathlib.Core.Bool.{not}

-- The parity blocks of a row are those after the information blocks.
parity-blocks : (m count parts at : ℕ) (parity generator : List ℕ)
    → drop (length (generator_of m count parts generator)) (row m (count + parts) parity at) ≡ row m parts parity (at + 3 * count)
parity-blocks m count parts at parity generator =
    let e : at + count * 3 ≡ at + 3 * count = omega arith in
    let n : count + parts - count ≡ parts = omega arith in
    ap (λ (x : ℕ). drop x (row m (count + parts) parity at)) (pieces_length (numbers m parts generator) (parts * words m) 0 count)
    ∙ pieces_drop (block m parity) 3 count at (count + parts) (omega arith)
    ∙ ap₂ (λ (x y : ℕ). pieces (block m parity) 3 x y) e n

-- One row, and the rows left.
rows_step : (m rows count parts k place next : ℕ) (parity generator : List ℕ) → k < rows → next ≡ place + 3 * (count + parts)
    → rows_tied_of m m (pieces (row m (count + parts) parity) (3 * (count + parts)) place (rows - k)) (generator_of m count parts generator)
    ≡ (row_tied_of m m (row m parts parity (place + 3 * count)) (row m (count + parts) parity place) (generator_of m count parts generator)
    && rows_tied_of m m (pieces (row m (count + parts) parity) (3 * (count + parts)) next (rows - (k + 1)))
    (generator_of m count parts generator))
rows_step m rows count parts k place next parity generator h e =
    let w = 3 * (count + parts) in
    let R = row m (count + parts) parity in
    let G = generator_of m count parts generator in
    ap (λ (x : List (List (List ℕ))). rows_tied_of m m x G) (pieces_next R w k rows place next h e)
    ∙ ap (λ (x : List (List ℕ)). row_tied_of m m x (R place) G && rows_tied_of m m (pieces R w next (rows - (k + 1))) G)
    (parity-blocks m count parts place parity generator)

pub loop-k-init : goal.loop-k-init
loop-k-init c =
    let a = c.args.self in
    let m = a.sizes.m in
    let count = a.sizes.information_blocks in
    let parts = a.sizes.parity_blocks in
    ap (λ (x : List (List (List ℕ))). rows_tied_of m m x (generator_of m count parts a.generator.now))
    (pieces_start (row m (count + parts) a.parity.now) (3 * (count + parts)) 0 a.sizes.rows
    (0 * (3 * (count + parts))) (omega arith))

pub row_tied-requires : goal.row_tied-requires
row_tied-requires c =
    let h : c.loop-k.k < c.args.self.sizes.rows = omega arith in
    omega (arith, more_fits (3 * (c.args.self.sizes.information_blocks + c.args.self.sizes.parity_blocks)) h, c.args.self.filled.places)

pub returns-then-not-row_tied : goal.returns-then-not-row_tied
returns-then-not-row_tied c =
    let a = c.args.self in
    let m = a.sizes.m in
    let rows = a.sizes.rows in
    let count = a.sizes.information_blocks in
    let parts = a.sizes.parity_blocks in
    let k = c.loop-k.k in
    let w = 3 * (count + parts) in
    stops (rows_tied_of m m (pieces (row m (count + parts) a.parity.now) w ((k + 1) * w) (rows - (k + 1)))
    (generator_of m count parts a.generator.now))
    c.loop-k.invariant
    (rows_step m rows count parts k (k * w) ((k + 1) * w) a.parity.now a.generator.now (omega arith) (omega (arith, add-mul k 1 w)))
    c.row_tied.ensures (ap not c.if-not-row_tied.true)

pub loop-k-preserved : goal.loop-k-preserved
loop-k-preserved c =
    let a = c.args.self in
    let m = a.sizes.m in
    let rows = a.sizes.rows in
    let count = a.sizes.information_blocks in
    let parts = a.sizes.parity_blocks in
    let k = c.loop-k.k in
    let w = 3 * (count + parts) in
    goes_on (rows_tied_of m m (pieces (row m (count + parts) a.parity.now) w ((k + 1) * w) (rows - (k + 1)))
    (generator_of m count parts a.generator.now))
    c.loop-k.invariant
    (rows_step m rows count parts k (k * w) ((k + 1) * w) a.parity.now a.generator.now (omega arith) (omega (arith, add-mul k 1 w)))
    c.row_tied.ensures (ap not c.if-not-row_tied.false)

pub returns : goal.returns
returns c =
    let a = c.args.self in
    let m = a.sizes.m in
    let count = a.sizes.information_blocks in
    let parts = a.sizes.parity_blocks in
    let k = c.loop-k.k in
    let w = 3 * (count + parts) in
    sym
    (c.loop-k.invariant
    ∙ ap (λ (x : List (List (List ℕ))). rows_tied_of m m x (generator_of m count parts a.generator.now))
    (pieces_none (row m (count + parts) a.parity.now) w (k * w) (a.sizes.rows - k) (omega arith)))
