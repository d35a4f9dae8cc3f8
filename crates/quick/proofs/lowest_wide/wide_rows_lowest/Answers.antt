-- `quickwide::wide_rows_lowest`: no check of the rows so far is broken. Assumes nothing.
use mathlib.Core.Path.{◌≡◌, sym, subst}
use Prim.Native.Nat.{◌*◌, ◌<◌}
use native.Mathlib.Omega.{arith}
use Rattle.quick.proofs.groups.Groups.{rows_met}
use Rattle.quick.proofs.lowest_wide.Doubled.{row-found, row_passed}
use Rattle.quick.proofs.lowest_wide.wide_rows_lowest.Goals as goal

pub loop-row-init : goal.loop-row-init
loop-row-init c = (omega arith, λ code x lent two j l. absurd (omega arith))

pub returns-then-l-sh : goal.returns-then-l-sh
returns-then-l-sh c code x lent two =
    let l = c.loop-row in
    let w = c.wide_row_lowest-l in
    row-found code c.args.parity.places.now c.args.parity.shape x lent l.row w.result (omega arith) (w.ensures code x lent two)
    (l.invariant.1 code x lent two) (omega arith)

pub loop-row-preserved : goal.loop-row-preserved
loop-row-preserved c =
    let l = c.loop-row in
    let w = c.wide_row_lowest-l in (
      omega arith,
      λ code x lent two.
          row_passed code c.args.parity.places.now c.args.parity.shape x lent l.row w.result (omega arith) (w.ensures code x lent two)
          (l.invariant.1 code x lent two) (omega arith),
    )

pub returns : goal.returns
returns c code x lent two =
    let a = c.args in
    let l = c.loop-row in
    let e : l.row ≡ a.parity.shape.rows = omega arith in
    rows_met a.parity.shape a.parity.places.now x code lent
    (λ j h. l.invariant.1 code x lent two j (subst (λ z. j < z * a.parity.shape.size) (sym e) h))
