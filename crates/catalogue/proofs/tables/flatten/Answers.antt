-- `tables::flatten`: row after row, the places of the flat list are the entries that they are for. Assumes nothing.
use mathlib.Core.Path.{◌≡◌}
use mathlib.Core.List.{[]}
use Prim.Native.Nat.{◌+◌, ◌*◌, ◌/◌, ◌%◌, ◌≤◌}
use native.Mathlib.Omega.{arith}
use native.Mathlib.Nat.{mul-le-mul_left}
use borrow.Author.Rules.{rules}
use lib.ListN.{length, get_or}
use Rattle.catalogue.specs.tables.Flat.{place_at, flat}
use Rattle.catalogue.proofs.tables.Listed.{filled_row, filled_all, row_place_lem, place_of_row}
use Rattle.catalogue.proofs.tables.flatten.Goals as goal

pub loop-r-preserved : goal.loop-r-preserved
loop-r-preserved g c =
    let b = g.row.BLOCKS in
    let nested = c.args.nested.now in
    let l = c.loop-r in
    let laid = c.flatten_row in
    let wide : length (get_or nested l.r []) ≡ b = search rules in
    let next : l.r + 1 ≤ g.row.ROWS = omega arith in
    filled_row 64 (2 * b) l.r (λ j. place_at nested (j / (2 * b)) (j / 2 % b) (j % 2)) nested l.h laid.new.h l.invariant laid.ensures
    (omega arith) (omega arith) laid.auto.h (omega (arith, mul-le-mul_left (2 * b) next, c.requires.2))
    (λ j hj. let p = place_of_row b l.r j c.requires.1 hj in row_place_lem nested l.r _ _ _ j p.0 p.1 p.2)

pub returns : goal.returns
unfolding flat
returns g c =
    let b = g.row.BLOCKS in
    let l = c.loop-r in
    filled_all 64 (λ j. place_at c.args.nested.now (j / (2 * b)) (j / 2 % b) (j % 2)) l.h (2 * b * l.r) l.invariant
    (omega (arith, mul-le-mul_left (2 * b) c.loop-r-test.false, c.requires.2))
