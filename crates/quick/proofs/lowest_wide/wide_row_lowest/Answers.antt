-- `quickwide::wide_row_lowest`: the groups of the row from where its places begin. Assumes nothing.
use mathlib.Core.Path.{◌≡◌, ◌∙◌}
use Prim.Native.Nat.{◌*◌}
use native.Mathlib.Omega.{arith}
use lib.ListN.{length}
use Rattle.vectors.specs.Vectors.{wbit, from}
use Rattle.rules.specs.Checks.{check}
use Rattle.quick.specs.groups.Groups.{behind}
use Rattle.quick.proofs.lowest_wide.Doubled.{behind_check, least_same}
use borrow.Author.Rules.{rules}
use Rattle.quick.proofs.lowest_wide.wide_row_lowest.Goals as goal

pub returns : goal.returns
returns c code x lent two =
    let sh = c.args.parity.shape in
    let b = c.begin_row in
    let long : length b.new.begins ≡ 32 = search rules in
    let begins = b.new.begins in
    c.groups_lowest.ensures
    ∙ least_same sh.size (behind begins (wbit c.args.d.now)) (from (c.args.r * sh.size) (check code x))
    (behind_check sh c.args.parity.places.now c.args.r c.args.parity.fit c.requires.0 c.requires.2 code x c.args.d.now begins lent two
    b.ensures
    (omega (arith, long, c.requires.1)))
