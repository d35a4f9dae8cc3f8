-- `taker::read_place`: a place past 1023 is 0. Assumes nothing.
use mathlib.Core.Path.{sym}
use native.Mathlib.Omega.{arith}
use lib.Dec.{ltb}
use borrow.Author.Tests.{lt-ltb, le-ltb}
use Rattle.telemetry.proofs.taker.Laws.{if_is, if_isnt}
use Rattle.telemetry.proofs.taker.read_place.Goals as goal

pub returns-then-place-lt1024 : goal.returns-then-place-lt1024
returns-then-place-lt1024 c = let p = c.args.place in
    (sym (if_is (ltb p 1024) p 0 (lt-ltb p 1024 c.if-place-lt1024.true)), c.if-place-lt1024.true)

pub returns-else-place-lt1024 : goal.returns-else-place-lt1024
returns-else-place-lt1024 c = let p = c.args.place in (sym (if_isnt (ltb p 1024) p 0 (le-ltb p 1024 c.if-place-lt1024.false)), omega arith)
