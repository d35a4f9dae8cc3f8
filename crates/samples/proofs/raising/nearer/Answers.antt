-- `raising::nearer`: the check's first place. Assumes nothing.
use mathlib.Core.Path.{sym, ap}
use native.Mathlib.Omega.{arith}
use borrow.Author.Tests.{lt-ltb, le-ltb}
use Prim.Native.Nat.{◌-◌, ◌%◌}
use Rattle.bits.specs.Bits.{when◌then◌else◌}
use Rattle.samples.proofs.raising.nearer.Goals as goal

pub returns-then-p-m : goal.returns-then-p-m
returns-then-p-m c =
    let a = c.args in
    (c.requires.1, sym (ap (λ t. when t then a.p else a.p - a.m) (lt-ltb (a.p % 1024) a.m c.if-p-m.true)))

pub returns : goal.returns
returns c =
    let a = c.args in
    (omega (arith, c.requires.1), sym (ap (λ t. when t then a.p else a.p - a.m) (le-ltb (a.p % 1024) a.m c.if-p-m.false)))
