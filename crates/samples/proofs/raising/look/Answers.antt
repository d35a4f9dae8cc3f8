-- `raising::look`: a bit past the block's end is none of its bits. Assumes nothing.
use Prim.Native.Nat.{◌+◌}
use native.Mathlib.Omega.{arith}
use lib.ListN.{get_or}
use Rattle.bits.proofs.Counting.{count-le}
use Rattle.vectors.specs.Vectors.{wbit}
use Rattle.samples.proofs.raising.Seeing.{within_less, look_past}
use Rattle.samples.proofs.raising.look.Goals as goal

pub returns-then-k-m : goal.returns-then-k-m
returns-then-k-m c =
    let a = c.args in (
      c.requires.2,
      λ seen was. look_past a.samples.now (wbit a.d.now) a.starts.now a.from a.n a.m a.first seen a.low.met
          a.low.bit was a.k c.if-k-m.true,
    )

pub broken_of-requires : goal.broken_of-requires
broken_of-requires c =
    let a = c.args in
    within_less a.starts.now a.d.now a.from a.n a.m a.k c.requires.0 (omega (arith, c.if-k-m.false))

pub meet-requires : goal.meet-requires
meet-requires c =
    let a = c.args in (
      omega (arith, c.requires.1, c.if-k-m.false),
      c.requires.0.few,
      omega (arith, c.broken_of.ensures, count-le a.n (λ e. wbit a.d.now (get_or a.starts.now (a.from + e) 0 + a.k))),
      c.requires.2,
    )

pub returns : goal.returns
returns c =
    let a = c.args in
    let f = c.meet.ensures in (
      f.0,
      λ seen was. f.1 (wbit a.d.now) a.starts.now a.from a.m seen (omega (arith, c.if-k-m.false)) c.requires.1
          c.broken_of.ensures was,
    )
