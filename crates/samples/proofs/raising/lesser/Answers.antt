-- `raising::lesser`: the later one only if it is smaller. Assumes nothing.
use native.Mathlib.Omega.{arith}
use lib.ListN.{length}
use Rattle.magnitudes.specs.Patterns.{smaller}
use Rattle.magnitudes.proofs.Patterns.{ordered}
use Rattle.samples.proofs.raising.Orders.{later, swapped}
use Rattle.samples.proofs.raising.lesser.Goals as goal

pub returns-then-a-b : goal.returns-then-a-b
returns-then-a-b c =
    let a = c.args in
    let x = a.samples.now in
    later (smaller x) (length x) (ordered x (length x)) a.a a.b c.smaller.result
    c.requires.0 c.requires.1 (omega arith) c.smaller.ensures

pub returns : goal.returns
returns c =
    let a = c.args in
    let x = a.samples.now in
    let p = later (smaller x) (length x) (ordered x (length x)) a.b a.a
    c.smaller-2.result c.requires.1 c.requires.0 (omega arith) c.smaller-2.ensures in
    (swapped p.0, p.2, p.1)
