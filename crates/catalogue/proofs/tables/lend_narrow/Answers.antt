-- `tables::lend_narrow`: each size has its table. Assumes nothing.
use mathlib.Core.Path.{ap}
use native.Mathlib.Omega.{arith}
use Rattle.layout.specs.declared.Shape.{Shape}
use Rattle.catalogue.proofs.tables.Lending.{serves_16, serves_32, serves_64}
use Rattle.catalogue.proofs.tables.lend_narrow.Goals as goal

pub returns-then-size-eq16 : goal.returns-then-size-eq16
returns-then-size-eq16 c =
    let e = c.telecommand_shape.ensures in
    (serves_16 _ _ _ (omega arith) c.lend16.ensures e, omega (arith, ap (λ (z : Shape). z.size) e))

pub returns-then-size-eq32 : goal.returns-then-size-eq32
returns-then-size-eq32 c =
    let e = c.telecommand_shape-then-size-eq32.ensures in
    (serves_32 _ _ _ (omega arith) c.lend32.ensures e, omega (arith, ap (λ (z : Shape). z.size) e))

pub returns : goal.returns
returns c =
    let e = c.telecommand_shape-2.ensures in
    (serves_64 _ _ _ (λ q. omega arith) (λ q. omega arith) c.requires.1 c.lend64.ensures e, omega (arith, ap (λ (z : Shape). z.size) e))
