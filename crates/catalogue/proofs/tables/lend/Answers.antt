-- `tables::lend`: each size has its table. Assumes nothing.
use mathlib.Core.Path.{refl}
use native.Mathlib.Omega.{arith}
use Rattle.catalogue.proofs.tables.Lending.{serves_16, serves_32, serves_64, serves_511}
use Rattle.catalogue.proofs.tables.lend.Goals as goal

pub returns-then-size-eq16 : goal.returns-then-size-eq16
returns-then-size-eq16 c = serves_16 _ _ _ (omega arith) c.lend16.ensures c.telecommand_shape.ensures

pub returns-then-size-eq32 : goal.returns-then-size-eq32
returns-then-size-eq32 c = serves_32 _ _ _ (omega arith) c.lend32.ensures c.telecommand_shape-then-size-eq32.ensures

pub returns-then-size-eq64 : goal.returns-then-size-eq64
returns-then-size-eq64 c =
    serves_64 _ _ _ (λ e. omega arith) (λ e. omega arith) (λ e. omega arith) c.lend64.ensures c.telecommand_shape-then-size-eq64.ensures

pub returns : goal.returns
returns c = serves_511 _ _ _ (λ e. omega arith) (λ e. omega arith) (λ e. omega arith) c.lend511.ensures refl
