-- `onedigit::laid::spread`: place i of the list is the one that it is for. Assumes nothing.
use Rattle.catalogue.proofs.tables.Listed.{Filled}
use Rattle.onedigit.specs.Laid.{third_none}
use Rattle.onedigit.proofs.laid.spread.Given as goal

abbrev pub invariant-loop-i : goal.invariant-loop-i
invariant-loop-i l = Filled 96 (third_none l.h) l.p l.i
