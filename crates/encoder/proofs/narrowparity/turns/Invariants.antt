-- `narrowparity::turns` meets its contract: the sum so far, and what the shifts from this one on add, are the whole. Assumes nothing.
use Prim.Native.Nat.{◌+◌}
use Rattle.vectors.specs.Vectors.{both}
use Rattle.encoder.proofs.parityrows.Laws.{Summed}
use Rattle.encoder.proofs.narrowparity.turns.Given as goal

abbrev pub invariant-loop-shift : goal.invariant-loop-shift
invariant-loop-shift l = Summed l.size l.step (both l.d) l.sum (l.shift-index + 2)
