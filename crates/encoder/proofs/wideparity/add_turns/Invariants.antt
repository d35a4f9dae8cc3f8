-- `wideparity::add_turns` meets its contract: what is added so far, and what the shifts from this one on add, are the whole. Assumes
-- nothing.
use Prim.Native.Nat.{◌+◌, ◌*◌}
use Rattle.vectors.specs.Vectors.{wbit}
use Rattle.encoder.proofs.parityrows.Laws.{Added}
use Rattle.encoder.proofs.wideparity.add_turns.Given as goal

abbrev pub invariant-loop-shift : goal.invariant-loop-shift
invariant-loop-shift l =
    Added l.size l.step (wbit l.d) (wbit l.initial.z) (64 * l.at) (64 * (l.at + l.w)) (wbit l.z) (l.shift-index + 2)
