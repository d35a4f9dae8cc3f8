-- `vectors::lift` meets its contract: `before` is the word before word k, as it was. Assumes nothing.
use Prim.Native.Nat.{◌*◌}
use Rattle.vectors.specs.Vectors.{wbit, Holds, from, later}
use Rattle.vectors.proofs.Filling.{Filled}
use Rattle.vectors.proofs.lift.Given as goal

abbrev pub invariant-loop-word : goal.invariant-loop-word
invariant-loop-word l = Holds l.before (from (64 * l.word-index) (later 64 (wbit l.initial.ws)))
    × Filled l.initial.ws (later l.u (wbit l.initial.ws)) l.ws l.word-index
