-- `vectors::load_whole_later` meets its contract: `before` is the word before word k, as it was. Assumes nothing.
use Prim.Native.Nat.{◌*◌}
use Rattle.bits.specs.Bits.{bit}
use Rattle.vectors.specs.Vectors.{Holds, from, later}
use Rattle.vectors.proofs.Filling.{Filled}
use Rattle.vectors.proofs.load_whole_later.Given as goal

abbrev pub invariant-loop-k : goal.invariant-loop-k
invariant-loop-k l =
    Holds l.before (from (64 * l.k) (later 64 (bit l.octets)))
    × Filled l.initial.ws (later l.u (bit l.octets)) l.ws l.k
