-- `vectors::store` meets its contract: after k passes the first 8 k octets stand there, and the last few follow. Assumes nothing.
use mathlib.Core.Path.{◌≡◌}
use Prim.Native.Nat.{ℕ, ◌*◌, ◌^◌, ◌<◌}
use lib.ListN.{length, get_or}
use Rattle.bits.specs.Bits.{bit}
use Rattle.vectors.specs.Vectors.{wbit, from, joined}
use Rattle.vectors.proofs.store.Given as goal

abbrev pub invariant-loop-k : goal.invariant-loop-k
invariant-loop-k l =
    (length l.out ≡ length l.initial.out)
    × (bit l.out ≡ joined (8 * (8 * l.k)) (from l.u (wbit l.ws)) (bit l.initial.out))
    × ((i : ℕ) → get_or l.out i 0 < 2 ^ 8)
