-- `quickwide::wide_group`: after k passes the bits from the first k beginnings on were added. Assumes nothing.
use Prim.Native.Nat.{◌+◌}
use lib.ListN.{get_or}
use Rattle.bits.specs.Bits.{sum}
use Rattle.vectors.specs.Vectors.{wbit, Holds}
use Rattle.quick.proofs.lowest_wide.wide_group.Given as goal

abbrev pub invariant-loop-begin : goal.invariant-loop-begin
invariant-loop-begin l = Holds l.v (λ i. sum l.begin-index (λ j. wbit l.d (get_or l.begins j 0 + i)))
