-- `onedigit::entries_tried` meets its contract: those passed are counted.
use mathlib.Core.Path.{◌≡◌}
use Prim.Native.Nat.{◌*◌, ◌≤◌}
use Rattle.bits.specs.Bits.{count}
use Rattle.onedigit.specs.Wrong.{entry_wrong}
use Rattle.onedigit.proofs.entries_tried.Given as goal

abbrev pub invariant-loop-t : goal.invariant-loop-t
invariant-loop-t l =
    (l.t ≤ l.n) × (l.n ≤ 65535 * 65536) × (l.tried ≤ l.t) × (l.tried ≡ count l.t (entry_wrong l.m l.parity))
