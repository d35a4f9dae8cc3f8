-- `onedigit::entries_noticed` meets its contract: those passed are counted, and the table is as it was.
use mathlib.Core.Path.{◌≡◌}
use Prim.Native.Nat.{ℕ, ◌*◌, ◌≤◌}
use Rattle.bits.specs.Bits as bits
use Rattle.onedigit.specs.Wrong.{entry_noticed_of}
use Rattle.onedigit.proofs.entries_noticed.Given as goal

abbrev pub invariant-loop-t : goal.invariant-loop-t
invariant-loop-t l =
    (l.t ≤ l.n)
    × (l.n ≤ 65535 * 65536)
    × (l.noticed ≤ l.t)
    × (l.parity ≡ l.initial.parity)
    × ((printed : ℕ) → l.sizes.m ≤ printed
    → l.noticed ≡ bits.count l.t (entry_noticed_of l.sizes printed l.initial.parity l.generator))
