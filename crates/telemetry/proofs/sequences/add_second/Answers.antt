-- `telemetry::add_second`: the sequence worked out, then added. Assumes nothing.
use mathlib.Core.Path.{◌≡◌}
use Prim.Native.Nat.{◌+◌}
use native.Mathlib.Omega.{arith}
use lib.ListN.{length}
use Rattle.telemetry.specs.sequences.Telemetry.{second}
use borrow.Author.Rules.{rules}
use Rattle.telemetry.proofs.sequences.add_second.Goals as goal

pub returns : goal.returns
returns c =
    let s = c.lay_second in
    let w : length c.args.word.now ≡ 1020 =
    search rules in
    c.add.ensures second 0 (λ i l. s.ensures (0 + i) (omega arith))
