-- `wideparity::add_wide` meets its contract: after b passes the rows have the first b blocks. Assumes nothing.
use mathlib.Core.Path.{◌≡◌}
use Prim.Native.Nat.{◌^◌, ◌≤◌, ◌<◌}
use Rattle.bits.specs.Bits.{bit, number}
use Rattle.vectors.specs.Vectors.{wbit, later}
use Rattle.word.specs.ownparity.Odd.{odd_block}
use Rattle.syndromes.specs.Rows.{word_rows}
use Rattle.encoder.proofs.wideparity.add_wide.Given as goal

abbrev pub invariant-loop-b : goal.invariant-loop-b
invariant-loop-b l =
    let x = later l.sent.unsent (bit l.sent.octets.now) in
    (l.b ≤ 14) × (l.odd < 2 ^ 14) × (l.odd ≡ number l.b (odd_block x))
    × (wbit l.z ≡ word_rows l.parity x l.b)
