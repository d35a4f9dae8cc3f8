-- `ownparity::odd_blocks` meets its contract: after j passes v has a bit for each of the first j blocks. Assumes nothing.
use mathlib.Core.Path.{◌≡◌}
use Prim.Native.Nat.{◌^◌, ◌<◌}
use Rattle.bits.specs.Bits.{number}
use Rattle.vectors.specs.Vectors.{wbit}
use Rattle.word.specs.ownparity.Odd.{odd_block}
use Rattle.word.proofs.ownparity.odd_blocks.Given as goal

abbrev pub invariant-loop-j : goal.invariant-loop-j
invariant-loop-j l = (l.v < 2 ^ 16) × (l.v ≡ number l.j (odd_block (wbit l.y)))
