-- `vectors::ones` meets its contract: n counts the bits of the words so far. Assumes nothing.
use Prim.Native.Nat.{◌*◌}
use native.Mathlib.Omega.{arith}
use lib.Count.{ones-le}
use lib.ListN.{get_or}
use Rattle.vectors.specs.Vectors.{wbit}
use Rattle.bits.proofs.Counting.{count-start, count-le}
use Rattle.vectors.proofs.Counts.{count_word}
use Rattle.vectors.proofs.ones.Goals as goal

pub loop-word-init : goal.loop-word-init
loop-word-init c = count-start (wbit c.args.ws.now)

pub overflow_add-n : goal.overflow_add-n
overflow_add-n c =
    let a = c.args in
    let l = c.loop-word in
    omega (
      arith,
      ones-le 64 (get_or a.ws.now l.word-index 0) (c.type_inv.ws l.word-index).fits,
      count-le (64 * l.word-index) (wbit a.ws.now),
    )

pub loop-word-preserved : goal.loop-word-preserved
loop-word-preserved c =
    let a = c.args in
    let l = c.loop-word in
    omega (arith, count_word a.ws.now l.word-index (c.type_inv.ws l.word-index).fits)
