-- `vectors::trim_word` meets its contract: the words before bit n keep all, and its own word what stands before it. Assumes nothing.
use mathlib.Core.Path.{sym}
use Prim.Native.Nat.{◌*◌, ◌/◌, ◌%◌}
use native.Mathlib.Omega.{arith}
use lib.ListN.{get_or}
use Rattle.vectors.specs.Vectors.{wbit, up_to}
use Rattle.vectors.proofs.Cells.{joined_start}
use Rattle.vectors.proofs.Filling.{word_holds, word_stored}
use Rattle.vectors.proofs.Spans.{up_to_below, front_up_to}
use Rattle.vectors.proofs.trim_word.Goals as goal

pub returns : goal.returns
returns c =
    let ws = c.args.ws.now in
    let n = c.args.n in
    let k = n / 64 in
    let y = wbit ws in
    let v = c.front.result in
    word_stored ws k (up_to n y) y (joined_start (64 * k) (up_to n y) y (λ i h. sym (up_to_below n i y (omega arith)))) v c.requires
    (front_up_to v (get_or ws k 0) k n (n % 64) y c.front.ensures (word_holds ws k) (omega arith))
