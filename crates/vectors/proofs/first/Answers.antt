-- `vectors::first` meets its contract: no bit of the words so far is set. Assumes nothing.
use mathlib.Core.Path.{sym}
use Prim.Native.Nat.{◌*◌}
use native.Mathlib.Nat.{pos_of_ne-zero}
use native.Mathlib.Omega.{arith}
use lib.ListN.{length}
use Rattle.bits.proofs.Leasts.{least_none}
use Rattle.vectors.specs.Vectors.{wbit}
use Rattle.vectors.proofs.Firsts.{clear_more, first_of}
use Rattle.vectors.proofs.first.Goals as goal

pub returns-then-ws-k-ne0 : goal.returns-then-ws-k-ne0
returns-then-ws-k-ne0 c =
    let ws = c.args.ws.now in
    let k = c.loop-k.k in
    first_of ws k (omega arith) c.loop-k.invariant (pos_of_ne-zero c.if-ws-k-ne0.true) (c.shared_slice_known-then-ws-k-ne0-1.given k).fits

pub loop-k-preserved : goal.loop-k-preserved
loop-k-preserved c =
    clear_more c.args.ws.now c.loop-k.k c.loop-k.invariant c.if-ws-k-ne0.false

pub returns : goal.returns
returns c =
    let ws = c.args.ws.now in
    sym (least_none (64 * length ws) (wbit ws) (λ i h. c.loop-k.invariant i (omega arith)))
