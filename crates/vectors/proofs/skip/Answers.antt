-- `vectors::skip` meets its contract: no bit of the words so far is set. Assumes nothing.
use Prim.Native.Nat.{◌*◌}
use native.Mathlib.Omega.{arith}
use Rattle.vectors.proofs.Firsts.{clear_four}
use Rattle.vectors.proofs.skip.Goals as goal

pub loop-j-preserved : goal.loop-j-preserved
loop-j-preserved c i h =
    clear_four c.args.ws.now (4 * c.loop-j.j) c.loop-j.invariant (λ i. (c.shared_slice_known-1.given i).fits)
    c.if-ws-k-ne0.false i (omega arith)
