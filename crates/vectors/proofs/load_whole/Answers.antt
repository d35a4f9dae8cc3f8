-- `vectors::load_whole` meets its contract: after k passes the first k words have the octets' bits. Assumes nothing.
use mathlib.Core.Path.{ap, ◌∙◌}
use native.Mathlib.Omega.{arith}
use Rattle.bits.specs.Bits.{bit}
use Rattle.vectors.proofs.Filling.{filled_more}
use Rattle.vectors.proofs.load_whole.Goals as goal

pub loop-k-preserved : goal.loop-k-preserved
loop-k-preserved c =
    let a = c.args in
    let l = c.loop-k in
    let x = bit a.octets.now in
    filled_more a.ws.now x l.ws l.k l.invariant c.eight.result (omega arith) (λ i hi. c.eight.ensures i hi ∙ ap x (omega arith))
