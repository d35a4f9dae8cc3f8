-- `vectors::front` meets its contract. Assumes nothing.
use native.Mathlib.Omega.{arith}
use Rattle.vectors.proofs.Spans.{first_holds}
use Rattle.vectors.proofs.front.Goals as goal

pub returns : goal.returns
returns c =
    first_holds c.args.v c.args.t (omega arith)
