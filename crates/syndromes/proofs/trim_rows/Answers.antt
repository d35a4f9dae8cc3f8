-- `syndromes::trim_rows` meets its contract: after r passes the first r rows are trimmed. Assumes nothing.
use native.Mathlib.Omega.{arith}
use Rattle.vectors.specs.Vectors.{wbit}
use Rattle.syndromes.specs.Rows.{wide}
use Rattle.syndromes.proofs.Trimming.{within_none}
use Rattle.syndromes.proofs.trim_rows.Goals as goal

pub loop-r-init : goal.loop-r-init
loop-r-init c =
    let a = c.args in
    within_none (wide a.sh) a.sh.size (omega arith) (wbit a.z.now)
