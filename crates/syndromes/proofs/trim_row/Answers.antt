-- `syndromes::trim_row` meets its contract: only the last word of a row has bits past bit M. Assumes nothing.
use mathlib.Core.Path.{◌∙◌}
use Prim.Native.Nat.{◌+◌, ◌-◌, ◌*◌, ◌%◌}
use native.Mathlib.Omega.{arith}
use Rattle.syndromes.specs.Rows.{wide}
use Rattle.syndromes.proofs.Trimming.{within_full, within_more}
use Rattle.syndromes.proofs.trim_row.Goals as goal

pub returns-then-t-gt0 : goal.returns-then-t-gt0
returns-then-t-gt0 c x e =
    let a = c.args in
    let w = wide a.sh in
    let m = a.sh.size in
    let q = a.r * a.sh.words + a.sh.words - 1 in
    within_more w m (omega arith) x a.z.now a.r q (m % 64) c.front.result
    (omega arith) (omega arith) (omega arith) (omega arith) e (omega arith) c.front.ensures

pub returns-else-t-gt0 : goal.returns-else-t-gt0
returns-else-t-gt0 c x e =
    let a = c.args in
    e ∙ within_full (wide a.sh) a.sh.size (omega arith) x a.r (omega arith)
