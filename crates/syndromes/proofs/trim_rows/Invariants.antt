-- `syndromes::trim_rows` meets its contract: after r passes the first r rows are trimmed. Assumes nothing.
use mathlib.Core.Path.{◌≡◌}
use Rattle.vectors.specs.Vectors.{wbit}
use Rattle.syndromes.specs.Rows.{within, wide}
use Rattle.syndromes.proofs.trim_rows.Given as goal

abbrev pub invariant-loop-r : goal.invariant-loop-r
invariant-loop-r l = wbit l.z ≡ within (wide l.sh) l.sh.size l.r (wbit l.initial.z)
