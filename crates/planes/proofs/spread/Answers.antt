-- `planes::spread` meets its contract: all ones or all zeros. Assumes nothing.
use mathlib.Core.Path.{sym, ◌∙◌}
use borrow.Author.Tests.{eq-eqb}
use Rattle.planes.proofs.Digits.{ones_at}
use Rattle.planes.proofs.spread.Goals as goal

pub returns-then-v-eq1 : goal.returns-then-v-eq1
returns-then-v-eq1 c i hi = ones_at 64 i hi ∙ sym (eq-eqb _ 1 c.if-v-eq1.true)
