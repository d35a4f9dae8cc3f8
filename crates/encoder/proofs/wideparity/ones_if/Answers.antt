-- `wideparity::ones_if` meets its contract. Assumes nothing.
use Rattle.encoder.proofs.parityrows.Laws.{if_one, if_none}
use Rattle.encoder.proofs.wideparity.ones_if.Goals as goal

pub returns-then-odd-eq1 : goal.returns-then-odd-eq1
returns-then-odd-eq1 c = λ b e. if_one b c.args.odd e c.if-odd-eq1.true

pub returns-else-odd-eq1 : goal.returns-else-odd-eq1
returns-else-odd-eq1 c = λ b e. if_none b c.args.odd e c.if-odd-eq1.false
