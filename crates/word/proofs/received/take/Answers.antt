-- `received::take`: loaded later by the unsent bits, where there are any. Assumes nothing.
use mathlib.Core.Path.{◌∙◌}
use native.Mathlib.Omega.{arith}
use Rattle.bits.specs.Bits.{bit}
use Rattle.word.proofs.received.Handed.{taken_whole, taken_later}
use Rattle.word.proofs.received.take.Goals as goal

pub returns-then-unsent-gt0 : goal.returns-then-unsent-gt0
returns-then-unsent-gt0 c =
    λ k e. c.load_later.ensures ∙ taken_later k c.args.sent.unsent e (bit c.args.sent.octets.now)

pub returns-else-unsent-gt0 : goal.returns-else-unsent-gt0
returns-else-unsent-gt0 c =
    λ k e. c.load.ensures ∙ taken_whole k (omega arith) (bit c.args.sent.octets.now)
